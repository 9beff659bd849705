-- What Basic says of the steps of requests is kept.
use Rattle.std.proofs.Common.{◌≡◌, refl, Bool, true, ℕ, ◌+◌, ◌≤◌, ◌&&◌, ◌||◌, List, [], Option, Some, None, le_refl, arith}
use Rattle.std.specs.Prelude.{nat_le, unwrap_or, not, is_none}
use Rattle.std.specs.List.{list_all}
use Rattle.std.proofs.lemmas.Bool.{and_parts, and_from}
use Rattle.svc_values.specs.meaning.Same.{same_bool}
use Rattle.client_model.specs.declared.input.Input.TheVariants.{Start}
use Rattle.client_model.specs.meaning.Terms.{requested}
use Rattle.outage_schedule.specs.declared.document.Request.{Request}
use Rattle.outage_schedule.specs.declared.item.Served.{Served}
use Rattle.world_model.specs.meaning.Settings.{Setting}
use Rattle.world_model.specs.meaning.Clients.{Doing, Client, step_at}
use Rattle.world_model.specs.meaning.Machines.{Machine}
use Rattle.world_model.specs.meaning.Matching.{Noted}
use Rattle.world_model.specs.records.Basic.{at_most}
use Rattle.world_model.specs.Parts.{is_closed, implies}
use Rattle.world_model.proofs.events.Tests.{le_from, le_to}
use Rattle.world_model.proofs.events.AllLists.{weaker_all}
use Rattle.world_model.proofs.events.AllLinks.{at_link}
use Rattle.world_model.proofs.events.AllClients.{client_passes, now_passes, past_steps, doing_steps}
use Rattle.world_model.proofs.events.ClientsKept.{AreEnded, clients_pass, tick_kept}
use Rattle.world_model.proofs.basic.LinkEnds.{ends_at}
use Rattle.world_model.proofs.events.Moves.{Happens}
use Rattle.world_model.proofs.events.Happened.{at_event}
use Rattle.world_model.proofs.basic.Servers.{event_kept}
use Rattle.world_model.proofs.basic.StepsRise.{rises_at, rises_later, rises_more}

ended_by : (event : ℕ) (ended : Option ℕ) → at_most event ended ≡ true → nat_le (unwrap_or ended 0) (event + 1) ≡ true
ended_by event None is = le_to 0 (event + 1) (omega arith)
ended_by event (Some one) is = let bound : one ≤ event = le_from one event is in le_to one (event + 1) (omega arith)

pub are_ended_at : (m : Machine) → list_all (ends_at m.event) m.links ≡ true → AreEnded (at_event m)
are_ended_at m all number link there =
    let rest : Bool = implies (is_closed link || link.is_cut) (not link.is_open) && implies link.is_open link.is_living in
    ended_by m.event link.ended
    (and_parts (at_most m.event link.ended) rest (and_parts (same_bool link.is_open (is_none link.ended)) (at_most m.event link.ended && rest) (at_link (ends_at m.event) m.links number link all there)).1).0

-- the requests of all clients, with the test at this event and tick
abbrev pub steps_at : ℕ → ℕ → Client → Bool
steps_at event tick client = client_passes (past_steps (rises_at event tick)) (doing_steps (rises_at event tick)) client

client_later : (event tick later_event later_tick : ℕ) → event ≤ later_event → tick ≤ later_tick → (client : Client) → steps_at event tick client ≡ true → steps_at later_event later_tick client ≡ true
client_later event tick later_event later_tick one other client here =
    let parts = and_parts (list_all (past_steps (rises_at event tick)) client.past) (now_passes (doing_steps (rises_at event tick)) client.now) here in
    and_from (list_all (past_steps (rises_at later_event later_tick)) client.past) (now_passes (doing_steps (rises_at later_event later_tick)) client.now)
    (weaker_all (past_steps (rises_at event tick)) (past_steps (rises_at later_event later_tick)) client.past (λ past. rises_later event tick later_event later_tick one other past.steps) parts.0)
    (by client.now parts.1)
  where
    by : (now : Option Doing) → now_passes (doing_steps (rises_at event tick)) now ≡ true → now_passes (doing_steps (rises_at later_event later_tick)) now ≡ true
    by None is = refl
    by (Some doing) is = rises_later event tick later_event later_tick one other doing.steps is

later_all : (event tick later_event later_tick : ℕ) → event ≤ later_event → tick ≤ later_tick → (clients : List Client) → list_all (steps_at event tick) clients ≡ true → list_all (steps_at later_event later_tick) clients ≡ true
later_all event tick later_event later_tick one other clients all = weaker_all (steps_at event tick) (steps_at later_event later_tick) clients (client_later event tick later_event later_tick one other) all

abbrev unbegun : Request → Doing
unbegun request = record { request = request; talk = requested request.settings request.calls; connection = None; steps = [] }

module _ (setting : Setting) (m : Machine) (items left : List Served) (happened : Noted) (n : Machine) (happens : Happens setting (at_event m) items left happened n) where
  pub steps_kept : list_all (ends_at m.event) m.links ≡ true → list_all (steps_at m.event m.tick) m.clients ≡ true → list_all (steps_at n.event n.tick) n.clients ≡ true
  steps_kept ended old =
      let event : n.event ≡ m.event + 1 = event_kept setting (at_event m) items left happened n happens in
      let tick : m.tick ≤ n.tick = tick_kept setting (at_event m) items left happened n happens in
      let started : list_all (steps_at (m.event + 1) m.tick) m.clients ≡ true = later_all m.event m.tick (m.event + 1) m.tick (omega arith) (le_refl m.tick) m.clients old in
      later_all (m.event + 1) m.tick n.event n.tick (omega arith) tick n.clients
      (clients_pass setting (λ e t past. rises_at e t past.steps) (λ e t doing. rises_at e t doing.steps)
      (λ e t doing connection input past here. rises_more e t doing.steps (step_at setting.terms e t (record doing { connection = connection }) input) refl refl here)
      (λ e t doing here. here) (λ e t request. rises_more e t [] (step_at setting.terms e t (unbegun request) Start) refl refl refl)
      (at_event m) (are_ended_at m ended) items left happened n happens started)
