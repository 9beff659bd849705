-- The ticks and events that requests keep are past, and stay so.
use Rattle.std.proofs.Common.{◌≡◌, refl, Bool, true, ℕ, ◌+◌, ◌≤◌, ◌&&◌, List, [], ◌∷◌, map, Option, Some, None, le_refl, arith}
use Rattle.std.specs.List.{list_all}
use Rattle.std.proofs.lemmas.Bool.{and_parts, and_from}
use Rattle.client_model.specs.declared.input.Input.TheVariants.{Start}
use Rattle.client_model.specs.declared.track.Track.{Track}
use Rattle.client_model.specs.meaning.Terms.{Phase, requested}
use Rattle.client_model.specs.Laws.{track_of}
use Rattle.outage_schedule.specs.declared.document.Request.{Request}
use Rattle.outage_schedule.specs.declared.item.Served.{Served}
use Rattle.world_model.specs.meaning.Settings.{Setting}
use Rattle.world_model.specs.meaning.Clients.{Doing, Past, Client, resting}
use Rattle.world_model.specs.meaning.Machines.{Machine}
use Rattle.world_model.specs.meaning.Matching.{Noted}
use Rattle.world_model.specs.records.Basic.{at_most, waits_from}
use Rattle.world_model.specs.Wanted.{Wanted, wanted_in}
use Rattle.world_model.proofs.events.Tests.{le_from, le_to}
use Rattle.world_model.proofs.events.AllLists.{weaker_all}
use Rattle.world_model.proofs.events.AllClients.{client_passes, now_passes}
use Rattle.world_model.proofs.events.ClientsKept.{clients_pass, tick_kept}
use Rattle.world_model.proofs.basic.LinkEnds.{ends_at}
use Rattle.world_model.proofs.events.Moves.{Happens}
use Rattle.world_model.proofs.events.Happened.{at_event}
use Rattle.world_model.proofs.basic.Servers.{event_kept}
use Rattle.world_model.proofs.basic.BasicSteps.{are_ended_at}
use Rattle.world_model.proofs.basic.TalkTicks.{first_at_most, wanted_at_most, phase_at_most, talk_at_most, hears_so}

-- TICKS -------------------------------------------------------------------------------------------

abbrev pub keeps_at : ℕ → ℕ → Doing → Bool
keeps_at event tick doing = talk_at_most event tick doing.talk

abbrev pub client_keeps : ℕ → ℕ → Client → Bool
client_keeps event tick client = now_passes (keeps_at event tick) client.now

abbrev no_past : Past → Bool
no_past past = true

list_all_passes : (over : Past → Bool) (past : List Past) → ((one : Past) → over one ≡ true) → list_all over past ≡ true
list_all_passes over [] each = refl
list_all_passes over (one ∷ past) each = and_from (over one) (list_all over past) (each one) (list_all_passes over past each)

with_past : (event tick : ℕ) (client : Client) → client_keeps event tick client ≡ true → client_passes no_past (keeps_at event tick) client ≡ true
with_past event tick client here = and_from (list_all no_past client.past) (now_passes (keeps_at event tick) client.now) (list_all_passes no_past client.past (λ one. refl)) here

without_past : (event tick : ℕ) (client : Client) → client_passes no_past (keeps_at event tick) client ≡ true → client_keeps event tick client ≡ true
without_past event tick client here = (and_parts (list_all no_past client.past) (now_passes (keeps_at event tick) client.now) here).1

-- LATER -------------------------------------------------------------------------------------------

at_most_later : (a b : ℕ) → a ≤ b → (number : Option ℕ) → at_most a number ≡ true → at_most b number ≡ true
at_most_later a b below None is = refl
at_most_later a b below (Some one) is = let bound : one ≤ a = le_from one a is in le_to one b (omega arith)

first_later : (a b : ℕ) → a ≤ b → (track : Option Track) → first_at_most a track ≡ true → first_at_most b track ≡ true
first_later a b below None is = refl
first_later a b below (Some track) is = at_most_later a b below track.first is

wanted_later : (a b : ℕ) → a ≤ b → (wanted : Option Wanted) → wanted_at_most a wanted ≡ true → wanted_at_most b wanted ≡ true
wanted_later a b below None is = refl
wanted_later a b below (Some one) is = let bound : one.event ≤ a = le_from one.event a is in le_to one.event b (omega arith)

so_later : (event tick later_event later_tick : ℕ) → event ≤ later_event → tick ≤ later_tick → (doing : Doing) → keeps_at event tick doing ≡ true → keeps_at later_event later_tick doing ≡ true
so_later event tick later_event later_tick one other doing here =
    let phase : Phase = doing.talk.phase in
    let first = and_parts (at_most tick doing.talk.last_try) (phase_at_most event tick phase) here in
    let second = and_parts (at_most tick (waits_from phase)) (first_at_most tick (track_of phase) && wanted_at_most event (wanted_in phase)) first.1 in
    let third = and_parts (first_at_most tick (track_of phase)) (wanted_at_most event (wanted_in phase)) second.1 in
    and_from (at_most later_tick doing.talk.last_try) (phase_at_most later_event later_tick phase) (at_most_later tick later_tick other doing.talk.last_try first.0)
    (and_from (at_most later_tick (waits_from phase)) (first_at_most later_tick (track_of phase) && wanted_at_most later_event (wanted_in phase)) (at_most_later tick later_tick other (waits_from phase) second.0)
    (and_from (first_at_most later_tick (track_of phase)) (wanted_at_most later_event (wanted_in phase)) (first_later tick later_tick other (track_of phase) third.0) (wanted_later event later_event one (wanted_in phase) third.1)))

client_so_later : (event tick later_event later_tick : ℕ) → event ≤ later_event → tick ≤ later_tick → (client : Client) → client_passes no_past (keeps_at event tick) client ≡ true
    → client_passes no_past (keeps_at later_event later_tick) client ≡ true
client_so_later event tick later_event later_tick one other client here =
    let parts = and_parts (list_all no_past client.past) (now_passes (keeps_at event tick) client.now) here in
    and_from (list_all no_past client.past) (now_passes (keeps_at later_event later_tick) client.now) parts.0 (by client.now parts.1)
  where
    by : (now : Option Doing) → now_passes (keeps_at event tick) now ≡ true → now_passes (keeps_at later_event later_tick) now ≡ true
    by None is = refl
    by (Some doing) is = so_later event tick later_event later_tick one other doing is

module _ (setting : Setting) (m : Machine) (items left : List Served) (happened : Noted) (n : Machine) (happens : Happens setting (at_event m) items left happened n) where
  pub ticks_kept : list_all (ends_at m.event) m.links ≡ true → list_all (client_keeps m.event m.tick) m.clients ≡ true → list_all (client_keeps n.event n.tick) n.clients ≡ true
  ticks_kept ended old =
      let event : n.event ≡ m.event + 1 = event_kept setting (at_event m) items left happened n happens in
      let tick : m.tick ≤ n.tick = tick_kept setting (at_event m) items left happened n happens in
      let next : m.event ≤ m.event + 1 = omega arith in
      let now : m.event + 1 ≤ n.event = omega arith in
      let started : list_all (client_passes no_past (keeps_at (m.event + 1) m.tick)) m.clients ≡ true =
      weaker_all (client_passes no_past (keeps_at m.event m.tick)) (client_passes no_past (keeps_at (m.event + 1) m.tick)) m.clients (client_so_later m.event m.tick (m.event + 1) m.tick next (le_refl m.tick))
      (weaker_all (client_keeps m.event m.tick) (client_passes no_past (keeps_at m.event m.tick)) m.clients (with_past m.event m.tick) old) in
      let passed : list_all (client_passes no_past (keeps_at (m.event + 1) m.tick)) n.clients ≡ true =
      clients_pass setting (λ e t past. true) (λ e t doing. talk_at_most e t doing.talk) (λ e t doing connection input past here. hears_so e t setting.terms doing.talk input past here) (λ e t doing here. refl)
      (λ e t request. hears_so e t setting.terms (requested request.settings request.calls) Start refl refl) (at_event m) (are_ended_at m ended) items left happened n happens started in
      weaker_all (client_passes no_past (keeps_at (m.event + 1) m.tick)) (client_keeps n.event n.tick) n.clients
      (λ client here. without_past n.event n.tick client (client_so_later (m.event + 1) m.tick n.event n.tick now tick client here)) passed

-- at the start none is in course
pub none_now : {A : Type 0} (going : Doing → Bool) (script : A → List Request) (all : List A) → list_all (λ client. now_passes going client.now) (map (λ one. resting (script one) []) all) ≡ true
none_now going script [] = refl
none_now going script (one ∷ all) = none_now going script all
