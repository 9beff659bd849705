-- No event adds a client, and none takes one away.
use Rattle.std.proofs.Common.{◌≡◌, refl, ◌∙◌, Bool, true, false, ℕ, suc, zero, length, List, [], ◌∷◌, Option, Some, None, if◌then◌else◌, arith}
use Rattle.std.specs.Prelude.{slice_set, unwrap_or}
use Rattle.std.specs.Option.{option_map_or}
use Rattle.outage_schedule.specs.declared.item.Served.{Served}
use Rattle.pool_core.specs.meaning.Slots.{after_take}
use Rattle.client_model.specs.declared.act.Hold.{Hold}
use Rattle.client_model.specs.declared.input.Input.{Input}
use Rattle.client_model.specs.declared.input.Input.TheVariants.{Waiting, Lent, Opened, TryFailed, Took, Gone}
use Rattle.world_model.specs.meaning.Settings.{Setting}
use Rattle.world_model.specs.meaning.Clients.{Doing, Client, client_at, with_client, doing_at, heard, after_hold, after_step}
use Rattle.world_model.specs.meaning.Acting.{act_at, steps}
use Rattle.world_model.specs.meaning.Links.{with_link, takes}
use Rattle.world_model.specs.meaning.Machines.{Machine}
use Rattle.world_model.specs.meaning.Matching.{Noted}
use Rattle.world_model.specs.meaning.Going.{lost_at_once}
use Rattle.world_model.specs.meaning.Crashing.{falls}
use Rattle.world_model.proofs.events.Moves.{with_pool, next_number, with_new, takes_one, Goes, Rests, Waits, Lends, Opens, Fails, Takes, Loses, ServesLast, LastNone, LastStopped, LastServed, Happens, Nothing, IsStep, Serves, Cuts, Reaps, Crashes, OpensUp, StopsOpening, Ticks, RunsOutside, Asks, Drains}

set_long : (clients : List Client) (index : ℕ) (client : Client) → length (slice_set clients index client) ≡ length clients
set_long [] index client = refl
set_long (first ∷ clients) zero client = omega arith
set_long (first ∷ clients) (suc index) client = let rest : length (slice_set clients index client) ≡ length clients = set_long clients index client in omega arith

pub with_long : (clients : List Client) (number : ℕ) (client : Client) → length (with_client clients number client) ≡ length clients
with_long clients zero client = refl
with_long clients (suc index) client = set_long clients index client

module _ (setting : Setting) where
  step_long : (clients : List Client) (number : ℕ) (doing : Doing) (held : Hold) → length (after_step setting clients number doing held) ≡ length clients
  step_long clients number doing held = by (client_at clients number)
    where
      by : (found : Option Client) → length (option_map_or (λ client. with_client clients number (after_hold setting number client doing held)) found clients) ≡ length clients
      by None = refl
      by (Some client) = with_long clients number (after_hold setting number client doing held)

  steps_long : (a : Machine) (number : ℕ) (doing : Doing) (holds_slot : Bool) (input : Input) → length (steps setting a number doing holds_slot input).clients ≡ length a.clients
  steps_long a number doing holds_slot input = step_long a.clients number (heard setting.terms a.event a.tick doing input) (act_at setting a doing input).hold

  lost_long : (a : Machine) (number : ℕ) (ended : Option ℕ) (doing : Option Doing) → length (lost_at_once setting a number ended doing).clients ≡ length a.clients
  lost_long a number ended None = refl
  lost_long a number ended (Some doing) = steps_long a number (record doing { connection = None }) true (Gone (unwrap_or ended 0))

  unless_long : (a : Machine) (number : ℕ) (ended : Option ℕ) (doing : Option Doing) (alive : Bool) → length (if alive then a else lost_at_once setting a number ended doing).clients ≡ length a.clients
  unless_long a number ended doing true = refl
  unless_long a number ended doing false = lost_long a number ended doing

  goes_long : (m : Machine) (number : ℕ) (n : Machine) → Goes setting m number n → length n.clients ≡ length m.clients
  goes_long m number _ Rests = refl
  goes_long m number _ (Waits doing is answer) = steps_long (with_pool m (after_take m.pool number)) number doing false Waiting
  goes_long m number _ (Lends doing connection link ltxid is answer there held) = steps_long (with_pool m (after_take m.pool number)) number (record doing { connection = Some connection }) true (Lent connection ltxid)
  goes_long m number _ (Opens doing wanted pool is tries up) = steps_long (with_new m pool) number (record doing { connection = Some (next_number m) }) true (Opened (next_number m))
  goes_long m number _ (Fails doing wanted pool is tries down) = steps_long (with_pool m pool) number doing true TryFailed
  goes_long m number _ (Takes doing connection link reply left is on down) =
      let a : Machine = takes_one setting m number doing connection link reply left in
      unless_long a number link.ended (doing_at a.clients number) link.is_open
      ∙ steps_long (record m { links = with_link m.links connection (takes (Took reply.frame link.is_open) reply left link) }) number doing true (Took reply.frame link.is_open)
  goes_long m number _ (Loses doing connection link is on none closed) = steps_long m number (record doing { connection = None }) true (Gone (unwrap_or link.ended 0))

last_long : (m : Machine) (number after : ℕ) (items left : List Served) (failover : Bool) (a : Machine) → ServesLast m number after items left a → length (falls failover a).clients ≡ length m.clients
last_long m number after items left failover _ (LastNone same) = refl
last_long m number after items left failover _ (LastStopped front served is stopped same) = refl
last_long m number after items left failover _ (LastServed front served is over same) = refl

pub happens_long : (setting : Setting) (m : Machine) (items left : List Served) (happened : Noted) (n : Machine) → Happens setting m items left happened n → length n.clients ≡ length m.clients
happens_long setting m items left happened _ (Nothing kind quiet) = refl
happens_long setting m items left happened _ (IsStep number did n moves) = goes_long setting m number n moves
happens_long setting m items left happened _ (Serves number frame front served is ordinary same) = refl
happens_long setting m items left happened _ (Cuts number up down reached link is) = refl
happens_long setting m items left happened _ (Reaps number reaped orphan) = refl
happens_long setting m items left happened _ (Crashes number after failover down a up last) = last_long m number after items left failover a last
happens_long setting m items left happened _ (OpensUp incarnation down may) = refl
happens_long setting m items left happened _ (StopsOpening made down) = refl
happens_long setting m items left happened _ Ticks = refl
happens_long setting m items left happened _ (RunsOutside ran runs) = refl
happens_long setting m items left happened _ (Asks ltxid result runs) = refl
happens_long setting m items left happened _ (Drains closed) = refl
