-- A test over all clients is kept in an event if it is kept by each input that a request hears.
use Rattle.std.proofs.Common.{◌≡◌, refl, subst, Bool, true, false, ℕ, ◌≤◌, List, Option, Some, None, if◌then◌else◌, arith}
use Rattle.std.specs.Prelude.{unwrap_or, option_map, option_and_then, nat_le}
use Rattle.std.specs.List.{list_all}
use Rattle.std.specs.Option.{option_or}
use Rattle.client_model.specs.declared.input.Input.{Input}
use Rattle.client_model.specs.declared.input.Input.TheVariants.{Waiting, Lent, Opened, TryFailed, Took, Gone}
use Rattle.client_model.specs.declared.input.Wants.{Wants}
use Rattle.client_model.specs.declared.input.Wants.TheVariants as wants
use Rattle.pool_core.specs.meaning.Slots.{after_take}
use Rattle.outage_schedule.specs.declared.document.Request.{Request}
use Rattle.outage_schedule.specs.declared.item.Served.{Served}
use Rattle.world_model.specs.meaning.Settings.{Setting}
use Rattle.world_model.specs.meaning.Links.{Link, link_at, with_link, takes}
use Rattle.world_model.specs.meaning.Clients.{Doing, Past, Client, client_at, doing_at, heard, begun, past_of}
use Rattle.world_model.specs.meaning.Acting.{steps, act_at}
use Rattle.world_model.specs.meaning.Machines.{Machine}
use Rattle.world_model.specs.meaning.Matching.{Noted}
use Rattle.world_model.specs.meaning.Going.{lost_at_once}
use Rattle.world_model.proofs.events.AllClients.{client_passes, now_passes, step_passes, doing_passes}
use Rattle.world_model.proofs.basic.Servers.{goes_same}
use Rattle.world_model.proofs.events.Moves.{with_pool, with_new, next_number, takes_one, IsDoing, Goes, Rests, Waits, Lends, Opens, Fails, Takes, Loses, ServesLast, LastNone, LastStopped, LastServed, Happens, Nothing, IsStep, Serves, Cuts, Reaps, Crashes, OpensUp, StopsOpening, Ticks, RunsOutside, Asks, Drains}

-- the loss that is told is past
abbrev pub is_past_input : ℕ → Input → Bool
is_past_input event (Gone ended) = nat_le ended event
is_past_input event _ = true

-- each connection that ended did so by an event so far
abbrev pub AreEnded : Machine → Type 0
AreEnded m = (number : ℕ) (link : Link) → link_at m.links number ≡ Some link → nat_le (unwrap_or link.ended 0) m.event ≡ true

module _ (setting : Setting) (over : ℕ → ℕ → Past → Bool) (going : ℕ → ℕ → Doing → Bool)
    (hears : (event tick : ℕ) (doing : Doing) (connection : Option ℕ) (input : Input) → is_past_input event input ≡ true → going event tick doing ≡ true
    → going event tick (heard setting.terms event tick (record doing { connection = connection }) input) ≡ true)
    (overs : (event tick : ℕ) (doing : Doing) → going event tick doing ≡ true → over event tick (past_of setting.terms doing) ≡ true)
    (begins : (event tick : ℕ) (request : Request) → going event tick (begun setting.terms event tick request) ≡ true) where
  abbrev pub passes : ℕ → ℕ → List Client → Bool
  passes event tick clients = list_all (client_passes (over event tick) (going event tick)) clients

  steps_pass : (a : Machine) (number : ℕ) (doing : Doing) (connection : Option ℕ) (holds_slot : Bool) (input : Input) → is_past_input a.event input ≡ true → passes a.event a.tick a.clients ≡ true
      → going a.event a.tick doing ≡ true → passes a.event a.tick (steps setting a number (record doing { connection = connection }) holds_slot input).clients ≡ true
  steps_pass a number doing connection holds_slot input past all here =
      let had : Doing = record doing { connection = connection } in
      let next : Doing = heard setting.terms a.event a.tick had input in
      let now : going a.event a.tick next ≡ true = hears a.event a.tick doing connection input past here in
      step_passes (over a.event a.tick) (going a.event a.tick) setting a.clients number next (act_at setting a had input).hold all now (overs a.event a.tick next now)

  now_is : (a : Machine) (number : ℕ) (found : Option Client) (doing : Doing) → client_at a.clients number ≡ found → option_and_then (λ (client : Client). client.now) found ≡ Some doing
      → passes a.event a.tick a.clients ≡ true → going a.event a.tick doing ≡ true
  now_is a number None doing here is all = absurd (let never : ⊥ = cc in never)
  now_is a number (Some client) doing here is all =
      subst (λ (now : Option Doing). now_passes (going a.event a.tick) now ≡ true) is (doing_passes (over a.event a.tick) (going a.event a.tick) a.clients number client all here)

  lost_pass : (a : Machine) (number : ℕ) (ended : Option ℕ) (doing : Option Doing) → doing_at a.clients number ≡ doing → nat_le (unwrap_or ended 0) a.event ≡ true → passes a.event a.tick a.clients ≡ true
      → passes a.event a.tick (lost_at_once setting a number ended doing).clients ≡ true
  lost_pass a number ended None is past all = all
  lost_pass a number ended (Some doing) is past all =
      steps_pass a number doing None true (Gone (unwrap_or ended 0)) past all (now_is a number (client_at a.clients number) doing refl is all)

  unless_pass : (a : Machine) (number : ℕ) (ended : Option ℕ) (is_open : Bool) → nat_le (unwrap_or ended 0) a.event ≡ true → passes a.event a.tick a.clients ≡ true
      → passes a.event a.tick (if is_open then a else lost_at_once setting a number ended (doing_at a.clients number)).clients ≡ true
  unless_pass a number ended true past all = all
  unless_pass a number ended false past all = lost_pass a number ended (doing_at a.clients number) refl past all

  -- the request that is in course, or begins
  does_pass : (event tick : ℕ) (now : Option Doing) (next : Option Request) (doing : Doing) → option_or now (option_map (begun setting.terms event tick) next) ≡ Some doing → now_passes (going event tick) now ≡ true
      → going event tick doing ≡ true
  does_pass event tick (Some one) next doing is here = let same : one ≡ doing = cc in subst (λ (d : Doing). going event tick d ≡ true) same here
  does_pass event tick None (Some request) doing is here =
      let same : begun setting.terms event tick request ≡ doing = cc in subst (λ (d : Doing). going event tick d ≡ true) same (begins event tick request)
  does_pass event tick None None doing is here = absurd (let never : ⊥ = cc in never)

  is_going : (m : Machine) (number : ℕ) (doing : Doing) (wanted : Wants) → IsDoing setting m number doing wanted → passes m.event m.tick m.clients ≡ true → going m.event m.tick doing ≡ true
  is_going m number doing wanted is_doing all =
      does_pass m.event m.tick is_doing.client.now is_doing.client.next doing is_doing.does (doing_passes (over m.event m.tick) (going m.event m.tick) m.clients number is_doing.client all is_doing.here)

  goes_pass : (m : Machine) → AreEnded m → (number : ℕ) (n : Machine) → Goes setting m number n → passes m.event m.tick m.clients ≡ true → passes m.event m.tick n.clients ≡ true
  goes_pass m ended number _ Rests all = all
  goes_pass m ended number _ (Waits doing is_doing answer) all = steps_pass (with_pool m (after_take m.pool number)) number doing doing.connection false Waiting refl all (is_going m number doing wants.Slot is_doing all)
  goes_pass m ended number _ (Lends doing connection link ltxid is_doing answer there held) all =
      steps_pass (with_pool m (after_take m.pool number)) number doing (Some connection) true (Lent connection ltxid) refl all (is_going m number doing wants.Slot is_doing all)
  goes_pass m ended number _ (Opens doing wanted pool is_doing tries up) all =
      steps_pass (with_new m pool) number doing (Some (next_number m)) true (Opened (next_number m)) refl all (is_going m number doing wanted is_doing all)
  goes_pass m ended number _ (Fails doing wanted pool is_doing tries down) all = steps_pass (with_pool m pool) number doing doing.connection true TryFailed refl all (is_going m number doing wanted is_doing all)
  goes_pass m ended number _ (Takes doing connection link reply left is_doing on down) all =
      let input : Input = Took reply.frame link.is_open in
      let taken : Link = takes input reply left link in
      unless_pass (takes_one setting m number doing connection link reply left) number link.ended link.is_open (ended connection link on.there)
      (steps_pass (record m { links = with_link m.links connection taken }) number doing doing.connection true input refl all (is_going m number doing wants.Frame is_doing all))
  goes_pass m ended number _ (Loses doing connection link is_doing on none closed) all =
      steps_pass m number doing None true (Gone (unwrap_or link.ended 0)) (ended connection link on.there) all (is_going m number doing wants.Frame is_doing all)

  last_pass : (m : Machine) (event tick number after : ℕ) (items left : List Served) (a : Machine) → ServesLast m number after items left a → passes event tick m.clients ≡ true → passes event tick a.clients ≡ true
  last_pass m event tick number after items left _ (LastNone same) all = all
  last_pass m event tick number after items left _ (LastStopped front served is stopped same) all = all
  last_pass m event tick number after items left _ (LastServed front served is over same) all = all

  pub clients_pass : (m : Machine) → AreEnded m → (items left : List Served) (happened : Noted) (n : Machine) → Happens setting m items left happened n → passes m.event m.tick m.clients ≡ true
      → passes m.event m.tick n.clients ≡ true
  clients_pass m ended items left happened _ (Nothing kind quiet) all = all
  clients_pass m ended items left happened _ (IsStep number did n moves) all = goes_pass m ended number n moves all
  clients_pass m ended items left happened _ (Serves number frame front served is ordinary same) all = all
  clients_pass m ended items left happened _ (Cuts number up down reached link is) all = all
  clients_pass m ended items left happened _ (Reaps number reaped orphan) all = all
  clients_pass m ended items left happened _ (Crashes number after failover down a up last) all = last_pass m m.event m.tick number after items left a last all
  clients_pass m ended items left happened _ (OpensUp incarnation down may) all = all
  clients_pass m ended items left happened _ (StopsOpening made down) all = all
  clients_pass m ended items left happened _ Ticks all = all
  clients_pass m ended items left happened _ (RunsOutside ran up) all = all
  clients_pass m ended items left happened _ (Asks ltxid result up) all = all
  clients_pass m ended items left happened _ (Drains closed) all = all

-- THE CLOCK ---------------------------------------------------------------------------------------

last_tick : (m : Machine) (number after : ℕ) (items left : List Served) (a : Machine) → ServesLast m number after items left a → a.tick ≡ m.tick
last_tick m number after items left _ (LastNone same) = refl
last_tick m number after items left _ (LastStopped front served is stopped same) = refl
last_tick m number after items left _ (LastServed front served is over same) = refl

as_before : (m n : Machine) → n.tick ≡ m.tick → m.tick ≤ n.tick
as_before m n same = omega arith

pub tick_kept : (setting : Setting) (m : Machine) (items left : List Served) (happened : Noted) (n : Machine) → Happens setting m items left happened n → m.tick ≤ n.tick
tick_kept setting m items left happened _ (Nothing kind quiet) = as_before m m refl
tick_kept setting m items left happened _ (IsStep number did n moves) = as_before m n (goes_same setting m number n moves).tick
tick_kept setting m items left happened _ (Serves number frame front served is ordinary same) = as_before m m refl
tick_kept setting m items left happened _ (Cuts number up down reached link is) = as_before m m refl
tick_kept setting m items left happened _ (Reaps number reaped orphan) = as_before m m refl
tick_kept setting m items left happened _ (Crashes number after failover down a up last) = as_before m a (last_tick m number after items left a last)
tick_kept setting m items left happened _ (OpensUp incarnation down may) = as_before m m refl
tick_kept setting m items left happened _ (StopsOpening made down) = as_before m m refl
tick_kept setting m items left happened _ Ticks = omega arith
tick_kept setting m items left happened _ (RunsOutside ran up) = as_before m m refl
tick_kept setting m items left happened _ (Asks ltxid result up) = as_before m m refl
tick_kept setting m items left happened _ (Drains closed) = as_before m m refl
