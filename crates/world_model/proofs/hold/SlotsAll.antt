-- The pool counts the slots that requests hold, event by event.
use Rattle.std.proofs.Common.{◌≡◌, refl, sym, ap, subst, ◌∙◌, Bool, true, false, ℕ, ◌+◌, ◌-◌, List, [], ◌∷◌, fold, count_by, Option, Some, None, if◌then◌else◌}
use Rattle.std.specs.Prelude.{◌==◌, ◌&&◌, not, nat_le, option_map, option_and_then, unwrap_or}
use Rattle.std.specs.Option.{option_or}
use Rattle.pool_core.specs.declared.answers.Take.TheVariants as take
use Rattle.pool_core.specs.meaning.Slots.{Slots, after_take, after_opened, after_gone}
use Rattle.request_bounds.specs.meaning.Limits.{has_waited}
use Rattle.client_model.specs.declared.act.Hold.{Hold}
use Rattle.client_model.specs.declared.act.Hold.TheVariants as hold
use Rattle.client_model.specs.declared.act.Failed.TheVariants.{Retries, PoolWait}
use Rattle.client_model.specs.declared.input.Input.TheVariants.{Waiting, Lent, Opened, TryFailed, Took, Gone}
use Rattle.client_model.specs.declared.input.Wants.{Wants}
use Rattle.client_model.specs.declared.input.Wants.TheVariants as wants
use Rattle.client_model.specs.meaning.Released.{released}
use Rattle.client_model.specs.Released.{has_slot}
use Rattle.client_model.specs.meaning.Terms.{Terms, Talk, Phase, Idle, Unbegun, Queued, Seeking, Greeting, Asked, Running, Replaying}
use Rattle.client_model.specs.meaning.Talk.{Step, stands, quiet, fails, with_tried, lost_of, on_hello, on_waiting, waits_from, on_try_failed, loses as lost_to, takes as taken_by, wants_in}
use Rattle.outage_schedule.specs.declared.document.Request.{Request}
use Rattle.outage_schedule.specs.declared.item.Item.{Item}
use Rattle.outage_schedule.specs.declared.item.Served.{Served}
use Rattle.world_model.specs.meaning.Settings.{Setting}
use Rattle.world_model.specs.meaning.Links.{open_from}
use Rattle.world_model.specs.meaning.Clients.{Doing, Client, client_at, with_client, doing_at, begun, heard, after_hold, after_step}
use Rattle.world_model.specs.meaning.Acting.{connection_of}
use Rattle.world_model.specs.meaning.Machines.{Machine}
use Rattle.world_model.specs.meaning.Matching.{Noted}
use Rattle.world_model.specs.meaning.Going.{lost_at_once}
use Rattle.world_model.specs.meaning.Serving.{is_blocked, pool_after}
use Rattle.world_model.specs.meaning.Crashing.{falls}
use Rattle.world_model.proofs.events.AllClients.{stepped_client, client_set}
use Rattle.world_model.proofs.events.Moves.{IsDoing, next_number, Tries, FromQueue, Again, Goes, Rests, Waits, Lends, Opens, Fails, Takes, Loses, takes_one, ServesLast, LastNone, LastStopped, LastServed, Happens, Nothing, IsStep, Serves, Cuts, Reaps, Crashes, OpensUp, StopsOpening, Ticks, RunsOutside, Asks, Drains}
use Rattle.world_model.proofs.wire.Saying.{has_next, is_hushed, said, said_lent, stays_slot}
use Rattle.world_model.proofs.script.ClientsReady.{frame_slot}
use Rattle.world_model.proofs.hold.IdleAll.{waits_hold}
use Rattle.world_model.proofs.hold.SlotsLent.{holds_slot_now, slot_now, IsTaken, NoneTaken, OneTaken, waiting_takes, slot_takes, lent_test, slot_step, wait_step}

-- PHASES ------------------------------------------------------------------------------------------

slot_none : (terms : Terms) (talk : Talk) (phase : Phase) (now : ℕ) → wants_in terms talk phase now ≡ wants.Slot → has_slot phase ≡ false
slot_none terms talk (Queued from) now is = refl
slot_none terms talk (Seeking lost) now is = by (has_waited talk.last_try now terms.limits.delay) is
  where
    by : (waited : Bool) → (if waited then wants.Try else wants.Early) ≡ wants.Slot → true ≡ false
    by true is = absurd (let none : ⊥ = cc in none)
    by false is = absurd (let none : ⊥ = cc in none)
slot_none terms talk Idle now is = refl
slot_none terms talk Unbegun now is = refl
slot_none terms talk phase now is = absurd (let none : ⊥ = cc in none)

pub try_slot : (terms : Terms) (talk : Talk) (phase : Phase) (now : ℕ) → wants_in terms talk phase now ≡ wants.Try → has_slot phase ≡ true
try_slot terms talk Idle now is = absurd (let none : ⊥ = cc in none)
try_slot terms talk Unbegun now is = absurd (let none : ⊥ = cc in none)
try_slot terms talk (Queued from) now is = absurd (let none : ⊥ = cc in none)
try_slot terms talk phase now is = refl

pub gone_slot : (phase : Phase) (event : ℕ) → has_slot phase ≡ true → has_slot (lost_to phase event) ≡ true
gone_slot (Greeting lost) event slot = refl
gone_slot (Asked asking) event slot = refl
gone_slot (Running state) event slot = refl
gone_slot (Replaying state) event slot = refl
gone_slot Idle event slot = slot
gone_slot Unbegun event slot = slot
gone_slot (Queued from) event slot = slot
gone_slot (Seeking lost) event slot = slot

-- where a try fails it goes on with its slot
pub fails_slot : (setting : Setting) (talk : Talk) (now : ℕ) → (on_try_failed setting.terms talk now).1.hold ≡ hold.Keep → has_slot (on_try_failed setting.terms talk now).0.phase ≡ true
fails_slot setting talk now kept = by (nat_le setting.terms.limits.retries (talk.tries + 1)) kept
  where
    by : (many : Bool) → (if many then fails (with_tried talk now) false None (Retries (talk.tries + 1)) else (stands (with_tried talk now) (Seeking (lost_of talk.phase)), quiet)).1.hold ≡ hold.Keep
        → has_slot (if many then fails (with_tried talk now) false None (Retries (talk.tries + 1)) else (stands (with_tried talk now) (Seeking (lost_of talk.phase)), quiet)).0.phase ≡ true
    by true kept = absurd (let none : ⊥ = cc in none)
    by false kept = refl

-- the request in course, or one that begins
slot_by : (setting : Setting) (m : Machine) (doing : Doing) (now : Option Doing) (next : Option Request) → option_or now (option_map (begun setting.terms m.event m.tick) next) ≡ Some doing → has_slot doing.talk.phase ≡ false → slot_now now ≡ false
slot_by setting m doing (Some one) next does none = let same : one ≡ doing = cc in ap (λ (d : Doing). has_slot d.talk.phase) same ∙ none
slot_by setting m doing None next does none = refl

pub held_by : (setting : Setting) (m : Machine) (doing : Doing) (now : Option Doing) (next : Option Request) → option_or now (option_map (begun setting.terms m.event m.tick) next) ≡ Some doing → has_slot doing.talk.phase ≡ true → slot_now now ≡ true
held_by setting m doing (Some one) next does slot = let same : one ≡ doing = cc in ap (λ (d : Doing). has_slot d.talk.phase) same ∙ slot
held_by setting m doing None (Some request) does slot =
    let same : begun setting.terms m.event m.tick request ≡ doing = cc in
    absurd (let never : false ≡ true = ap (λ (d : Doing). has_slot d.talk.phase) same ∙ slot in let none : ⊥ = cc in none)
held_by setting m doing None None does slot = absurd (let none : ⊥ = cc in none)

-- OTHER EVENTS ------------------------------------------------------------------------------------

record IsAsLent (a b : Slots) : Type 0 where
  pub lent : b.lent ≡ a.lent
  pub max : b.max ≡ a.max

as_lent : (clients : List Client) (a b : Slots) → IsAsLent a b → lent_test a clients ≡ true → lent_test b clients ≡ true
as_lent clients a b same here = ap (λ (lent : ℕ). test lent b.max) same.lent ∙ (ap (λ (max : ℕ). test a.lent max) same.max ∙ here)
  where
    test : ℕ → ℕ → Bool
    test lent max = (lent == count_by holds_slot_now clients) && nat_le lent max

gone_lent : (pool : Slots) (numbers : List ℕ) → IsAsLent pool (fold after_gone pool numbers)
gone_lent pool [] = record { lent = refl; max = refl }
gone_lent pool (number ∷ numbers) = let later = gone_lent (after_gone pool number) numbers in record { lent = later.lent; max = later.max }

served_lent : (pool : Slots) (number : ℕ) (one : Item) → IsAsLent pool (pool_after pool number one)
served_lent pool number one = by (is_blocked one)
  where
    by : (blocked : Bool) → IsAsLent pool (if blocked then after_gone pool number else pool)
    by true = record { lent = refl; max = refl }
    by false = record { lent = refl; max = refl }

-- STEPS -------------------------------------------------------------------------------------------

record IsTried (pool base : Slots) (client : Client) : Type 0 where
  pub taken : Bool
  pub takes : IsTaken pool taken base
  pub had : holds_slot_now client ≡ not taken

opened_takes : (pool base : Slots) (number : ℕ) (client : Client) → IsTried pool base client → IsTried pool (after_opened base number) client
opened_takes pool base number client tried = record { taken = tried.taken; takes = by tried.taken base tried.takes; had = tried.had }
  where
    by : (taken : Bool) (base : Slots) → IsTaken pool taken base → IsTaken pool taken (after_opened base number)
    by _ _ (NoneTaken base lent max) = NoneTaken (after_opened base number) lent max
    by _ _ (OneTaken base lent max room) = OneTaken (after_opened base number) lent max room

module _ (setting : Setting) (m : Machine) (old : lent_test m.pool m.clients ≡ true) where
  placed : (clients : List Client) (pool : Slots) (number : ℕ) (client : Client) (next : Doing) (held : Hold) → client_at clients number ≡ Some client
      → lent_test pool (with_client clients number (after_hold setting number client next held)) ≡ true → lent_test pool (after_step setting clients number next held) ≡ true
  placed clients pool number client next held here is = subst (λ (all : List Client). lent_test pool all ≡ true) (sym (stepped_client setting clients number client next held here)) is

  queue_none : (number : ℕ) (doing : Doing) (is : IsDoing setting m number doing wants.Slot) → holds_slot_now is.client ≡ false
  queue_none number doing is = slot_by setting m doing is.client.now is.client.next is.does (slot_none setting.terms doing.talk doing.talk.phase m.tick is.wants)

  tried : (number : ℕ) (doing : Doing) (wanted : Wants) (pool : Slots) (is : IsDoing setting m number doing wanted) → Tries m number wanted pool → IsTried m.pool pool is.client
  tried number doing _ _ is (FromQueue answer) =
      record { taken = true; takes = slot_takes m.pool number (λ waits. let both : take.Open ≡ take.Waiting = sym answer ∙ waits in let never : ⊥ = cc in never); had = queue_none number doing is }
  tried number doing _ _ is Again =
      record { taken = false; takes = NoneTaken m.pool refl refl; had = held_by setting m doing is.client.now is.client.next is.does (try_slot setting.terms doing.talk doing.talk.phase m.tick is.wants) }

  waits_none : (talk : Talk) (from now : ℕ) → has_slot (on_waiting setting.terms talk from now).0.phase ≡ false
  waits_none talk from now = by (nat_le setting.terms.limits.wait (now - from))
    where
      by : (long : Bool) → has_slot (if long then fails talk false None (PoolWait from now) else (stands talk (Queued (Some from)), quiet)).0.phase ≡ false
      by true = refl
      by false = refl

  -- a connection that has ended is lost in the same event
  lost_lent : (a : Machine) (who : ℕ) (client : Client) (next : Doing) (ended : Option ℕ) (held : Hold) → client_at m.clients who ≡ Some client → a.clients ≡ after_step setting m.clients who next held → lent_test a.pool a.clients ≡ true
      → (held ≡ hold.Keep → has_slot next.talk.phase ≡ true) → lent_test (lost_at_once setting a who ended (doing_at a.clients who)).pool (lost_at_once setting a who ended (doing_at a.clients who)).clients ≡ true
  lost_lent a who client next ended held here clients now goes = by held clients goes
    where
      at : (held : Hold) → a.clients ≡ after_step setting m.clients who next held → client_at a.clients who ≡ Some (after_hold setting who client next held)
      at held clients = ap (λ (all : List Client). client_at all who) (clients ∙ stepped_client setting m.clients who client next held here) ∙ client_set m.clients who client (after_hold setting who client next held) here

      doing_is : (held : Hold) → a.clients ≡ after_step setting m.clients who next held → doing_at a.clients who ≡ (after_hold setting who client next held).now
      doing_is held clients = ap (λ (one : Option Client). option_and_then (λ (c : Client). c.now) one) (at held clients)

      by : (held : Hold) → a.clients ≡ after_step setting m.clients who next held → (held ≡ hold.Keep → has_slot next.talk.phase ≡ true)
          → lent_test (lost_at_once setting a who ended (doing_at a.clients who)).pool (lost_at_once setting a who ended (doing_at a.clients who)).clients ≡ true
      by hold.Keep clients goes =
          let one : Client = record client { now = Some next } in
          let gone : Doing = heard setting.terms a.event a.tick (record next { connection = None }) (Gone (unwrap_or ended 0)) in
          subst (λ (lost : Option Doing). lent_test (lost_at_once setting a who ended lost).pool (lost_at_once setting a who ended lost).clients ≡ true) (sym (doing_is hold.Keep clients))
          (placed a.clients a.pool who one gone hold.Keep (at hold.Keep clients)
          (slot_step setting a.clients who one gone hold.Keep a.pool false a.pool 0 (at hold.Keep clients) (NoneTaken a.pool refl refl) (goes refl) (λ keep. gone_slot next.talk.phase (unwrap_or ended 0) (goes refl)) now))
      by hold.GiveBack clients goes =
          subst (λ (lost : Option Doing). lent_test (lost_at_once setting a who ended lost).pool (lost_at_once setting a who ended lost).clients ≡ true) (sym (doing_is hold.GiveBack clients)) now
      by hold.Drop clients goes =
          subst (λ (lost : Option Doing). lent_test (lost_at_once setting a who ended lost).pool (lost_at_once setting a who ended lost).clients ≡ true) (sym (doing_is hold.Drop clients)) now

  unless_lent : (a : Machine) (who : ℕ) (client : Client) (next : Doing) (ended : Option ℕ) (held : Hold) (alive : Bool) → client_at m.clients who ≡ Some client → a.clients ≡ after_step setting m.clients who next held → lent_test a.pool a.clients ≡ true
      → (held ≡ hold.Keep → has_slot next.talk.phase ≡ true)
      → lent_test (if alive then a else lost_at_once setting a who ended (doing_at a.clients who)).pool (if alive then a else lost_at_once setting a who ended (doing_at a.clients who)).clients ≡ true
  unless_lent a who client next ended held true here clients now goes = now
  unless_lent a who client next ended held false here clients now goes = lost_lent a who client next ended held here clients now goes

  goes_lent : (number : ℕ) (n : Machine) → Goes setting m number n → lent_test n.pool n.clients ≡ true
  goes_lent number _ Rests = old
  goes_lent number _ (Waits doing is answer) =
      let step : Step = on_waiting setting.terms doing.talk (waits_from doing.talk.phase m.tick) m.tick in
      let next : Doing = heard setting.terms m.event m.tick doing Waiting in
      placed m.clients (released (after_take m.pool number) number (connection_of doing) false step.1.hold) number is.client next step.1.hold is.here
      (wait_step setting m.clients number is.client next step.1.hold m.pool (after_take m.pool number) (connection_of doing) is.here (waiting_takes m.pool number answer) (queue_none number doing is)
      (waits_hold setting.terms doing.talk (waits_from doing.talk.phase m.tick) m.tick) (λ keep. waits_none doing.talk (waits_from doing.talk.phase m.tick) m.tick) old)
  goes_lent number _ (Lends doing connection link ltxid is answer there held) =
      let step : Step = on_hello setting.terms doing.talk None ltxid true m.tick in
      let next : Doing = heard setting.terms m.event m.tick (record doing { connection = Some connection }) (Lent connection ltxid) in
      placed m.clients (released (after_take m.pool number) number connection true step.1.hold) number is.client next step.1.hold is.here
      (slot_step setting m.clients number is.client next step.1.hold m.pool true (after_take m.pool number) connection is.here
      (slot_takes m.pool number (λ waits. let both : take.Lent connection ≡ take.Waiting = sym answer ∙ waits in let never : ⊥ = cc in never)) (queue_none number doing is)
      (stays_slot (Greeting None) (has_next doing.talk) true false step.0.phase step.1.send step.1.hold (said_lent setting.terms doing.talk ltxid m.tick) refl) old)
  goes_lent number _ (Opens doing wanted pool is tries runs) =
      let next : Doing = heard setting.terms m.event m.tick (record doing { connection = Some (next_number m) }) (Opened (next_number m)) in
      let took = opened_takes m.pool pool (next_number m) is.client (tried number doing wanted pool is tries) in
      placed m.clients (after_opened pool (next_number m)) number is.client next hold.Keep is.here
      (slot_step setting m.clients number is.client next hold.Keep m.pool took.taken (after_opened pool (next_number m)) (next_number m) is.here took.takes took.had (λ keep. refl) old)
  goes_lent number _ (Fails doing wanted pool is tries down) =
      let step : Step = on_try_failed setting.terms doing.talk m.tick in
      let next : Doing = heard setting.terms m.event m.tick doing TryFailed in
      let took = tried number doing wanted pool is tries in
      placed m.clients (released pool number (connection_of doing) true step.1.hold) number is.client next step.1.hold is.here
      (slot_step setting m.clients number is.client next step.1.hold m.pool took.taken pool (connection_of doing) is.here took.takes took.had (fails_slot setting doing.talk m.tick) old)
  goes_lent number _ (Takes doing connection link reply left is on down) =
      let step : Step = taken_by setting.terms doing.talk doing.talk.phase reply.frame link.is_open m.tick in
      let next : Doing = heard setting.terms m.event m.tick doing (Took reply.frame link.is_open) in
      let slot : has_slot doing.talk.phase ≡ true = frame_slot setting.terms doing.talk doing.talk.phase m.tick is.wants in
      let goes : step.1.hold ≡ hold.Keep → has_slot step.0.phase ≡ true =
      stays_slot doing.talk.phase (has_next doing.talk) link.is_open (is_hushed reply.frame) step.0.phase step.1.send step.1.hold (said setting.terms doing.talk doing.talk.phase reply.frame link.is_open m.tick refl) slot in
      let a : Machine = takes_one setting m number doing connection link reply left in
      unless_lent a number is.client next link.ended step.1.hold link.is_open is.here refl
      (placed m.clients (released m.pool number (connection_of doing) true step.1.hold) number is.client next step.1.hold is.here
      (slot_step setting m.clients number is.client next step.1.hold m.pool false m.pool (connection_of doing) is.here (NoneTaken m.pool refl refl) (held_by setting m doing is.client.now is.client.next is.does slot) goes old)) goes
  goes_lent number _ (Loses doing connection link is on none closed) =
      let next : Doing = heard setting.terms m.event m.tick (record doing { connection = None }) (Gone (unwrap_or link.ended 0)) in
      let slot : has_slot doing.talk.phase ≡ true = frame_slot setting.terms doing.talk doing.talk.phase m.tick is.wants in
      placed m.clients m.pool number is.client next hold.Keep is.here
      (slot_step setting m.clients number is.client next hold.Keep m.pool false m.pool 0 is.here (NoneTaken m.pool refl refl) (held_by setting m doing is.client.now is.client.next is.does slot)
      (λ keep. gone_slot doing.talk.phase (unwrap_or link.ended 0) slot) old)

  last_lent : (number after : ℕ) (failover : Bool) (items left : List Served) (a : Machine) → ServesLast m number after items left a → lent_test (falls failover a).pool (falls failover a).clients ≡ true
  last_lent number after failover items left a (LastNone same) = as_lent m.clients m.pool (falls failover a).pool (gone_lent m.pool (open_from 1 a.links)) old
  last_lent number after failover items left a (LastStopped front served is stopped same) = as_lent m.clients m.pool (falls failover a).pool (gone_lent m.pool (open_from 1 a.links)) old
  last_lent number after failover items left a (LastServed front served is over same) =
      as_lent m.clients (pool_after m.pool number served.item) (falls failover a).pool (gone_lent (pool_after m.pool number served.item) (open_from 1 a.links))
      (as_lent m.clients m.pool (pool_after m.pool number served.item) (served_lent m.pool number served.item) old)

  pub happens_lent : (items left : List Served) (happened : Noted) (n : Machine) → Happens setting m items left happened n → lent_test n.pool n.clients ≡ true
  happens_lent items left happened _ (Nothing kind other) = old
  happens_lent items left happened n (IsStep number did _ moves) = goes_lent number n moves
  happens_lent items left happened _ (Serves number frame front served is ordinary same) = as_lent m.clients m.pool (pool_after m.pool number served.item) (served_lent m.pool number served.item) old
  happens_lent items left happened _ (Cuts number up down reached link is) = old
  happens_lent items left happened _ (Reaps number reaped orphan) = old
  happens_lent items left happened _ (Crashes number after failover down a runs last) = last_lent number after failover items left a last
  happens_lent items left happened _ (OpensUp incarnation down may) = old
  happens_lent items left happened _ (StopsOpening made down) = old
  happens_lent items left happened _ Ticks = old
  happens_lent items left happened _ (RunsOutside ran runs) = old
  happens_lent items left happened _ (Asks ltxid result runs) = old
  happens_lent items left happened _ (Drains closed) = old
