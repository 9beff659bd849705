-- The clients that wait are in the queue, in the order in which they waited first, behind each
-- event.
use Rattle.std.proofs.Common.{◌≡◌, refl, sym, ap, subst, ◌∙◌, Bool, true, false, ℕ, ◌+◌, ◌-◌, length, List, [], ◌∷◌, ◌++◌, flat_map, fold, Option, Some, None, ◌⊎◌, inl, inr, if◌then◌else◌, arith}
use Rattle.std.specs.Prelude.{◌==◌, nat_le, option_map, option_and_then, unwrap_or, drop}
use Rattle.std.specs.List.{list_all}
use Rattle.std.specs.Option.{option_or, option_map_or}
use Rattle.std.proofs.lemmas.Bool.{and_parts, and_from}
use Rattle.std.proofs.lemmas.List.Concat.{flat_map-cons}
use Rattle.pool_core.specs.declared.answers.Take.TheVariants as take
use Rattle.pool_core.specs.meaning.Slots.{Slots, is_among, joined, without, has_to_wait, lends, take_answer, after_take, after_gone}
use Rattle.request_bounds.specs.meaning.Limits.{has_waited}
use Rattle.client_model.specs.declared.act.Hold.{Hold}
use Rattle.client_model.specs.declared.act.Hold.TheVariants as hold
use Rattle.client_model.specs.declared.act.Failed.TheVariants.{PoolWait}
use Rattle.client_model.specs.declared.input.Input.TheVariants.{Waiting, Lent, Opened, TryFailed, Took, Gone}
use Rattle.client_model.specs.declared.input.Wants.{Wants}
use Rattle.client_model.specs.declared.input.Wants.TheVariants as wants
use Rattle.client_model.specs.meaning.Released.{released}
use Rattle.client_model.specs.Released.{has_slot}
use Rattle.client_model.specs.meaning.Terms.{Terms, Talk, Phase, Queued, Seeking, Greeting}
use Rattle.client_model.specs.meaning.Talk.{Step as TalkStep, stands, quiet, fails, on_hello, on_waiting, waits_from, on_try_failed, takes as taken_by, wants_in}
use Rattle.outage_schedule.specs.declared.document.Request.{Request}
use Rattle.outage_schedule.specs.declared.item.Item.{Item}
use Rattle.outage_schedule.specs.declared.item.Served.{Served}
use Rattle.world_model.specs.meaning.Settings.{Setting}
use Rattle.world_model.specs.meaning.Links.{open_from}
use Rattle.world_model.specs.meaning.Clients.{Step, Doing, Client, client_at, with_client, doing_at, begun, heard, step_at, after_hold, after_step}
use Rattle.world_model.specs.meaning.Acting.{connection_of}
use Rattle.world_model.specs.meaning.Machines.{Machine}
use Rattle.world_model.specs.meaning.Matching.{Noted}
use Rattle.world_model.specs.meaning.Going.{lost_at_once}
use Rattle.world_model.specs.meaning.Serving.{is_blocked, pool_after}
use Rattle.world_model.specs.meaning.Crashing.{falls}
use Rattle.world_model.specs.records.Hold.{is_queued, is_waiting, joined_at}
use Rattle.world_model.proofs.hold.IdleEvents.{never_waits}
use Rattle.world_model.proofs.events.Tests.{eq_from}
use Rattle.world_model.proofs.events.AllLists.{append_all}
use Rattle.world_model.proofs.events.AllClients.{stepped_client, client_set}
use Rattle.world_model.proofs.events.Moves.{IsDoing, next_number, Tries, FromQueue, Again, Goes, Rests, Waits, Lends, Opens, Fails, Takes, Loses, takes_one, ServesLast, LastNone, LastStopped, LastServed, Happens, Nothing, IsStep, Serves, Cuts, Reaps, Crashes, OpensUp, StopsOpening, Ticks, RunsOutside, Asks, Drains}
use Rattle.world_model.proofs.wire.Saying.{has_next, is_hushed, said, said_lent, stays_slot}
use Rattle.world_model.proofs.script.ClientsReady.{frame_slot}
use Rattle.world_model.proofs.hold.IdleAll.{waits_hold}
use Rattle.world_model.proofs.hold.SlotsLent.{slot_now}
use Rattle.world_model.proofs.hold.SlotsAll.{try_slot, gone_slot, fails_slot, held_by}
use Rattle.world_model.proofs.finish.Counts.{going_passes, goes_so}
use Rattle.world_model.proofs.hold.QueueLists.{among_all, without_pushed}
use Rattle.world_model.proofs.hold.QueueKept.{queued, one_join, join_now, joins, IsQueue, among_is, queue_stays, queue_none, queue_leaves, queue_more}

-- STEPS AND PHASES --------------------------------------------------------------------------------

-- a request that joined stays where it joined
joined_kept : (steps : List Step) (step : Step) (event : ℕ) → joined_at steps ≡ Some event → joined_at (steps ++ step ∷ []) ≡ Some event
joined_kept [] step event is = absurd (let none : ⊥ = cc in none)
joined_kept (first ∷ steps) step event is = by (is_waiting first.done.input) is (λ later. joined_kept steps step event later)
  where
    by : (waits : Bool) → (if waits then Some first.event else joined_at steps) ≡ Some event → (joined_at steps ≡ Some event → joined_at (steps ++ step ∷ []) ≡ Some event)
        → (if waits then Some first.event else joined_at (steps ++ step ∷ [])) ≡ Some event
    by true is rest = is
    by false is rest = rest is

-- where it waits first
joined_first : (steps : List Step) (step : Step) → joined_at steps ≡ None → is_waiting step.done.input ≡ true → joined_at (steps ++ step ∷ []) ≡ Some step.event
joined_first [] step none waits = ap (λ (test : Bool). if test then Some step.event else None) waits
joined_first (first ∷ steps) step none waits = by (is_waiting first.done.input) none (λ later. joined_first steps step later waits)
  where
    by : (waited : Bool) → (if waited then Some first.event else joined_at steps) ≡ None → (joined_at steps ≡ None → joined_at (steps ++ step ∷ []) ≡ Some step.event)
        → (if waited then Some first.event else joined_at (steps ++ step ∷ [])) ≡ Some step.event
    by true is rest = absurd (let never : ⊥ = cc in never)
    by false is rest = rest is

joined_some : (found : Option ℕ) → (length (one_join true found) == 1) ≡ true → (event : ℕ) × (found ≡ Some event)
joined_some None one = absurd (let none : 0 ≡ 1 = eq_from 0 1 one in let never : ⊥ = omega arith in never)
joined_some (Some event) one = (event, refl)

-- it joined at one of its steps
joined_early : (event : ℕ) (steps : List Step) → list_all (λ step. nat_le step.event event) steps ≡ true → option_map_or (λ one. nat_le one event) (joined_at steps) true ≡ true
joined_early event [] all = refl
joined_early event (first ∷ steps) all =
    let parts = and_parts (nat_le first.event event) (list_all (λ step. nat_le step.event event) steps) all in by (is_waiting first.done.input) parts.0 (joined_early event steps parts.1)
  where
    by : (waits : Bool) → nat_le first.event event ≡ true → option_map_or (λ one. nat_le one event) (joined_at steps) true ≡ true
        → option_map_or (λ one. nat_le one event) (if waits then Some first.event else joined_at steps) true ≡ true
    by true here rest = here
    by false here rest = rest

slot_queued : (terms : Terms) (talk : Talk) (phase : Phase) (now : ℕ) → wants_in terms talk phase now ≡ wants.Slot → is_queued phase ≡ true
slot_queued terms talk (Queued from) now is = refl
slot_queued terms talk (Seeking lost) now is = by (has_waited talk.last_try now terms.limits.delay) is
  where
    by : (waited : Bool) → (if waited then wants.Try else wants.Early) ≡ wants.Slot → false ≡ true
    by true is = absurd (let none : ⊥ = cc in none)
    by false is = absurd (let none : ⊥ = cc in none)
slot_queued terms talk phase now is = absurd (let none : ⊥ = cc in none)

slot_unqueued : (phase : Phase) → has_slot phase ≡ true → is_queued phase ≡ false
slot_unqueued (Queued from) slot = absurd (let none : ⊥ = cc in none)
slot_unqueued phase slot = refl

now_unqueued : (now : Option Doing) → slot_now now ≡ true → going_passes queued now ≡ false
now_unqueued None slot = refl
now_unqueued (Some doing) slot = slot_unqueued doing.talk.phase slot

-- the request that goes on has a slot
after_unqueued : (setting : Setting) (number : ℕ) (client : Client) (next : Doing) (held : Hold) → (held ≡ hold.Keep → has_slot next.talk.phase ≡ true) → goes_so queued (after_hold setting number client next held) ≡ false
after_unqueued setting number client next hold.Keep goes = slot_unqueued next.talk.phase (goes refl)
after_unqueued setting number client next hold.GiveBack goes = refl
after_unqueued setting number client next hold.Drop goes = refl

waits_queued : (terms : Terms) (talk : Talk) (from now : ℕ) → (on_waiting terms talk from now).1.hold ≡ hold.Keep → is_queued (on_waiting terms talk from now).0.phase ≡ true
waits_queued terms talk from now kept = by (nat_le terms.limits.wait (now - from)) kept
  where
    by : (long : Bool) → (if long then fails talk false None (PoolWait from now) else (stands talk (Queued (Some from)), quiet)).1.hold ≡ hold.Keep
        → is_queued (if long then fails talk false None (PoolWait from now) else (stands talk (Queued (Some from)), quiet)).0.phase ≡ true
    by true kept = absurd (let none : ⊥ = cc in none)
    by false kept = refl

-- THE POOL ----------------------------------------------------------------------------------------

waiting_queue : (pool : Slots) (client : ℕ) → take_answer pool client ≡ take.Waiting → (after_take pool client).queue ≡ joined pool.queue client
waiting_queue pool client answer = by (has_to_wait pool client) answer
  where
    by : (waits : Bool) → (if waits then take.Waiting else lends pool.idle) ≡ take.Waiting
        → (if waits then record pool { queue = joined pool.queue client } else record pool { lent = pool.lent + 1; queue = without pool.queue client; idle = drop 1 pool.idle }).queue ≡ joined pool.queue client
    by true is = refl
    by false is = absurd (never_waits pool.idle is)

slot_queue : (pool : Slots) (client : ℕ) → (take_answer pool client ≡ take.Waiting → ⊥) → (after_take pool client).queue ≡ without pool.queue client
slot_queue pool client answer = by (has_to_wait pool client) answer
  where
    by : (waits : Bool) → ((if waits then take.Waiting else lends pool.idle) ≡ take.Waiting → ⊥)
        → (if waits then record pool { queue = joined pool.queue client } else record pool { lent = pool.lent + 1; queue = without pool.queue client; idle = drop 1 pool.idle }).queue ≡ without pool.queue client
    by true other = absurd (other refl)
    by false other = refl

-- with its slot it is in no queue
released_queue : (pool : Slots) (client connection : ℕ) (held : Hold) → (released pool client connection true held).queue ≡ pool.queue
released_queue pool client connection hold.Keep = refl
released_queue pool client connection hold.GiveBack = refl
released_queue pool client connection hold.Drop = refl

gone_queue : (pool : Slots) (numbers : List ℕ) → (fold after_gone pool numbers).queue ≡ pool.queue
gone_queue pool [] = refl
gone_queue pool (number ∷ numbers) = gone_queue (after_gone pool number) numbers

served_queue : (pool : Slots) (number : ℕ) (one : Item) → (pool_after pool number one).queue ≡ pool.queue
served_queue pool number one = by (is_blocked one)
  where
    by : (blocked : Bool) → (if blocked then after_gone pool number else pool).queue ≡ pool.queue
    by true = refl
    by false = refl

joined_is : (queue : List ℕ) (client : ℕ) (among : Bool) → is_among client queue ≡ among → joined queue client ≡ (if among then queue else queue ++ client ∷ [])
joined_is queue client among is = ap (λ (test : Bool). if test then queue else queue ++ client ∷ []) is

-- STEPS -------------------------------------------------------------------------------------------

module _ (setting : Setting) (m : Machine) (old : IsQueue m.pool.queue m.clients)
    (early : (number : ℕ) (client : Client) (doing : Doing) → client_at m.clients number ≡ Some client → client.now ≡ Some doing → list_all (λ step. nat_le step.event m.event) doing.steps ≡ true) where
  -- all of them joined by now
  all_early : (numbers : List ℕ) → list_all (λ one. nat_le one m.event) (flat_map (joins m.clients) numbers) ≡ true
  all_early [] = refl
  all_early (number ∷ numbers) =
      subst (λ (xs : List ℕ). list_all (λ one. nat_le one m.event) xs ≡ true) (sym (flat_map-cons (joins m.clients) number numbers))
      (append_all (λ one. nat_le one m.event) (joins m.clients number) (flat_map (joins m.clients) numbers) (at (client_at m.clients number) refl) (all_early numbers))
    where
      one : (waits : Bool) (found : Option ℕ) → option_map_or (λ n. nat_le n m.event) found true ≡ true → list_all (λ n. nat_le n m.event) (one_join waits found) ≡ true
      one false found here = refl
      one true None here = refl
      one true (Some event) here = and_from (nat_le event m.event) true here refl

      now_at : (client : Client) (now : Option Doing) → client_at m.clients number ≡ Some client → client.now ≡ now → list_all (λ n. nat_le n m.event) (join_now now) ≡ true
      now_at client None there is = refl
      now_at client (Some doing) there is = one (queued doing) (joined_at doing.steps) (joined_early m.event doing.steps (early number client doing there is))

      at : (found : Option Client) → client_at m.clients number ≡ found → list_all (λ n. nat_le n m.event) (option_map_or (λ client. join_now client.now) found []) ≡ true
      at None there = refl
      at (Some client) there = now_at client client.now there refl

  placed : (clients : List Client) (queue : List ℕ) (number : ℕ) (client : Client) (next : Doing) (held : Hold) → client_at clients number ≡ Some client
      → IsQueue queue (with_client clients number (after_hold setting number client next held)) → IsQueue queue (after_step setting clients number next held)
  placed clients queue number client next held here is = subst (λ (all : List Client). IsQueue queue all) (sym (stepped_client setting clients number client next held here)) is

  -- WAITING ---------------------------------------------------------------------------------------

  -- it waited before, or it waits first
  waits_case : (who : ℕ) (doing : Doing) (is : IsDoing setting m who doing wants.Slot) → (is.client.now ≡ Some doing) ⊎ ((is.client.now ≡ None) × (joined_at doing.steps ≡ None))
  waits_case who doing is = by is.client.now is.client.next refl is.does
    where
      by : (now : Option Doing) (next : Option Request) → is.client.now ≡ now → option_or now (option_map (begun setting.terms m.event m.tick) next) ≡ Some doing
          → (is.client.now ≡ Some doing) ⊎ ((is.client.now ≡ None) × (joined_at doing.steps ≡ None))
      by (Some one) next now does = inl (now ∙ does)
      by None (Some request) now does = let same : begun setting.terms m.event m.tick request ≡ doing = cc in inr (now, ap (λ (d : Doing). joined_at d.steps) (sym same))
      by None None now does = absurd (let never : ⊥ = cc in never)

  module _ (who : ℕ) (doing : Doing) (is : IsDoing setting m who doing wants.Slot) (answer : take_answer m.pool who ≡ take.Waiting) where
    abbrev step_now : TalkStep
    step_now = on_waiting setting.terms doing.talk (waits_from doing.talk.phase m.tick) m.tick

    abbrev next_now : Doing
    next_now = heard setting.terms m.event m.tick doing Waiting

    abbrev after_now : Hold → Client
    after_now held = after_hold setting who is.client next_now held

    going : is_queued doing.talk.phase ≡ true
    going = slot_queued setting.terms doing.talk doing.talk.phase m.tick is.wants

    queue_at : (among : Bool) → is_among who m.pool.queue ≡ among → (after_take m.pool who).queue ≡ (if among then m.pool.queue else m.pool.queue ++ who ∷ [])
    queue_at among is_among_now = waiting_queue m.pool who answer ∙ joined_is m.pool.queue who among is_among_now

    waited_before : is.client.now ≡ Some doing → (held : Hold) → step_now.1.hold ≡ held → IsQueue (released (after_take m.pool who) who (connection_of doing) false held).queue (with_client m.clients who (after_now held))
    waited_before now = by
      where
        waits : goes_so queued is.client ≡ true
        waits = ap (going_passes queued) now ∙ going

        among : is_among who m.pool.queue ≡ true
        among = among_is m.pool.queue m.clients who is.client old is.here ∙ waits

        joins_is : joins m.clients who ≡ one_join true (joined_at doing.steps)
        joins_is = ap (λ (f : Option Client). option_map_or (λ client. join_now client.now) f []) is.here ∙ (ap join_now now ∙ ap (λ (test : Bool). one_join test (joined_at doing.steps)) going)

        event : (event : ℕ) × (joined_at doing.steps ≡ Some event)
        event = joined_some (joined_at doing.steps) (sym (ap (λ (xs : List ℕ). length xs == 1) joins_is) ∙ among_all (λ number. length (joins m.clients number) == 1) m.pool.queue who old.once among)

        by : (held : Hold) → step_now.1.hold ≡ held → IsQueue (released (after_take m.pool who) who (connection_of doing) false held).queue (with_client m.clients who (after_now held))
        by hold.Keep kept =
            let still : queued next_now ≡ true = waits_queued setting.terms doing.talk (waits_from doing.talk.phase m.tick) m.tick kept in
            subst (λ (queue : List ℕ). IsQueue queue (with_client m.clients who (after_now hold.Keep))) (sym (queue_at true among))
            (queue_stays m.clients who is.client (after_now hold.Keep) is.here m.pool.queue
            (ap (λ (test : Bool). one_join test (joined_at next_now.steps)) still
            ∙ (ap (one_join true) (joined_kept doing.steps (step_at setting.terms m.event m.tick doing Waiting) event.0 event.1 ∙ sym event.1) ∙ sym (ap join_now now ∙ ap (λ (test : Bool). one_join test (joined_at doing.steps)) going)))
            (still ∙ sym waits) old)
        by hold.Drop kept =
            subst (λ (queue : List ℕ). IsQueue (without queue who) (with_client m.clients who (after_now hold.Drop))) (sym (queue_at true among))
            (queue_leaves m.clients who is.client (after_now hold.Drop) is.here m.pool.queue refl old)
        by hold.GiveBack kept = absurd (waits_hold setting.terms doing.talk (waits_from doing.talk.phase m.tick) m.tick kept)

    waits_first : is.client.now ≡ None → joined_at doing.steps ≡ None → (held : Hold) → step_now.1.hold ≡ held
        → IsQueue (released (after_take m.pool who) who (connection_of doing) false held).queue (with_client m.clients who (after_now held))
    waits_first now none = by
      where
        before : goes_so queued is.client ≡ false
        before = ap (going_passes queued) now

        among : is_among who m.pool.queue ≡ false
        among = among_is m.pool.queue m.clients who is.client old is.here ∙ before

        by : (held : Hold) → step_now.1.hold ≡ held → IsQueue (released (after_take m.pool who) who (connection_of doing) false held).queue (with_client m.clients who (after_now held))
        by hold.Keep kept =
            let still : queued next_now ≡ true = waits_queued setting.terms doing.talk (waits_from doing.talk.phase m.tick) m.tick kept in
            subst (λ (queue : List ℕ). IsQueue queue (with_client m.clients who (after_now hold.Keep))) (sym (queue_at false among))
            (queue_more m.clients who is.client (after_now hold.Keep) is.here m.pool.queue m.event before still
            (ap (λ (test : Bool). one_join test (joined_at next_now.steps)) still ∙ ap (one_join true) (joined_first doing.steps (step_at setting.terms m.event m.tick doing Waiting) none refl)) (all_early m.pool.queue) old)
        by hold.Drop kept =
            subst (λ (queue : List ℕ). IsQueue queue (with_client m.clients who (after_now hold.Drop))) (sym (ap (λ (queue : List ℕ). without queue who) (queue_at false among) ∙ without_pushed m.pool.queue who among))
            (queue_none m.clients who is.client (after_now hold.Drop) is.here m.pool.queue before refl old)
        by hold.GiveBack kept = absurd (waits_hold setting.terms doing.talk (waits_from doing.talk.phase m.tick) m.tick kept)

    waits_queue : IsQueue (released (after_take m.pool who) who (connection_of doing) false step_now.1.hold).queue (with_client m.clients who (after_now step_now.1.hold))
    waits_queue = by (waits_case who doing is)
      where
        by : (is.client.now ≡ Some doing) ⊎ ((is.client.now ≡ None) × (joined_at doing.steps ≡ None))
            → IsQueue (released (after_take m.pool who) who (connection_of doing) false step_now.1.hold).queue (with_client m.clients who (after_now step_now.1.hold))
        by (inl now) = waited_before now step_now.1.hold refl
        by (inr first) = waits_first first.0 first.1 step_now.1.hold refl

  -- WITH A SLOT -----------------------------------------------------------------------------------

  unqueued : (doing : Doing) (wanted : Wants) (who : ℕ) (is : IsDoing setting m who doing wanted) → has_slot doing.talk.phase ≡ true → goes_so queued is.client ≡ false
  unqueued doing wanted who is slot = now_unqueued is.client.now (held_by setting m doing is.client.now is.client.next is.does slot)

  tried_queue : (who : ℕ) (doing : Doing) (wanted : Wants) (base : Slots) (is : IsDoing setting m who doing wanted) (next : Client) → Tries m who wanted base → goes_so queued next ≡ false → IsQueue base.queue (with_client m.clients who next)
  tried_queue who doing _ _ is next (FromQueue answer) none =
      subst (λ (queue : List ℕ). IsQueue queue (with_client m.clients who next)) (sym (slot_queue m.pool who (λ waits. let both : take.Open ≡ take.Waiting = sym answer ∙ waits in let never : ⊥ = cc in never)))
      (queue_leaves m.clients who is.client next is.here m.pool.queue none old)
  tried_queue who doing _ _ is next Again none = queue_none m.clients who is.client next is.here m.pool.queue (unqueued doing wants.Try who is (try_slot setting.terms doing.talk doing.talk.phase m.tick is.wants)) none old

  -- a connection that has ended is lost in the same event
  lost_queue : (a : Machine) (who : ℕ) (client : Client) (next : Doing) (ended : Option ℕ) (held : Hold) → client_at m.clients who ≡ Some client → a.clients ≡ after_step setting m.clients who next held → IsQueue a.pool.queue a.clients
      → (held ≡ hold.Keep → has_slot next.talk.phase ≡ true) → IsQueue (lost_at_once setting a who ended (doing_at a.clients who)).pool.queue (lost_at_once setting a who ended (doing_at a.clients who)).clients
  lost_queue a who client next ended held here clients now goes = by held clients goes
    where
      at : (held : Hold) → a.clients ≡ after_step setting m.clients who next held → client_at a.clients who ≡ Some (after_hold setting who client next held)
      at held clients = ap (λ (all : List Client). client_at all who) (clients ∙ stepped_client setting m.clients who client next held here) ∙ client_set m.clients who client (after_hold setting who client next held) here

      doing_is : (held : Hold) → a.clients ≡ after_step setting m.clients who next held → doing_at a.clients who ≡ (after_hold setting who client next held).now
      doing_is held clients = ap (λ (one : Option Client). option_and_then (λ (c : Client). c.now) one) (at held clients)

      by : (held : Hold) → a.clients ≡ after_step setting m.clients who next held → (held ≡ hold.Keep → has_slot next.talk.phase ≡ true)
          → IsQueue (lost_at_once setting a who ended (doing_at a.clients who)).pool.queue (lost_at_once setting a who ended (doing_at a.clients who)).clients
      by hold.Keep clients goes =
          let one : Client = record client { now = Some next } in
          let gone : Doing = heard setting.terms a.event a.tick (record next { connection = None }) (Gone (unwrap_or ended 0)) in
          subst (λ (lost : Option Doing). IsQueue (lost_at_once setting a who ended lost).pool.queue (lost_at_once setting a who ended lost).clients) (sym (doing_is hold.Keep clients))
          (placed a.clients a.pool.queue who one gone hold.Keep (at hold.Keep clients)
          (queue_none a.clients who one (after_hold setting who one gone hold.Keep) (at hold.Keep clients) a.pool.queue (slot_unqueued next.talk.phase (goes refl))
          (slot_unqueued gone.talk.phase (gone_slot next.talk.phase (unwrap_or ended 0) (goes refl))) now))
      by hold.GiveBack clients goes =
          subst (λ (lost : Option Doing). IsQueue (lost_at_once setting a who ended lost).pool.queue (lost_at_once setting a who ended lost).clients) (sym (doing_is hold.GiveBack clients)) now
      by hold.Drop clients goes =
          subst (λ (lost : Option Doing). IsQueue (lost_at_once setting a who ended lost).pool.queue (lost_at_once setting a who ended lost).clients) (sym (doing_is hold.Drop clients)) now

  unless_queue : (a : Machine) (who : ℕ) (client : Client) (next : Doing) (ended : Option ℕ) (held : Hold) (alive : Bool) → client_at m.clients who ≡ Some client → a.clients ≡ after_step setting m.clients who next held → IsQueue a.pool.queue a.clients
      → (held ≡ hold.Keep → has_slot next.talk.phase ≡ true)
      → IsQueue (if alive then a else lost_at_once setting a who ended (doing_at a.clients who)).pool.queue (if alive then a else lost_at_once setting a who ended (doing_at a.clients who)).clients
  unless_queue a who client next ended held true here clients now goes = now
  unless_queue a who client next ended held false here clients now goes = lost_queue a who client next ended held here clients now goes

  by_queue : (clients : List Client) (a b : List ℕ) → b ≡ a → IsQueue a clients → IsQueue b clients
  by_queue clients a b same is = subst (λ (queue : List ℕ). IsQueue queue clients) (sym same) is

  goes_queue : (number : ℕ) (n : Machine) → Goes setting m number n → IsQueue n.pool.queue n.clients
  goes_queue number _ Rests = old
  goes_queue number _ (Waits doing is answer) =
      let step : TalkStep = on_waiting setting.terms doing.talk (waits_from doing.talk.phase m.tick) m.tick in
      placed m.clients (released (after_take m.pool number) number (connection_of doing) false step.1.hold).queue number is.client (heard setting.terms m.event m.tick doing Waiting) step.1.hold is.here (waits_queue number doing is answer)
  goes_queue number _ (Lends doing connection link ltxid is answer there held) =
      let step : TalkStep = on_hello setting.terms doing.talk None ltxid true m.tick in
      let next : Doing = heard setting.terms m.event m.tick (record doing { connection = Some connection }) (Lent connection ltxid) in
      let after : Client = after_hold setting number is.client next step.1.hold in
      placed m.clients (released (after_take m.pool number) number connection true step.1.hold).queue number is.client next step.1.hold is.here
      (by_queue (with_client m.clients number after) (without m.pool.queue number) (released (after_take m.pool number) number connection true step.1.hold).queue
      (released_queue (after_take m.pool number) number connection step.1.hold ∙ slot_queue m.pool number (λ waits. let both : take.Lent connection ≡ take.Waiting = sym answer ∙ waits in let never : ⊥ = cc in never))
      (queue_leaves m.clients number is.client after is.here m.pool.queue
      (after_unqueued setting number is.client next step.1.hold (stays_slot (Greeting None) (has_next doing.talk) true false step.0.phase step.1.send step.1.hold (said_lent setting.terms doing.talk ltxid m.tick) refl)) old))
  goes_queue number _ (Opens doing wanted pool is tries runs) =
      let next : Doing = heard setting.terms m.event m.tick (record doing { connection = Some (next_number m) }) (Opened (next_number m)) in
      placed m.clients pool.queue number is.client next hold.Keep is.here (tried_queue number doing wanted pool is (after_hold setting number is.client next hold.Keep) tries refl)
  goes_queue number _ (Fails doing wanted pool is tries down) =
      let step : TalkStep = on_try_failed setting.terms doing.talk m.tick in
      let next : Doing = heard setting.terms m.event m.tick doing TryFailed in
      let after : Client = after_hold setting number is.client next step.1.hold in
      placed m.clients (released pool number (connection_of doing) true step.1.hold).queue number is.client next step.1.hold is.here
      (by_queue (with_client m.clients number after) pool.queue (released pool number (connection_of doing) true step.1.hold).queue (released_queue pool number (connection_of doing) step.1.hold)
      (tried_queue number doing wanted pool is after tries (after_unqueued setting number is.client next step.1.hold (fails_slot setting doing.talk m.tick))))
  goes_queue number _ (Takes doing connection link reply left is on down) =
      let step : TalkStep = taken_by setting.terms doing.talk doing.talk.phase reply.frame link.is_open m.tick in
      let next : Doing = heard setting.terms m.event m.tick doing (Took reply.frame link.is_open) in
      let after : Client = after_hold setting number is.client next step.1.hold in
      let slot : has_slot doing.talk.phase ≡ true = frame_slot setting.terms doing.talk doing.talk.phase m.tick is.wants in
      let goes : step.1.hold ≡ hold.Keep → has_slot step.0.phase ≡ true =
      stays_slot doing.talk.phase (has_next doing.talk) link.is_open (is_hushed reply.frame) step.0.phase step.1.send step.1.hold (said setting.terms doing.talk doing.talk.phase reply.frame link.is_open m.tick refl) slot in
      let a : Machine = takes_one setting m number doing connection link reply left in
      unless_queue a number is.client next link.ended step.1.hold link.is_open is.here refl
      (placed m.clients (released m.pool number (connection_of doing) true step.1.hold).queue number is.client next step.1.hold is.here
      (by_queue (with_client m.clients number after) m.pool.queue (released m.pool number (connection_of doing) true step.1.hold).queue (released_queue m.pool number (connection_of doing) step.1.hold)
      (queue_none m.clients number is.client after is.here m.pool.queue (unqueued doing wants.Frame number is slot) (after_unqueued setting number is.client next step.1.hold goes) old))) goes
  goes_queue number _ (Loses doing connection link is on none closed) =
      let next : Doing = heard setting.terms m.event m.tick (record doing { connection = None }) (Gone (unwrap_or link.ended 0)) in
      let slot : has_slot doing.talk.phase ≡ true = frame_slot setting.terms doing.talk doing.talk.phase m.tick is.wants in
      placed m.clients m.pool.queue number is.client next hold.Keep is.here
      (queue_none m.clients number is.client (after_hold setting number is.client next hold.Keep) is.here m.pool.queue (unqueued doing wants.Frame number is slot)
      (slot_unqueued next.talk.phase (gone_slot doing.talk.phase (unwrap_or link.ended 0) slot)) old)

  -- EVENTS ----------------------------------------------------------------------------------------

  last_queue : (number after : ℕ) (failover : Bool) (items left : List Served) (a : Machine) → ServesLast m number after items left a → IsQueue (falls failover a).pool.queue (falls failover a).clients
  last_queue number after failover items left a (LastNone same) = by_queue m.clients m.pool.queue (falls failover a).pool.queue (gone_queue m.pool (open_from 1 a.links)) old
  last_queue number after failover items left a (LastStopped front served is stopped same) = by_queue m.clients m.pool.queue (falls failover a).pool.queue (gone_queue m.pool (open_from 1 a.links)) old
  last_queue number after failover items left a (LastServed front served is over same) =
      by_queue m.clients m.pool.queue (falls failover a).pool.queue (gone_queue (pool_after m.pool number served.item) (open_from 1 a.links) ∙ served_queue m.pool number served.item) old

  pub happens_queue : (items left : List Served) (happened : Noted) (n : Machine) → Happens setting m items left happened n → IsQueue n.pool.queue n.clients
  happens_queue items left happened _ (Nothing kind other) = old
  happens_queue items left happened n (IsStep number did _ moves) = goes_queue number n moves
  happens_queue items left happened n (Serves number frame front served is ordinary same) = by_queue m.clients m.pool.queue n.pool.queue (served_queue m.pool number served.item) old
  happens_queue items left happened _ (Cuts number up down reached link is) = old
  happens_queue items left happened _ (Reaps number reaped orphan) = old
  happens_queue items left happened _ (Crashes number after failover down a runs last) = last_queue number after failover items left a last
  happens_queue items left happened _ (OpensUp incarnation down may) = old
  happens_queue items left happened _ (StopsOpening made down) = old
  happens_queue items left happened _ Ticks = old
  happens_queue items left happened _ (RunsOutside ran runs) = old
  happens_queue items left happened _ (Asks ltxid result runs) = old
  happens_queue items left happened _ (Drains closed) = old
