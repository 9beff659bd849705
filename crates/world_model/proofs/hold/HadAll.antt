-- An open connection is one request's or idle, behind each event.
use Rattle.std.proofs.Common.{◌≡◌, ◌≢◌, refl, sym, ap, subst, ◌∙◌, Bool, true, false, ℕ, suc, zero, ◌+◌, ◌≤◌, cond, length, length-append, List, [], ◌∷◌, ◌++◌, map, fold, count_by, Option, Some, None, ◌⊎◌, inl, inr, if◌then◌else◌, arith, add-one}
use Rattle.std.specs.Prelude.{◌==◌, not, slice_get}
use Rattle.std.specs.List.{list_all}
use Rattle.std.specs.Option.{option_map_or}
use Rattle.std.proofs.lemmas.Bool.{and_from, not-true}
use Rattle.std.proofs.lemmas.List.{length-map}
use Rattle.std.proofs.lemmas.List.Sums.{sum_by-cons}
use Rattle.std.proofs.lemmas.Option.{slice_get_within}
use Rattle.client_model.specs.declared.input.Wants.{Wants}
use Rattle.client_model.specs.declared.input.Wants.TheVariants as wants
use Rattle.client_model.specs.meaning.Talk.{on_waiting, waits_from, on_try_failed}
use Rattle.svc_values.specs.declared.frame.Up.TheVariants as up
use Rattle.pool_core.specs.meaning.Slots.{Slots, after_take, without, after_gone}
use Rattle.outage_schedule.specs.declared.item.Served.{Served}
use Rattle.world_model.specs.meaning.Frames.{Sent}
use Rattle.world_model.specs.meaning.Links.{Link, new_link, link_at, with_link, changed, ends, sends}
use Rattle.world_model.specs.meaning.Clients.{Doing, Client, client_at, doing_at}
use Rattle.world_model.specs.meaning.Acting.{owner_at, connection_of, sent_by}
use Rattle.world_model.specs.meaning.Machines.{Machine}
use Rattle.world_model.specs.meaning.Going.{lost_at_once}
use Rattle.world_model.specs.meaning.Matching.{Noted}
use Rattle.world_model.specs.meaning.Serving.{Front, is_blocked, after_front, handled, reply_of, commits_after, pool_after}
use Rattle.world_model.specs.meaning.Cutting.{cut_link, reaped_link}
use Rattle.world_model.specs.meaning.Crashing.{falls, fallen_link}
use Rattle.world_model.specs.meaning.Outside.{closed_by_drain}
use Rattle.world_model.specs.Traced.{Traced, courses_of}
use Rattle.world_model.specs.records.Hold.{is_idle, are_had, is_held}
use Rattle.world_model.proofs.script.Recalling.{get_last}
use Rattle.world_model.proofs.events.Tests.{eq_from, eq_to}
use Rattle.world_model.proofs.events.AllLists.{at_all}
use Rattle.world_model.proofs.events.AllLinks.{at_link, front_is, IsOpen, open_is}
use Rattle.world_model.proofs.basic.LinkEnds.{ends_at}
use Rattle.world_model.proofs.wire.LinkOrder.{is_orderly}
use Rattle.world_model.proofs.basic.Ends.{ends_case, fallen_case, cut_case}
use Rattle.world_model.proofs.events.Moves.{IsDoing, next_number, opens_one, Goes, Rests, Waits, Lends, Opens, Fails, Takes, Loses, takes_one, ServesLast, LastNone, LastStopped, LastServed, Happens, Nothing, IsStep, Serves, Cuts, Reaps, Crashes, OpensUp, StopsOpening, Ticks, RunsOutside, Asks, Drains}
use Rattle.world_model.proofs.events.Happened.{at_event}
use Rattle.world_model.proofs.events.Others.{changed_others}
use Rattle.world_model.proofs.wire.SentLinks.{spoken_by}
use Rattle.world_model.proofs.events.Lookups.{with_others, with_own, changed_own, falls_there, each_others}
use Rattle.world_model.proofs.hold.PoolOpened.{with_long, changed_long, each_long}
use Rattle.world_model.proofs.wire.Saying.{has_next}
use Rattle.world_model.proofs.hold.Held.{doing_course}
use Rattle.world_model.proofs.hold.HeldKept.{holds_rightly, HasIt, HasNone, HasOne, has_it}
use Rattle.world_model.proofs.hold.HeldEvents.{free}
use Rattle.world_model.proofs.hold.HeldAll.{not_frame}
use Rattle.world_model.proofs.hold.IdleKept.{all_rest}
use Rattle.world_model.proofs.hold.IdleAll.{tried_rest}
use Rattle.world_model.proofs.finish.Counts.{going_passes, goes_so, count_none, with_count}
use Rattle.world_model.proofs.hold.HadKept.{has_connection, holders, idle_in, had_test, as_open, AllHad, all_had, HadMove, Stays, Closes, Moved, HadStep, step_had, kept_had}
use Rattle.world_model.proofs.hold.HadSaid.{with_close, not_same}
use Rattle.world_model.proofs.hold.HadEvents.{not_had, waits_had, fails_had, opens_had, lends_had}
use Rattle.world_model.proofs.hold.HadTaken.{takes_had, loses_had}

-- ONE CONNECTION ----------------------------------------------------------------------------------

without_count : (numbers : List ℕ) (gone number : ℕ) → (number == gone) ≡ false → count_by (λ other. other == number) (without numbers gone) ≡ count_by (λ other. other == number) numbers
without_count [] gone number differs = refl
without_count (first ∷ numbers) gone number differs = by (first == gone) refl (without_count numbers gone number differs)
  where
    by : (same : Bool) → (first == gone) ≡ same → count_by (λ other. other == number) (without numbers gone) ≡ count_by (λ other. other == number) numbers
        → count_by (λ other. other == number) (cond (not same) (first ∷ without numbers gone) (without numbers gone)) ≡ count_by (λ other. other == number) (first ∷ numbers)
    by true is rest =
        let other : (first == number) ≡ false = not_same first number (λ e. let here : (number == gone) ≡ true = eq_to number gone (sym e ∙ eq_from first gone is) in let never : ⊥ = cc in never) in
        let none : ◌≡◌ {A = ℕ} (cond (first == number) 1 0) 0 = ap (λ (b : Bool). cond b 1 0) other in
        let before : count_by (λ (other : ℕ). other == number) (first ∷ numbers) ≡ cond (first == number) 1 0 + count_by (λ (other : ℕ). other == number) numbers = sum_by-cons (λ (other : ℕ). cond (other == number) 1 0) first numbers in
        let less : count_by (λ (other : ℕ). other == number) (first ∷ numbers) ≡ count_by (λ (other : ℕ). other == number) numbers = omega arith in
        rest ∙ sym less
    by false is rest =
        let before : count_by (λ (other : ℕ). other == number) (first ∷ numbers) ≡ cond (first == number) 1 0 + count_by (λ (other : ℕ). other == number) numbers = sum_by-cons (λ (other : ℕ). cond (other == number) 1 0) first numbers in
        let after : count_by (λ (other : ℕ). other == number) (first ∷ without numbers gone) ≡ cond (first == number) 1 0 + count_by (λ (other : ℕ). other == number) (without numbers gone)
        = sum_by-cons (λ (other : ℕ). cond (other == number) 1 0) first (without numbers gone) in
        after ∙ (ap (λ (n : ℕ). cond (first == number) 1 0 + n) rest ∙ sym before)

-- where one connection goes on
one_moved : (m n : Machine) (at : ℕ) (old new : Link) → link_at m.links at ≡ Some old → n.links ≡ with_link m.links at new → HadMove old.is_open (idle_in m.pool at) false false new.is_open (idle_in n.pool at)
    → ((number : ℕ) → (number == at) ≡ false → idle_in n.pool number ≡ idle_in m.pool number) → (number : ℕ) (link : Link) → link_at m.links number ≡ Some link → Moved m n number link false false
one_moved m n at old new there links move idle number link found = by (number == at) refl
  where
    own : (one : Link) → link_at m.links at ≡ Some one → Moved m n at one false false
    own one is =
        let both : Some old ≡ Some one = sym there ∙ is in
        let same : old ≡ one = cc in
        record {
          now = new;
          there = ap (λ (all : List Link). link_at all at) links ∙ with_own m.links at old new there;
          move = subst (λ (l : Link). HadMove l.is_open (idle_in m.pool at) false false new.is_open (idle_in n.pool at)) same move;
        }

    by : (same : Bool) → (number == at) ≡ same → Moved m n number link false false
    by true same = subst (λ (k : ℕ). (one : Link) → link_at m.links k ≡ Some one → Moved m n k one false false) (sym (eq_from number at same)) own link found
    by false same = record {
      now = link;
      there = ap (λ (all : List Link). link_at all number) links
          ∙ (with_others m.links at number new (λ e. let yes_is : (number == at) ≡ true = eq_to number at e in let never : ⊥ = cc in never) ∙ found);
      move = Stays refl refl (idle number same);
    }

same_moved : (m n : Machine) → n.links ≡ m.links → n.pool.idle ≡ m.pool.idle → (number : ℕ) (link : Link) → link_at m.links number ≡ Some link → Moved m n number link false false
same_moved m n links idle number link there = record { now = link; there = ap (λ (all : List Link). link_at all number) links ∙ there; move = Stays refl refl (ap (count_by (λ other. other == number)) idle) }

-- a frame is served
served_moved : (m n : Machine) (at : ℕ) (front : Front) (served : Served) → link_at m.links at ≡ Some front.link → n.links ≡ with_link m.links at (handled m.event front served) → n.pool ≡ pool_after m.pool at served.item
    → (number : ℕ) (link : Link) → link_at m.links number ≡ Some link → Moved m n number link false false
served_moved m n at front served there links pool =
    one_moved m n at front.link (handled m.event front served) there links
    (subst (λ (p : Slots). HadMove front.link.is_open (idle_in m.pool at) false false (handled m.event front served).is_open (idle_in p at)) (sym pool) (own (is_blocked served.item)))
    (λ number differs. ap (λ (p : Slots). idle_in p number) pool ∙ others number differs (is_blocked served.item))
  where
    after : Link
    after = after_front front served (reply_of served.session (commits_after front.link served.item) served.item)

    own : (blocked : Bool) → HadMove front.link.is_open (idle_in m.pool at) false false (if blocked then ends m.event after else after).is_open (idle_in (if blocked then after_gone m.pool at else m.pool) at)
    own true = Closes (ends_case (λ (one : Link). one.is_open ≡ false) m.event after (λ opens. refl) (λ closed. closed)) (λ has. has)
    own false = Stays refl refl refl

    others : (number : ℕ) → (number == at) ≡ false → (blocked : Bool) → idle_in (if blocked then after_gone m.pool at else m.pool) number ≡ idle_in m.pool number
    others number differs true = without_count m.pool.idle at number differs
    others number differs false = refl

-- A CRASH AND A DRAIN -----------------------------------------------------------------------------

all_closed : (event : ℕ) (links : List Link) → list_all (λ link. not link.is_open) (map (fallen_link event) links) ≡ true
all_closed event [] = refl
all_closed event (link ∷ links) =
    and_from (not (fallen_link event link).is_open) (list_all (λ one. not one.is_open) (map (fallen_link event) links))
    (fallen_case (λ (one : Link). not one.is_open ≡ true) event link (λ opens. refl) (λ closed. ap not closed)) (all_closed event links)

-- one that is idle is closed
pub record IsDrained (links : List Link) (number : ℕ) : Type 0 where
  pub now : Link
  pub there : link_at links number ≡ Some now
  pub closed : now.is_open ≡ false

drained_at : (event : ℕ) (frames : List Sent) → ((link : Link) → (sends event frames link).is_open ≡ false) → (numbers : List ℕ) (links : List Link) (number : ℕ) (link : Link) → link_at links number ≡ Some link
    → (1 ≤ count_by (λ other. other == number) numbers) ⊎ (link.is_open ≡ false) → IsDrained (fold (changed (sends event frames)) links numbers) number
drained_at event frames shuts [] links number link there (inl some) = absurd (let none : count_by (λ (other : ℕ). other == number) [] ≡ 0 = refl in let never : ⊥ = omega arith in never)
drained_at event frames shuts [] links number link there (inr closed) = record { now = link; there = there; closed = closed }
drained_at event frames shuts (first ∷ numbers) links number link there some =
    by (first == number) refl some
    (λ one found closed. drained_at event frames shuts numbers (changed (sends event frames) links first) number one found closed)
  where
    later : List Link
    later = changed (sends event frames) links first

    fewer : {all one count : ℕ} → (1 ≤ all) ⊎ (link.is_open ≡ false) → one ≡ 0 → all ≡ one + count → (1 ≤ count) ⊎ (link.is_open ≡ false)
    fewer (inl more) none split = inl (omega arith)
    fewer (inr closed) none split = inr closed

    by : (same : Bool) → (first == number) ≡ same → (1 ≤ count_by (λ other. other == number) (first ∷ numbers)) ⊎ (link.is_open ≡ false)
        → ((one : Link) → link_at later number ≡ Some one → (1 ≤ count_by (λ other. other == number) numbers) ⊎ (one.is_open ≡ false) → IsDrained (fold (changed (sends event frames)) later numbers) number)
        → IsDrained (fold (changed (sends event frames)) later numbers) number
    by true same some rest =
        let first_is : first ≡ number = eq_from first number same in
        rest (sends event frames link) (ap (λ (k : ℕ). link_at (changed (sends event frames) links k) number) first_is ∙ changed_own (sends event frames) links number link there) (inr (shuts link))
    by false same some rest =
        let apart : number ≢ first = λ e. let yes_is : (first == number) ≡ true = eq_to first number (sym e) in let never : ⊥ = cc in never in
        let zero_is : ◌≡◌ {A = ℕ} (cond (first == number) 1 0) 0 = ap (λ (b : Bool). cond b 1 0) same in
        let split : count_by (λ (other : ℕ). other == number) (first ∷ numbers) ≡ cond (first == number) 1 0 + count_by (λ (other : ℕ). other == number) numbers = sum_by-cons (λ (other : ℕ). cond (other == number) 1 0) first numbers in
        rest link (changed_others (sends event frames) links first number apart ∙ there) (fewer some zero_is split)

drains_moved : (m n : Machine) → n.links ≡ fold (changed (sends m.event (closed_by_drain ∷ []))) m.links m.pool.idle → n.pool.idle ≡ [] → (number : ℕ) (link : Link) → link_at m.links number ≡ Some link → Moved m n number link false false
drains_moved m n links idle number link there = by (idle_in m.pool number) refl
  where
    none_now : idle_in n.pool number ≡ 0
    none_now = ap (count_by (λ other. other == number)) idle

    by : (count : ℕ) → idle_in m.pool number ≡ count → Moved m n number link false false
    by zero none = record {
      now = link;
      there = ap (λ (all : List Link). link_at all number) links ∙ (each_others (sends m.event (closed_by_drain ∷ [])) m.links m.pool.idle number none ∙ there);
      move = Stays refl refl (none_now ∙ sym none);
    }
    by (suc more) some =
        let is = drained_at m.event (closed_by_drain ∷ []) (λ one. with_close m.event (closed_by_drain ∷ []) one refl) m.pool.idle m.links number link there (inl (let few : 1 ≤ idle_in m.pool number = omega arith in few)) in
        record { now = is.now; there = ap (λ (all : List Link). link_at all number) links ∙ is.there; move = Closes is.closed (λ has. has) }

-- ONE CLIENT --------------------------------------------------------------------------------------

-- a client took a step, or none did
data IsHadStep (m : Machine) : Machine → Type 0 where
  NoHad : IsHadStep m m
  OneHad : (who : ℕ) (client : Client) (n : Machine) → client_at m.clients who ≡ Some client → HadStep m who client n → length n.links ≡ length m.links → IsHadStep m n
  NewHad : (who : ℕ) (client : Client) (n : Machine) → client_at m.clients who ≡ Some client → (step : HadStep m who client n) → length n.links ≡ length m.links + 1
      → goes_so (has_connection (next_number m)) client ≡ false → goes_so (has_connection (next_number m)) step.next ≡ true → idle_in n.pool (next_number m) ≡ 0
      → ((one : Link) → link_at n.links (next_number m) ≡ Some one → one.is_open ≡ true) → IsHadStep m n

within : (links : List Link) (number : ℕ) (link : Link) → link_at links number ≡ Some link → number ≤ length links
within links zero link is = absurd (let none : ⊥ = cc in none)
within links (suc index) link is = let below = slice_get_within links index link is in omega arith

-- connections that are as many as before have the same numbers
beyond : {A : Type 0} (xs ys : List A) (index : ℕ) (y : A) → slice_get ys index ≡ Some y → length ys ≤ length xs → slice_get xs index ≡ None → ⊥
beyond [] [] index y is few none = let never : ⊥ = cc in never
beyond [] (first ∷ ys) index y is few none = let never : ⊥ = omega arith in never
beyond (x ∷ xs) [] index y is few none = let never : ⊥ = cc in never
beyond (x ∷ xs) (first ∷ ys) zero y is few none = let never : ⊥ = cc in never
beyond (x ∷ xs) (first ∷ ys) (suc index) y is few none = let less : length ys ≤ length xs = omega arith in beyond xs ys index y is less none

none_beyond : (links later : List Link) (number : ℕ) (link : Link) → link_at later number ≡ Some link → length later ≤ length links → link_at links number ≡ None → ⊥
none_beyond links later zero link is few none = let never : ⊥ = cc in never
none_beyond links later (suc index) link is few none = beyond links later index link is few none

last_beyond : {A : Type 0} (xs ys : List A) (index : ℕ) (y : A) → slice_get ys index ≡ Some y → length ys ≡ length xs + 1 → slice_get xs index ≡ None → index ≡ length xs
last_beyond [] [] index y is one none = absurd (let never : ⊥ = cc in never)
last_beyond [] (first ∷ ys) zero y is one none = refl
last_beyond [] (first ∷ ys) (suc index) y is one none = absurd (let below = slice_get_within ys index y is in let never : ⊥ = omega arith in never)
last_beyond (x ∷ xs) [] index y is one none = absurd (let never : ⊥ = cc in never)
last_beyond (x ∷ xs) (first ∷ ys) zero y is one none = absurd (let never : ⊥ = cc in never)
last_beyond (x ∷ xs) (first ∷ ys) (suc index) y is one none = let more : length ys ≡ length xs + 1 = omega arith in ap suc (last_beyond xs ys index y is more none)

new_number : (links later : List Link) (number : ℕ) (link : Link) → link_at later number ≡ Some link → length later ≡ length links + 1 → link_at links number ≡ None → number ≡ length links + 1
new_number links later zero link is one none = absurd (let never : ⊥ = cc in never)
new_number links later (suc index) link is one none = let at : index ≡ length links = last_beyond links later index link is one none in omega arith

-- from each connection that was there
as_many : (m n : Machine) → length n.links ≤ length m.links
    → ((number : ℕ) (link one : Link) → link_at m.links number ≡ Some link → link_at n.links number ≡ Some one → had_test one.is_open (holders n.clients number) (idle_in n.pool number) ≡ true) → AllHad n
as_many m n few each number one is = by (link_at m.links number) refl
  where
    by : (found : Option Link) → link_at m.links number ≡ found → had_test one.is_open (holders n.clients number) (idle_in n.pool number) ≡ true
    by None none = absurd (none_beyond m.links n.links number one is few none)
    by (Some link) there = each number link one there is

module _ (t : Traced) (had : are_had t ≡ true) (held : list_all (is_held t) (courses_of t) ≡ true) (idle : list_all (λ number. option_map_or is_idle (link_at t.machine.links number) false) t.machine.pool.idle ≡ true)
    (orderly : list_all is_orderly t.machine.links ≡ true) (ended : list_all (ends_at t.machine.event) t.machine.links ≡ true)
    (calls : (number : ℕ) (doing : Doing) → IsDoing t.setting (at_event t.machine) number doing wants.Slot → has_next doing.talk ≡ true) where
  abbrev now : Machine
  now = at_event t.machine

  old_had : AllHad now
  old_had = all_had t had

  held_before : (number : ℕ) (client : Client) (doing : Doing) → client_at t.machine.clients number ≡ Some client → client.now ≡ Some doing → holds_rightly t.machine.links (record { client = number; place = length client.past }) doing ≡ true
  held_before number client doing here is = doing_course (is_held t) t number client doing held here is

  none_of : (who : ℕ) (doing : Doing) (wanted : Wants) → IsDoing t.setting now who doing wanted → (wanted ≡ wants.Frame → ⊥) → doing.connection ≡ None
  none_of who doing wanted is other = free t.setting now held_before idle orderly t.machine.event ended who doing wanted is other

  -- a new number is no request's, and is not idle
  new_holders : holders t.machine.clients (next_number now) ≡ 0
  new_holders = count_none (goes_so (has_connection (next_number now))) t.machine.clients (λ index client is. by index client is client.now refl)
    where
      at : (index : ℕ) (client : Client) (doing : Doing) → HasIt t.machine.links (record { client = suc index; place = length client.past }) doing → has_connection (next_number now) doing ≡ false
      at index client doing (HasNone none) = ap (λ (c : Option ℕ). option_map_or (λ other. other == next_number now) c false) none
      at index client doing (HasOne number link has there out) =
          let below : number ≤ length t.machine.links = within t.machine.links number link there in
          ap (λ (c : Option ℕ). option_map_or (λ other. other == next_number now) c false) has ∙ not_same number (next_number now) (λ e. let never : ⊥ = omega arith in never)

      by : (index : ℕ) (client : Client) → slice_get t.machine.clients index ≡ Some client → (going : Option Doing) → client.now ≡ going → goes_so (has_connection (next_number now)) client ≡ false
      by index client is None none = ap (going_passes (has_connection (next_number now))) none
      by index client is (Some doing) going =
          ap (going_passes (has_connection (next_number now))) going ∙ at index client doing (has_it t.machine.links (record { client = suc index; place = length client.past }) doing (held_before (suc index) client doing is going))

  new_idle : idle_in t.machine.pool (next_number now) ≡ 0
  new_idle = count_none (λ (other : ℕ). other == next_number now) t.machine.pool.idle (λ index one is. by one (link_at t.machine.links one) refl (at_all (λ number. option_map_or is_idle (link_at t.machine.links number) false) t.machine.pool.idle index one idle is))
    where
      by : (one : ℕ) (found : Option Link) → link_at t.machine.links one ≡ found → option_map_or is_idle found false ≡ true → (one == next_number now) ≡ false
      by one None none is = absurd (let never : ⊥ = cc in never)
      by one (Some link) there is = let below : one ≤ length t.machine.links = within t.machine.links one link there in not_same one (next_number now) (λ e. let never : ⊥ = omega arith in never)

  goes_step : (number : ℕ) (n : Machine) → Goes t.setting now number n → IsHadStep now n
  goes_step number _ Rests = NoHad
  goes_step number _ (Waits doing is answer) =
      OneHad number is.client _ is.here
      (waits_had t.setting now number doing is (none_of number doing wants.Slot is (λ e. let never : ⊥ = cc in never)) answer _ refl
      (spoken_by (owner_at now number) (after_take t.machine.pool number) (connection_of doing) (on_waiting t.setting.terms doing.talk (waits_from doing.talk.phase t.machine.tick) t.machine.tick)) refl refl)
      (changed_long _ t.machine.links (connection_of doing))
  goes_step number _ (Lends doing connection link ltxid is answer there holds) =
      OneHad number is.client _ is.here
      (lends_had t.setting now number connection doing ltxid is (none_of number doing wants.Slot is (λ e. let never : ⊥ = cc in never)) answer idle (calls number doing is) _ refl refl refl)
      (changed_long _ t.machine.links connection)
  goes_step number _ (Opens doing wanted pool is tries runs) =
      let none : doing.connection ≡ None = none_of number doing wanted is (not_frame now number wanted pool tries) in
      let frames : List Sent = sent_by (owner_at now number) 0 up.Connect ∷ [] in
      let new : link_at (t.machine.links ++ new_link ∷ []) (next_number now) ≡ Some new_link = ap (λ (n : ℕ). link_at (t.machine.links ++ new_link ∷ []) n) (add-one (length t.machine.links)) ∙ get_last t.machine.links new_link in
      let step = opens_had t.setting now number doing wanted pool is none tries frames (opens_one t.setting now number doing pool) refl refl refl in
      NewHad number is.client _ is.here step.0
      (changed_long _ (t.machine.links ++ new_link ∷ []) (next_number now) ∙ length-append t.machine.links (new_link ∷ []))
      (not_had t.setting now (next_number now) number doing wanted is none) step.1
      (ap (count_by (λ other. other == next_number now)) (tried_rest now number wanted pool tries).idle ∙ new_idle)
      (λ one there.
      let own : link_at (changed (sends now.event frames) (t.machine.links ++ new_link ∷ []) (next_number now)) (next_number now) ≡ Some (sends now.event frames new_link) = changed_own (sends now.event frames) (t.machine.links ++ new_link ∷ []) (next_number now) new_link new in
      let both : Some (sends now.event frames new_link) ≡ Some one = sym own ∙ there in
      let same : sends now.event frames new_link ≡ one = cc in
      sym (ap (λ (l : Link). l.is_open) same))
  goes_step number _ (Fails doing wanted pool is tries down) =
      OneHad number is.client _ is.here
      (fails_had t.setting now number doing wanted pool is (none_of number doing wanted is (not_frame now number wanted pool tries)) tries _ refl
      (spoken_by (owner_at now number) pool (connection_of doing) (on_try_failed t.setting.terms doing.talk t.machine.tick)) refl refl)
      (changed_long _ t.machine.links (connection_of doing))
  goes_step number _ (Takes doing connection link reply left is on down) =
      let a : Machine = takes_one t.setting now number doing connection link reply left in
      OneHad number is.client _ is.here (takes_had t.setting now number connection doing link reply left is on.has on.there link.ended link.is_open refl)
      (or_long a link.ended (doing_of a) link.is_open ∙ (changed_long _ (with_link t.machine.links connection _) (connection_of doing) ∙ with_long t.machine.links connection _))
    where
      doing_of : Machine → Option Doing
      doing_of a = doing_at a.clients number

      or_long : (a : Machine) (event : Option ℕ) (lost : Option Doing) (alive : Bool) → length (if alive then a else lost_at_once t.setting a number event lost).links ≡ length a.links
      or_long a event lost true = refl
      or_long a event None false = refl
      or_long a event (Some one) false = refl
  goes_step number _ (Loses doing connection link is on none closed) = OneHad number is.client _ is.here (loses_had t.setting now number connection doing link is on.has on.there closed link.ended) refl

  by_step : (n : Machine) → all_rest n.links n.pool ≡ true → IsHadStep now n → AllHad n
  by_step _ rest NoHad = old_had
  by_step _ rest (OneHad who client n here step long) = as_many now n (let few : length n.links ≤ length now.links = omega arith in few) (step_had now n who client old_had rest here step)
  by_step _ rest (NewHad who client n here step long none some unused opens) = λ number one is. by number one is (link_at t.machine.links number) refl
    where
      count : holders n.clients (next_number now) + cond (goes_so (has_connection (next_number now)) client) 1 0 ≡ holders t.machine.clients (next_number now) + cond (goes_so (has_connection (next_number now)) step.next) 1 0
      count = ap (λ (all : List Client). holders all (next_number now) + cond (goes_so (has_connection (next_number now)) client) 1 0) step.clients
          ∙ with_count (goes_so (has_connection (next_number now))) t.machine.clients who client step.next here

      sum : holders n.clients (next_number now) + idle_in n.pool (next_number now) ≡ 1
      sum =
          let zero_is : ◌≡◌ {A = ℕ} (cond (goes_so (has_connection (next_number now)) client) 1 0) 0 = ap (λ (b : Bool). cond b 1 0) none in
          let one : ◌≡◌ {A = ℕ} (cond (goes_so (has_connection (next_number now)) step.next) 1 0) 1 = ap (λ (b : Bool). cond b 1 0) some in
          let before : holders t.machine.clients (next_number now) ≡ 0 = new_holders in
          let counted = count in
          let idle_is : idle_in n.pool (next_number now) ≡ 0 = unused in
          omega arith

      newest : (one : Link) → link_at n.links (next_number now) ≡ Some one → had_test one.is_open (holders n.clients (next_number now)) (idle_in n.pool (next_number now)) ≡ true
      newest one is = as_open one.is_open (holders n.clients (next_number now)) (idle_in n.pool (next_number now)) (opens one is) sum

      by : (number : ℕ) (one : Link) → link_at n.links number ≡ Some one → (found : Option Link) → link_at t.machine.links number ≡ found → had_test one.is_open (holders n.clients number) (idle_in n.pool number) ≡ true
      by number one is (Some link) there = step_had now n who client old_had rest here step number link one there is
      by number one is None beyond_is =
          subst (λ (k : ℕ). (l : Link) → link_at n.links k ≡ Some l → had_test l.is_open (holders n.clients k) (idle_in n.pool k) ≡ true) (sym (new_number t.machine.links n.links number one is long beyond_is)) newest one is

  -- ALL EVENTS ------------------------------------------------------------------------------------

  no_step : (n : Machine) → all_rest n.links n.pool ≡ true → n.clients ≡ t.machine.clients → length n.links ≡ length t.machine.links → ((number : ℕ) (link : Link) → link_at t.machine.links number ≡ Some link → Moved now n number link false false) → AllHad n
  no_step n rest clients long moved = as_many now n (let few : length n.links ≤ length now.links = omega arith in few) (λ number link one there is. kept_had now n old_had rest clients number link one there (moved number link there) is)

  last_clients : (number after : ℕ) (failover : Bool) (items left : List Served) (a : Machine) → ServesLast now number after items left a → ((falls failover a).clients ≡ t.machine.clients) × (length (falls failover a).links ≡ length t.machine.links)
  last_clients number after failover items left _ (LastNone same) = (refl, length-map t.machine.links (fallen_link now.event))
  last_clients number after failover items left _ (LastStopped front served is stopped same) = (refl, length-map (with_link t.machine.links number _) (fallen_link now.event) ∙ with_long t.machine.links number _)
  last_clients number after failover items left _ (LastServed front served is over same) = (refl, length-map (with_link t.machine.links number _) (fallen_link now.event) ∙ with_long t.machine.links number _)

  last_event : (number after : ℕ) (items left : List Served) (a : Machine) → ServesLast now number after items left a → a.event ≡ now.event
  last_event number after items left _ (LastNone same) = refl
  last_event number after items left _ (LastStopped front served is stopped same) = refl
  last_event number after items left _ (LastServed front served is over same) = refl

  crash_moved : (number after : ℕ) (failover : Bool) (items left : List Served) (a : Machine) → ServesLast now number after items left a → (other : ℕ) (link : Link) → link_at t.machine.links other ≡ Some link
      → Moved now (falls failover a) other link false false
  crash_moved number after failover items left a last other link there =
      let is = falls_there now number after failover items left a last other link there in
      let closed : not is.now.is_open ≡ true = at_link (λ (l : Link). not l.is_open) (falls failover a).links other is.now (all_closed a.event a.links) is.there in
      record { now = is.now; there = is.there; move = Closes (not-true is.now.is_open closed) (λ has. has) }

  reaps_moved : (number : ℕ) (n : Machine) → n.links ≡ changed reaped_link t.machine.links number → n.pool ≡ t.machine.pool → (other : ℕ) (link : Link) → link_at t.machine.links other ≡ Some link → Moved now n other link false false
  reaps_moved number n links pool = by (link_at t.machine.links number) refl
    where
      by : (found : Option Link) → link_at t.machine.links number ≡ found → (other : ℕ) (link : Link) → link_at t.machine.links other ≡ Some link → Moved now n other link false false
      by None none = same_moved now n (links ∙ ap (λ (f : Option Link). option_map_or (λ one. with_link t.machine.links number (reaped_link one)) f t.machine.links) none) (ap (λ (p : Slots). p.idle) pool)
      by (Some one) at =
          one_moved now n number one (reaped_link one) at (links ∙ ap (λ (f : Option Link). option_map_or (λ l. with_link t.machine.links number (reaped_link l)) f t.machine.links) at)
          (Stays refl refl (ap (λ (p : Slots). idle_in p number) pool)) (λ other differs. ap (λ (p : Slots). idle_in p other) pool)

  pub had_after : (items left : List Served) (happened : Noted) (n : Machine) → Happens t.setting now items left happened n → all_rest n.links n.pool ≡ true → AllHad n
  had_after items left happened _ (Nothing kind other) rest = old_had
  had_after items left happened n (IsStep number did _ moves) rest = by_step n rest (goes_step number n moves)
  had_after items left happened n (Serves number frame front served is ordinary same) rest =
      no_step n rest refl (with_long t.machine.links number _) (served_moved now n number front served (front_is t.machine.links number front is).there refl refl)
  had_after items left happened n (Cuts number up down reached link is) rest =
      let open_at : IsOpen t.machine.links number link = open_is t.machine.links number link is in
      no_step n rest refl (with_long t.machine.links number _)
      (one_moved now n number link (cut_link now.event up down link) open_at.there refl
      (Closes (cut_case (λ (l : Link). l.is_open ≡ false) now.event up down link open_at.open_now refl) (λ has. has)) (λ other differs. without_count t.machine.pool.idle number other differs))
  had_after items left happened n (Reaps number reaped orphan) rest = no_step n rest refl (changed_long reaped_link t.machine.links number) (reaps_moved number n refl refl)
  had_after items left happened n (Crashes number after failover down a runs last) rest =
      let both = last_clients number after failover items left a last in no_step n rest both.0 both.1 (crash_moved number after failover items left a last)
  had_after items left happened n (OpensUp incarnation down may) rest = old_had
  had_after items left happened n (StopsOpening made down) rest = old_had
  had_after items left happened n Ticks rest = old_had
  had_after items left happened n (RunsOutside ran runs) rest = old_had
  had_after items left happened n (Asks ltxid result runs) rest = old_had
  had_after items left happened n (Drains closed) rest = no_step n rest refl (each_long _ t.machine.links t.machine.pool.idle) (drains_moved now n refl refl)
