-- What was served on a connection stays: behind each event it is there, and what was among its
-- items still is.
use Rattle.std.proofs.Common.{◌≡◌, refl, sym, subst, ◌∙◌, Bool, true, false, ℕ, suc, zero, fold, List, [], ◌∷◌, ◌++◌, map, Option, Some, None, if◌then◌else◌}
use Rattle.std.specs.Prelude.{slice_get, slice_set, unwrap_or}
use Rattle.std.specs.List.{list_any}
use Rattle.std.specs.Option.{option_map_or}
use Rattle.std.proofs.lemmas.List.Folds.{list_any-append}
use Rattle.std.proofs.lemmas.Bool.{or_left}
use Rattle.outage_schedule.specs.declared.item.Served.{Served}
use Rattle.pool_core.specs.meaning.Slots.{after_take}
use Rattle.client_model.specs.declared.act.Act.{Act}
use Rattle.client_model.specs.declared.input.Input.{Input}
use Rattle.client_model.specs.declared.input.Input.TheVariants.{Waiting, Lent, TryFailed, Took, Gone}
use Rattle.world_model.specs.meaning.Acting.{sent_by, call_in, frames_of, owner_at, connection_of, act_at, acts, steps}
use Rattle.world_model.specs.meaning.Clients.{Doing, doing_at, heard}
use Rattle.world_model.specs.meaning.Crashing.{falls, fallen_link}
use Rattle.world_model.specs.meaning.Cutting.{cut_link, reaped_link}
use Rattle.world_model.specs.meaning.Frames.{Sent, Handled}
use Rattle.world_model.specs.meaning.Going.{lost_at_once}
use Rattle.world_model.specs.meaning.Links.{Link, link_at, with_link, changed, sends, takes}
use Rattle.world_model.specs.meaning.Machines.{Machine}
use Rattle.world_model.specs.meaning.Matching.{Noted}
use Rattle.world_model.specs.meaning.Outside.{closed_by_drain}
use Rattle.world_model.specs.meaning.Serving.{Front, handled, after_front}
use Rattle.world_model.specs.meaning.Settings.{Setting}
use Rattle.world_model.proofs.Offered.{front_is, open_is, sends_alike, handled_alike, cut_case, fallen_case, get_mapped, new_others, with_pool, Goes, Rests, Waits, Lends, Opens, MovesFails as Fails, Takes, Loses, takes_one, ServesLast, LastNone, LastStopped, LastServed, Happens, Nothing, IsStep, Serves, Cuts, Reaps, Crashes, OpensUp, StopsOpening, Ticks, RunsOutside, MovesAsks as Asks, Drains}

-- what is among its items is among those of the other
abbrev pub HasAll : Link → Link → Type 0
HasAll a b = (test : Handled → Bool) → list_any test a.served ≡ true → list_any test b.served ≡ true

-- the connection of this number is there, with all its items
pub record IsLonger (links : List Link) (number : ℕ) (link : Link) : Type 0 where
  pub now : Link
  pub there : link_at links number ≡ Some now
  pub all : HasAll link now

as_before : (links : List Link) (number : ℕ) (link : Link) → link_at links number ≡ Some link → IsLonger links number link
as_before links number link is = record { now = link; there = is; all = λ test here. here }

-- LISTS -------------------------------------------------------------------------------------------

still : (links : List Link) (index : ℕ) (old new : Link) → slice_get links index ≡ Some old → HasAll old new → (other : ℕ) (link : Link) → slice_get links other ≡ Some link → IsLonger (slice_set links index new) (suc other) link
still [] index old new is more other link at = absurd (let none : ⊥ = cc in none)
still (first ∷ links) zero old new is more zero link at =
    let one : first ≡ old = cc in
    let two : first ≡ link = cc in
    record { now = new; there = refl; all = subst (λ (l : Link). HasAll l new) (sym one ∙ two) more }
still (first ∷ links) zero old new is more (suc other) link at = record { now = link; there = at; all = λ test here. here }
still (first ∷ links) (suc index) old new is more zero link at = record { now = link; there = at; all = λ test here. here }
still (first ∷ links) (suc index) old new is more (suc other) link at = let rest = still links index old new is more other link at in record { now = rest.now; there = rest.there; all = rest.all }

with_longer : (links : List Link) (number : ℕ) (old new : Link) → link_at links number ≡ Some old → HasAll old new → (other : ℕ) (link : Link) → link_at links other ≡ Some link → IsLonger (with_link links number new) other link
with_longer links zero old new is more other link at = absurd (let none : ⊥ = cc in none)
with_longer links (suc index) old new is more zero link at = absurd (let none : ⊥ = cc in none)
with_longer links (suc index) old new is more (suc other) link at = still links index old new is more other link at

found_longer : (change : Link → Link) (links : List Link) (number : ℕ) (found : Option Link) → link_at links number ≡ found → ((link : Link) → HasAll link (change link)) → (other : ℕ) (link : Link) → link_at links other ≡ Some link
    → IsLonger (option_map_or (λ one. with_link links number (change one)) found links) other link
found_longer change links number None is more other link at = as_before links other link at
found_longer change links number (Some one) is more other link at = with_longer links number one (change one) is (more one) other link at

changed_longer : (change : Link → Link) (links : List Link) (number : ℕ) → ((link : Link) → HasAll link (change link)) → (other : ℕ) (link : Link) → link_at links other ≡ Some link → IsLonger (changed change links number) other link
changed_longer change links number more other link at = found_longer change links number (link_at links number) refl more other link at

all_longer : (change : Link → Link) (links : List Link) → ((link : Link) → HasAll link (change link)) → (other : ℕ) (link : Link) → link_at links other ≡ Some link → IsLonger (map change links) other link
all_longer change links more zero link at = absurd (let none : ⊥ = cc in none)
all_longer change links more (suc other) link at = record { now = change link; there = get_mapped change links other link at; all = more link }

then_longer : (first next : List Link) (number : ℕ) (link : Link) → IsLonger first number link → ((now : Link) → link_at first number ≡ Some now → IsLonger next number now) → IsLonger next number link
then_longer first next number link one further =
    let two = further one.now one.there in record { now = two.now; there = two.there; all = λ test here. two.all test (one.all test here) }

-- ONE CONNECTION ----------------------------------------------------------------------------------

sends_all : (event : ℕ) (frames : List Sent) (link : Link) → HasAll link (sends event frames link)
sends_all event frames link = sends_alike (HasAll link) event frames link (λ test here. here) (λ test here. here)

one_more : (served : List Handled) (one : Handled) (test : Handled → Bool) → list_any test served ≡ true → list_any test (served ++ one ∷ []) ≡ true
one_more served one test here = list_any-append test served (one ∷ []) ∙ or_left (list_any test served) (list_any test (one ∷ [])) here

handled_all : (event : ℕ) (front : Front) (served : Served) → HasAll front.link (handled event front served)
handled_all event front served =
    handled_alike (HasAll front.link) event front served (λ reply test here. one_more front.link.served (record { sent = front.first; served = served; reply = reply }) test here)
    (λ reply test here. one_more front.link.served (record { sent = front.first; served = served; reply = reply }) test here)

fallen_all : (event : ℕ) (link : Link) → HasAll link (fallen_link event link)
fallen_all event link = fallen_case (HasAll link) event link (λ opens test here. here) (λ closed test here. here)

cut_all : (event up down : ℕ) (link : Link) → link.is_open ≡ true → HasAll link (cut_link event up down link)
cut_all event up down link opens = cut_case (HasAll link) event up down link opens (λ test here. here)

-- EVENTS ------------------------------------------------------------------------------------------

each_longer : (event : ℕ) (frames : List Sent) (numbers : List ℕ) (links : List Link) (other : ℕ) (link : Link) → link_at links other ≡ Some link → IsLonger (fold (changed (sends event frames)) links numbers) other link
each_longer event frames [] links other link at = as_before links other link at
each_longer event frames (number ∷ numbers) links other link at =
    then_longer (changed (sends event frames) links number) (fold (changed (sends event frames)) (changed (sends event frames) links number) numbers) other link
    (changed_longer (sends event frames) links number (sends_all event frames) other link at) (λ now there. each_longer event frames numbers (changed (sends event frames) links number) other now there)

module _ (setting : Setting) (m : Machine) where
  falls_longer : (number after : ℕ) (failover : Bool) (items left : List Served) (a : Machine) → ServesLast m number after items left a → (other : ℕ) (link : Link) → link_at m.links other ≡ Some link → IsLonger (falls failover a).links other link
  falls_longer number after failover items left _ (LastNone same) other link at = all_longer (fallen_link m.event) m.links (fallen_all m.event) other link at
  falls_longer number after failover items left _ (LastStopped front served is stopped same) other link at =
      let new : Link = after_front front served None in
      then_longer (with_link m.links number new) (map (fallen_link m.event) (with_link m.links number new)) other link
      (with_longer m.links number front.link new (front_is m.links number front is).there (λ test here. one_more front.link.served (record { sent = front.first; served = served; reply = None }) test here) other link at)
      (λ now there. all_longer (fallen_link m.event) (with_link m.links number new) (fallen_all m.event) other now there)
  falls_longer number after failover items left _ (LastServed front served is over same) other link at =
      let new : Link = handled m.event front served in
      then_longer (with_link m.links number new) (map (fallen_link m.event) (with_link m.links number new)) other link
      (with_longer m.links number front.link new (front_is m.links number front is).there (handled_all m.event front served) other link at)
      (λ now there. all_longer (fallen_link m.event) (with_link m.links number new) (fallen_all m.event) other now there)

  unless_longer : (a : Machine) (who : ℕ) (ended : Option ℕ) (doing : Option Doing) (is_open : Bool) (other : ℕ) (link : Link) → IsLonger a.links other link → IsLonger (if is_open then a else lost_at_once setting a who ended doing).links other link
  unless_longer a who ended doing true other link is = is
  unless_longer a who ended None false other link is = is
  unless_longer a who ended (Some doing) false other link is = is

  acts_longer : (a : Machine) (who : ℕ) (doing : Doing) (holds : Bool) (act : Act) (other : ℕ) (link : Link) → link_at a.links other ≡ Some link → IsLonger (acts setting a who doing holds act).links other link
  acts_longer a who doing holds act other link at =
      let said : List Sent = map (sent_by (owner_at a who) (call_in doing.talk.phase)) (frames_of a.pool (connection_of doing) act) in
      changed_longer (sends a.event said) a.links (connection_of doing) (sends_all a.event said) other link at

  steps_longer : (a : Machine) (who : ℕ) (doing : Doing) (holds : Bool) (input : Input) (other : ℕ) (link : Link) → link_at a.links other ≡ Some link → IsLonger (steps setting a who doing holds input).links other link
  steps_longer a who doing holds input other link at = acts_longer a who (heard setting.terms a.event a.tick doing input) holds (act_at setting a doing input) other link at

  goes_longer : (who : ℕ) (n : Machine) → Goes setting m who n → (other : ℕ) (link : Link) → link_at m.links other ≡ Some link → IsLonger n.links other link
  goes_longer who _ Rests other link at = as_before m.links other link at
  goes_longer who _ (Waits doing is answer) other link at = steps_longer (with_pool m (after_take m.pool who)) who doing false Waiting other link at
  goes_longer who _ (Lends doing connection on_it ltxid is answer there held) other link at =
      steps_longer (with_pool m (after_take m.pool who)) who (record doing { connection = Some connection }) true (Lent connection ltxid) other link at
  goes_longer who _ (Opens doing wanted pool is tries runs) other link at = record { now = link; there = new_others _ m.links other link at; all = λ test here. here }
  goes_longer who _ (Fails doing wanted pool is tries down) other link at = steps_longer (with_pool m pool) who doing true TryFailed other link at
  goes_longer who _ (Takes doing connection on_it reply later is on down) other link at =
      let taken : Link = takes (Took reply.frame on_it.is_open) reply later on_it in
      let a : Machine = takes_one setting m who doing connection on_it reply later in
      unless_longer a who on_it.ended (doing_at a.clients who) on_it.is_open other link
      (then_longer (with_link m.links connection taken) a.links other link (with_longer m.links connection on_it taken on.there (λ test here. here) other link at)
      (λ now there. steps_longer (record m { links = with_link m.links connection taken }) who doing true (Took reply.frame on_it.is_open) other now there))
  goes_longer who _ (Loses doing connection on_it is on none closed) other link at =
      steps_longer m who (record doing { connection = None }) true (Gone (unwrap_or on_it.ended 0)) other link at

  pub happens_longer : (items left : List Served) (kind : Noted) (n : Machine) → Happens setting m items left kind n → (other : ℕ) (link : Link) → link_at m.links other ≡ Some link → IsLonger n.links other link
  happens_longer items left kind _ (Nothing _ none) other link at = as_before m.links other link at
  happens_longer items left kind n (IsStep who did _ moves) other link at = goes_longer who n moves other link at
  happens_longer items left kind _ (Serves number frame front served is ordinary same) other link at =
      with_longer m.links number front.link (handled m.event front served) (front_is m.links number front is).there (handled_all m.event front served) other link at
  happens_longer items left kind _ (Cuts number up down reached cut is) other link at =
      let open_at = open_is m.links number cut is in with_longer m.links number cut (cut_link m.event up down cut) open_at.there (cut_all m.event up down cut open_at.open_now) other link at
  happens_longer items left kind _ (Reaps number reaped orphan) other link at = changed_longer reaped_link m.links number (λ one test here. here) other link at
  happens_longer items left kind _ (Crashes number after failover down a runs last) other link at = falls_longer number after failover items left a last other link at
  happens_longer items left kind _ (OpensUp incarnation down may) other link at = as_before m.links other link at
  happens_longer items left kind _ (StopsOpening made down) other link at = as_before m.links other link at
  happens_longer items left kind _ Ticks other link at = as_before m.links other link at
  happens_longer items left kind _ (RunsOutside ran runs) other link at = as_before m.links other link at
  happens_longer items left kind _ (Asks ltxid result runs) other link at = as_before m.links other link at
  happens_longer items left kind _ (Drains closed) other link at = each_longer m.event (closed_by_drain ∷ []) m.pool.idle m.links other link at
