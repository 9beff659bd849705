-- A test over all connections is kept in an event if it is kept by each thing that may happen to
-- one of them.
use Rattle.std.proofs.Common.{◌≡◌, refl, sym, ap, subst, Bool, true, false, ℕ, suc, zero, ◌||◌, List, [], ◌∷◌, map, fold, Option, Some, None, if◌then◌else◌}
use Rattle.std.specs.Prelude.{option_and_then, nat_le, not, slice_set, unwrap_or}
use Rattle.std.specs.List.{list_all}
use Rattle.std.specs.Option.{option_map_or}
use Rattle.std.proofs.lemmas.Bool.{and_parts}
use Rattle.outage_schedule.specs.declared.item.Served.{Served}
use Rattle.client_model.specs.declared.input.Input.{Input}
use Rattle.client_model.specs.declared.input.Input.TheVariants.{Waiting, Lent, Opened, TryFailed, Took, Gone}
use Rattle.client_model.specs.declared.act.Act.{Act}
use Rattle.pool_core.specs.meaning.Slots.{after_take}
use Rattle.world_model.specs.meaning.Settings.{Setting}
use Rattle.world_model.specs.meaning.Frames.{Sent, Reply}
use Rattle.world_model.specs.meaning.Links.{Link, new_link, link_at, with_link, changed, sends, takes, is_orphan}
use Rattle.world_model.specs.meaning.Clients.{Doing, doing_at, heard}
use Rattle.world_model.specs.meaning.Acting.{acts, steps, act_at, sent_by, owner_at, call_in, frames_of, connection_of}
use Rattle.world_model.specs.meaning.Machines.{Machine}
use Rattle.world_model.specs.meaning.Noting.{only_if}
use Rattle.world_model.specs.meaning.Matching.{Noted}
use Rattle.world_model.specs.meaning.Going.{lost_at_once}
use Rattle.world_model.specs.meaning.Serving.{Front, first_of, front_of, front_at, is_ordinary, handled, after_front}
use Rattle.world_model.specs.meaning.Cutting.{open_at, cut_link, reaped_link}
use Rattle.world_model.specs.meaning.Crashing.{is_stopped, has_stored, fallen_link, falls}
use Rattle.world_model.specs.meaning.Outside.{closed_by_drain, drained}
use Rattle.world_model.proofs.events.Kept.{only_is}
use Rattle.world_model.proofs.events.AllLists.{set_all, at_all, map_all, append_all, one_all}
use Rattle.world_model.proofs.events.Moves.{only_met, with_pool, with_new, next_number, takes_one, Goes, Rests, Waits, Lends, Opens, Fails, Takes, Loses, ServesLast, LastNone, LastStopped, LastServed, Happens, Nothing, IsStep, Serves, Cuts, Reaps, Crashes, OpensUp, StopsOpening, Ticks, RunsOutside, Asks, Drains}

-- ONE CONNECTION ----------------------------------------------------------------------------------

pub at_link : (test : Link → Bool) (links : List Link) (number : ℕ) (link : Link) → list_all test links ≡ true → link_at links number ≡ Some link → test link ≡ true
at_link test links zero link all e = absurd (let none : ⊥ = cc in none)
at_link test links (suc index) link all e = at_all test links index link all e

pub with_link_all : (test : Link → Bool) (links : List Link) (number : ℕ) (link : Link) → list_all test links ≡ true → test link ≡ true → list_all test (with_link links number link) ≡ true
with_link_all test links zero link all here = all
with_link_all test links (suc index) link all here = set_all test links index link all here

found_all : (test : Link → Bool) (change : Link → Link) (links : List Link) (number : ℕ) (found : Option Link) → list_all test links ≡ true
    → ((link : Link) → found ≡ Some link → test (change link) ≡ true) → list_all test (option_map_or (λ link. with_link links number (change link)) found links) ≡ true
found_all test change links number None all keeps = all
found_all test change links number (Some link) all keeps = with_link_all test links number (change link) all (keeps link refl)

pub changed_all : (test : Link → Bool) (change : Link → Link) (links : List Link) (number : ℕ) → list_all test links ≡ true
    → ((link : Link) → link_at links number ≡ Some link → test link ≡ true → test (change link) ≡ true) → list_all test (changed change links number) ≡ true
changed_all test change links number all keeps =
    found_all test change links number (link_at links number) all (λ link is. keeps link is (at_link test links number link all is))

pub each_all : (test : Link → Bool) (change : Link → Link) (links : List Link) (numbers : List ℕ) → list_all test links ≡ true
    → ((link : Link) → test link ≡ true → test (change link) ≡ true) → list_all test (fold (changed change) links numbers) ≡ true
each_all test change links [] all keeps = all
each_all test change links (number ∷ numbers) all keeps =
    each_all test change (changed change links number) numbers (changed_all test change links number all (λ link is here. keeps link here)) keeps

-- a frame may be served: its session lives, and it is the first that may be served
pub record IsFront (links : List Link) (number : ℕ) (front : Front) : Type 0 where
  pub there : link_at links number ≡ Some front.link
  pub living : front.link.is_living ≡ true
  pub up : front.link.up ≡ front.first ∷ front.later

first_is : (links : List Link) (number : ℕ) (link : Link) (ups : List Sent) (front : Front) → link_at links number ≡ Some link → link.is_living ≡ true → link.up ≡ ups → first_of link ups ≡ Some front → IsFront links number front
first_is links number link [] front there living is e = absurd (let none : ⊥ = cc in none)
first_is links number link (first ∷ later) front there living is e =
    let same : record { link = link; first = first; later = later } ≡ front = cc in
    subst (IsFront links number) same (record { there = there; living = living; up = is })

of_living : (links : List Link) (number : ℕ) (link : Link) (is_living : Bool) (front : Front) → link_at links number ≡ Some link → link.is_living ≡ is_living → (if is_living then first_of link link.up else None) ≡ Some front → IsFront links number front
of_living links number link true front there living e = first_is links number link link.up front there living refl e
of_living links number link false front there living e = absurd (let none : ⊥ = cc in none)

found_front : (links : List Link) (number : ℕ) (found : Option Link) (front : Front) → link_at links number ≡ found → option_and_then front_of found ≡ Some front → IsFront links number front
found_front links number None front there e = absurd (let none : ⊥ = cc in none)
found_front links number (Some link) front there e = of_living links number link link.is_living front there refl e

pub front_is : (links : List Link) (number : ℕ) (front : Front) → front_at links number ≡ Some front → IsFront links number front
front_is links number front e = found_front links number (link_at links number) front refl e

-- a connection that is open
pub record IsOpen (links : List Link) (number : ℕ) (link : Link) : Type 0 where
  pub there : link_at links number ≡ Some link
  pub open_now : link.is_open ≡ true

opened_found : (links : List Link) (number : ℕ) (found : Option Link) (link : Link) → link_at links number ≡ found → option_and_then (λ (one : Link). only_if one.is_open one) found ≡ Some link → IsOpen links number link
opened_found links number None link there e = absurd (let none : ⊥ = cc in none)
opened_found links number (Some one) link there e =
    subst (IsOpen links number) (only_is one.is_open one link e) (record { there = there; open_now = only_met one.is_open one link e })

pub open_is : (links : List Link) (number : ℕ) (link : Link) → open_at links number ≡ Some link → IsOpen links number link
open_is links number link e = opened_found links number (link_at links number) link refl e

-- EVENTS ------------------------------------------------------------------------------------------

-- What may happen to a connection but by its client keeps the test. `before` holds of all
-- connections when the event begins.
pub record KeepsServed (m : Machine) (before test : Link → Bool) : Type 0 where
  pub at_serves : (number : ℕ) (front : Front) (served : Served) → IsFront m.links number front → is_ordinary m front served ≡ true → before front.link ≡ true → test front.link ≡ true
      → test (handled m.event front served) ≡ true
  pub at_stops : (number after : ℕ) (front : Front) (served : Served) → IsFront m.links number front → is_stopped m after front served ≡ true → before front.link ≡ true → test front.link ≡ true
      → test (fallen_link m.event (after_front front served None)) ≡ true
  pub at_cuts : (up down : ℕ) (link : Link) → link.is_open ≡ true → test link ≡ true → test (cut_link m.event up down link) ≡ true
  pub at_reaps : (link : Link) → is_orphan link ≡ true → test link ≡ true → test (reaped_link link) ≡ true
  pub at_falls : (link : Link) → test link ≡ true → test (fallen_link m.event link) ≡ true

-- All that may happen to it keeps the test, whatever frames its client sends.
pub record Keeps (m : Machine) (before test : Link → Bool) : Type 0 where
  pub at_new : m.server.is_up ≡ true → test new_link ≡ true
  pub at_sends : (frames : List Sent) (link : Link) → test link ≡ true → test (sends m.event frames link) ≡ true
  pub at_takes : (reply : Reply) (left : List Reply) (link : Link) → before link ≡ true → test link ≡ true → link.down ≡ reply ∷ left
      → test (takes (Took reply.frame link.is_open) reply left link) ≡ true
  pub at_serves : (number : ℕ) (front : Front) (served : Served) → IsFront m.links number front → is_ordinary m front served ≡ true → before front.link ≡ true → test front.link ≡ true
      → test (handled m.event front served) ≡ true
  pub at_stops : (number after : ℕ) (front : Front) (served : Served) → IsFront m.links number front → is_stopped m after front served ≡ true → before front.link ≡ true → test front.link ≡ true
      → test (fallen_link m.event (after_front front served None)) ≡ true
  pub at_cuts : (up down : ℕ) (link : Link) → link.is_open ≡ true → test link ≡ true → test (cut_link m.event up down link) ≡ true
  pub at_reaps : (link : Link) → is_orphan link ≡ true → test link ≡ true → test (reaped_link link) ≡ true
  pub at_falls : (link : Link) → test link ≡ true → test (fallen_link m.event link) ≡ true

pub keeps_served : (m : Machine) (before test : Link → Bool) → Keeps m before test → KeepsServed m before test
keeps_served m before test keeps = record { at_serves = keeps.at_serves; at_stops = keeps.at_stops; at_cuts = keeps.at_cuts; at_reaps = keeps.at_reaps; at_falls = keeps.at_falls }

orphan_met : (found : Option Link) (link : Link) → option_map_or is_orphan found false ≡ true → found ≡ Some link → is_orphan link ≡ true
orphan_met None link met e = absurd (let none : ⊥ = cc in none)
orphan_met (Some one) link met e = let same : one ≡ link = cc in subst (λ (l : Link). is_orphan l ≡ true) same met

-- all others fall, and this one is served first
pub map_with_link : {A : Type 0} (change : Link → A) (links : List Link) (index : ℕ) (link : Link) → map change (slice_set links index link) ≡ slice_set (map change links) index (change link)
map_with_link change [] index link = refl
map_with_link change (first ∷ links) zero link = refl
map_with_link change (first ∷ links) (suc index) link = ap (λ rest. change first ∷ rest) (map_with_link change links index link)

module _ (setting : Setting) (m : Machine) (before test : Link → Bool) (keeps : KeepsServed m before test) where
  served_keep : (number : ℕ) (front : Front) (served : Served) → front_at m.links number ≡ Some front → is_ordinary m front served ≡ true → list_all before m.links ≡ true → list_all test m.links ≡ true
      → list_all test (with_link m.links number (handled m.event front served)) ≡ true
  served_keep number front served is ordinary old all =
      let at : IsFront m.links number front = front_is m.links number front is in
      with_link_all test m.links number (handled m.event front served) all
      (keeps.at_serves number front served at ordinary (at_link before m.links number front.link old at.there) (at_link test m.links number front.link all at.there))

  fall : (links : List Link) → list_all test links ≡ true → list_all test (map (fallen_link m.event) links) ≡ true
  fall links all = map_all test test (fallen_link m.event) links keeps.at_falls all

  stopped_keep : (number after : ℕ) (front : Front) (served : Served) → IsFront m.links number front → is_stopped m after front served ≡ true → list_all before m.links ≡ true → list_all test m.links ≡ true
      → list_all test (map (fallen_link m.event) (with_link m.links number (after_front front served None))) ≡ true
  stopped_keep zero after front served at stopped old all = fall m.links all
  stopped_keep (suc index) after front served at stopped old all =
      subst (λ (links : List Link). list_all test links ≡ true) (sym (map_with_link (fallen_link m.event) m.links index (after_front front served None)))
      (set_all test (map (fallen_link m.event) m.links) index (fallen_link m.event (after_front front served None)) (fall m.links all)
      (keeps.at_stops (suc index) after front served at stopped (at_link before m.links (suc index) front.link old at.there) (at_link test m.links (suc index) front.link all at.there)))

  falls_keep : (number after : ℕ) (failover : Bool) (items left : List Served) (a : Machine) → ServesLast m number after items left a → list_all before m.links ≡ true → list_all test m.links ≡ true
      → list_all test (falls failover a).links ≡ true
  falls_keep number after failover items left _ (LastNone same) old all = fall m.links all
  falls_keep number after failover items left _ (LastStopped front served is stopped same) old all = stopped_keep number after front served (front_is m.links number front is) stopped old all
  falls_keep number after failover items left _ (LastServed front served is over same) old all =
      let ordinary : is_ordinary m front served ≡ true = (and_parts (is_ordinary m front served) (not (has_stored m.server served.item) || nat_le m.server.per_record after) over).0 in
      fall (with_link m.links number (handled m.event front served)) (served_keep number front served is ordinary old all)

  -- the test holds of all connections after the event, if it held of all when the event began, and
  -- steps of clients and drains keep it
  pub happens_keep : (items left : List Served) (happened : Noted) (n : Machine) → Happens setting m items left happened n → ((number : ℕ) (a : Machine) → Goes setting m number a → list_all test a.links ≡ true)
      → list_all test (drained m).links ≡ true → list_all before m.links ≡ true → list_all test m.links ≡ true → list_all test n.links ≡ true
  happens_keep items left happened _ (Nothing kind quiet) goes drains old all = all
  happens_keep items left happened _ (IsStep number did n moves) goes drains old all = goes number n moves
  happens_keep items left happened _ (Serves number frame front served is ordinary same) goes drains old all = served_keep number front served is ordinary old all
  happens_keep items left happened _ (Cuts number up down reached link is) goes drains old all =
      let at : IsOpen m.links number link = open_is m.links number link is in
      with_link_all test m.links number (cut_link m.event up down link) all (keeps.at_cuts up down link at.open_now (at_link test m.links number link all at.there))
  happens_keep items left happened _ (Reaps number reaped orphan) goes drains old all =
      changed_all test reaped_link m.links number all (λ link is here. keeps.at_reaps link (orphan_met (link_at m.links number) link orphan is) here)
  happens_keep items left happened _ (Crashes number after failover down a up last) goes drains old all = falls_keep number after failover items left a last old all
  happens_keep items left happened _ (OpensUp incarnation down may) goes drains old all = all
  happens_keep items left happened _ (StopsOpening made down) goes drains old all = all
  happens_keep items left happened _ Ticks goes drains old all = all
  happens_keep items left happened _ (RunsOutside ran up) goes drains old all = all
  happens_keep items left happened _ (Asks ltxid result up) goes drains old all = all
  happens_keep items left happened _ (Drains closed) goes drains old all = drains

module _ (setting : Setting) (m : Machine) (before test : Link → Bool) (keeps : Keeps m before test) where
  acts_keep : (a : Machine) (number : ℕ) (doing : Doing) (holds_slot : Bool) (act : Act) → a.event ≡ m.event → list_all test a.links ≡ true → list_all test (acts setting a number doing holds_slot act).links ≡ true
  acts_keep a number doing holds_slot act same all =
      let frames : List Sent = map (sent_by (owner_at a number) (call_in doing.talk.phase)) (frames_of a.pool (connection_of doing) act) in
      changed_all test (sends a.event frames) a.links (connection_of doing) all
      (λ link is here. subst (λ (event : ℕ). test (sends event frames link) ≡ true) (sym same) (keeps.at_sends frames link here))

  steps_keep : (a : Machine) (number : ℕ) (doing : Doing) (holds_slot : Bool) (input : Input) → a.event ≡ m.event → list_all test a.links ≡ true
      → list_all test (steps setting a number doing holds_slot input).links ≡ true
  steps_keep a number doing holds_slot input same all = acts_keep a number (heard setting.terms a.event a.tick doing input) holds_slot (act_at setting a doing input) same all

  lost_keeps : (a : Machine) (number : ℕ) (ended : Option ℕ) (doing : Option Doing) → a.event ≡ m.event → list_all test a.links ≡ true → list_all test (lost_at_once setting a number ended doing).links ≡ true
  lost_keeps a number ended None same all = all
  lost_keeps a number ended (Some doing) same all = steps_keep a number (record doing { connection = None }) true (Gone (unwrap_or ended 0)) same all

  unless_keeps : (a : Machine) (number : ℕ) (ended : Option ℕ) (doing : Option Doing) (is_open : Bool) → a.event ≡ m.event → list_all test a.links ≡ true
      → list_all test (if is_open then a else lost_at_once setting a number ended doing).links ≡ true
  unless_keeps a number ended doing true same all = all
  unless_keeps a number ended doing false same all = lost_keeps a number ended doing same all

  goes_keep : (number : ℕ) (n : Machine) → Goes setting m number n → list_all before m.links ≡ true → list_all test m.links ≡ true → list_all test n.links ≡ true
  goes_keep number _ Rests old all = all
  goes_keep number _ (Waits doing is_doing answer) old all = steps_keep (with_pool m (after_take m.pool number)) number doing false Waiting refl all
  goes_keep number _ (Lends doing connection link ltxid is_doing answer there held) old all =
      steps_keep (with_pool m (after_take m.pool number)) number (record doing { connection = Some connection }) true (Lent connection ltxid) refl all
  goes_keep number _ (Opens doing wanted pool is_doing tries up) old all =
      steps_keep (with_new m pool) number (record doing { connection = Some (next_number m) }) true (Opened (next_number m)) refl
      (append_all test m.links (new_link ∷ []) all (one_all test new_link (keeps.at_new up)))
  goes_keep number _ (Fails doing wanted pool is_doing tries down) old all = steps_keep (with_pool m pool) number doing true TryFailed refl all
  goes_keep number _ (Takes doing connection link reply left is_doing on down) old all =
      let input : Input = Took reply.frame link.is_open in
      let taken : Link = takes input reply left link in
      let a : Machine = takes_one setting m number doing connection link reply left in
      unless_keeps a number link.ended (doing_at a.clients number) link.is_open refl
      (steps_keep (record m { links = with_link m.links connection taken }) number doing true input refl
      (with_link_all test m.links connection taken all (keeps.at_takes reply left link (at_link before m.links connection link old on.there) (at_link test m.links connection link all on.there) down)))
  goes_keep number _ (Loses doing connection link is_doing on none closed) old all = steps_keep m number (record doing { connection = None }) true (Gone (unwrap_or link.ended 0)) refl all

  -- the test holds of all connections after the event, if it held of all when the event began
  pub links_keep : (items left : List Served) (happened : Noted) (n : Machine) → Happens setting m items left happened n → list_all before m.links ≡ true → list_all test m.links ≡ true → list_all test n.links ≡ true
  links_keep items left happened n happens old all =
      happens_keep setting m before test (keeps_served m before test keeps) items left happened n happens (λ number a moves. goes_keep number a moves old all)
      (each_all test (sends m.event (closed_by_drain ∷ [])) m.links m.pool.idle all (λ link here. keeps.at_sends (closed_by_drain ∷ []) link here)) old all
