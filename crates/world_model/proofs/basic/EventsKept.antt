-- No event has two items.
use Rattle.std.proofs.Common.{◌≡◌, refl, sym, subst, Bool, true, ℕ, ◌+◌, ◌≤◌, ◌||◌, List, [], ◌∷◌, None, arith}
use Rattle.std.specs.Prelude.{◌==◌, not, nat_le, nat_lt}
use Rattle.std.specs.List.{list_all}
use Rattle.std.proofs.lemmas.Bool.{and_parts, not_from_false}
use Rattle.outage_schedule.specs.declared.item.Served.{Served}
use Rattle.world_model.specs.meaning.Settings.{Setting}
use Rattle.world_model.specs.meaning.Links.{Link, with_link, sends}
use Rattle.world_model.specs.meaning.Machines.{Machine}
use Rattle.world_model.specs.meaning.Matching.{Noted}
use Rattle.world_model.specs.meaning.Serving.{Front, is_ordinary, is_of_front, is_item_of, handled, after_front}
use Rattle.world_model.specs.meaning.Cutting.{cut_link, reaped_link}
use Rattle.world_model.specs.meaning.Crashing.{has_stored, falls}
use Rattle.world_model.specs.meaning.Outside.{closed_by_drain}
use Rattle.world_model.specs.records.Basic.{item_events}
use Rattle.world_model.specs.Sames.{each_pair}
use Rattle.world_model.proofs.events.Tests.{le_from, ne_to, ne_back}
use Rattle.world_model.proofs.events.AllLists.{weaker_all, append_all}
use Rattle.world_model.proofs.hold.Inserted.{Inserted, pairs_inserted}
use Rattle.world_model.proofs.basic.LinkItems.{items_at, event_of_item}
use Rattle.world_model.proofs.basic.Views.{sends_as, cut_as, view_with, view_changed, view_each, view_goes}
use Rattle.world_model.proofs.basic.SessionViews.{events_in, events_stay, events_new, events_fall}
use Rattle.world_model.proofs.basic.SessionsGrow.{IsServed, handled_is, stopped_is, more_events}
use Rattle.world_model.proofs.events.AllLinks.{IsFront, front_is, IsOpen, open_is}
use Rattle.world_model.proofs.events.Moves.{ServesLast, LastNone, LastStopped, LastServed, Happens, Nothing, IsStep, Serves, Cuts, Reaps, Crashes, OpensUp, StopsOpening, Ticks, RunsOutside, Asks, Drains}

-- the events of the items behind an event: those of before, or its own besides
pub data Comes (event : ℕ) (before after : List ℕ) : Type 0 where
  NoItem : after ≡ before → Comes event before after
  OneItem : (now : ℕ) → now ≡ event → Inserted now before after → Comes event before after

module _ (setting : Setting) (m : Machine) where
  served_comes : (number : ℕ) (front : Front) (served : Served) (next : Link) → IsServed front served next → IsFront m.links number front → is_of_front m front served ≡ true
      → (after : List ℕ) → after ≡ events_in (with_link m.links number next) → Comes m.event (events_in m.links) after
  served_comes number front served next is at of after same =
      OneItem served.event (event_of_item m front served of) (subst (λ (events : List ℕ). Inserted served.event (events_in m.links) events) (sym same) (more_events m number front served next is at))

  last_comes : (number after : ℕ) (failover : Bool) (items left : List Served) (a : Machine) → ServesLast m number after items left a → Comes m.event (events_in m.links) (events_in (falls failover a).links)
  last_comes number after failover items left _ (LastNone same) = NoItem (events_fall m.event m.links)
  last_comes number after failover items left _ (LastStopped front served is stopped same) =
      let next : Link = after_front front served None in
      served_comes number front served next (stopped_is front served) (front_is m.links number front is) (and_parts (is_of_front m front served) _ stopped).0 _ (events_fall m.event (with_link m.links number next))
  last_comes number after failover items left _ (LastServed front served is over same) =
      let ordinary = (and_parts (is_ordinary m front served) (not (has_stored m.server served.item) || nat_le m.server.per_record after) over).0 in
      let next : Link = handled m.event front served in
      served_comes number front served next (handled_is m.event front served) (front_is m.links number front is) (and_parts (is_of_front m front served) (is_item_of front.first.frame served.item) ordinary).0 _
      (events_fall m.event (with_link m.links number next))

  pub happens_comes : (items left : List Served) (happened : Noted) (n : Machine) → Happens setting m items left happened n → Comes m.event (events_in m.links) (events_in n.links)
  happens_comes items left happened _ (Nothing kind quiet) = NoItem refl
  happens_comes items left happened _ (IsStep number did n moves) = NoItem (view_goes events_in events_stay events_new setting m number n moves)
  happens_comes items left happened _ (Serves number frame front served is ordinary same) =
      served_comes number front served (handled m.event front served) (handled_is m.event front served) (front_is m.links number front is)
      (and_parts (is_of_front m front served) (is_item_of front.first.frame served.item) ordinary).0 _ refl
  happens_comes items left happened _ (Cuts number up down reached link is) =
      let at : IsOpen m.links number link = open_is m.links number link is in
      NoItem (view_with events_in events_stay events_new m.links number link (cut_link m.event up down link) at.there (cut_as m.event up down link at.open_now))
  happens_comes items left happened _ (Reaps number reaped orphan) = NoItem (view_changed events_in events_stay events_new reaped_link m.links number (λ link. record { session = refl; served = refl }))
  happens_comes items left happened _ (Crashes number after failover down a up last) = last_comes number after failover items left a last
  happens_comes items left happened _ (OpensUp incarnation down may) = NoItem refl
  happens_comes items left happened _ (StopsOpening made down) = NoItem refl
  happens_comes items left happened _ Ticks = NoItem refl
  happens_comes items left happened _ (RunsOutside ran up) = NoItem refl
  happens_comes items left happened _ (Asks ltxid result up) = NoItem refl
  happens_comes items left happened _ (Drains closed) =
      NoItem (view_each events_in events_stay events_new (sends m.event (closed_by_drain ∷ [])) m.links m.pool.idle (sends_as m.event (closed_by_drain ∷ [])))

abbrev pub other_events : ℕ → ℕ → Bool
other_events a b = not (a == b)

pub past_events : (last : ℕ) (links : List Link) → list_all (items_at last) links ≡ true → list_all (λ one. nat_le one last) (events_in links) ≡ true
past_events last [] all = refl
past_events last (link ∷ links) all =
    let parts = and_parts (items_at last link) (list_all (items_at last) links) all in
    append_all (λ one. nat_le one last) (item_events link) (events_in links) (and_parts (each_pair nat_lt (item_events link)) (list_all (λ one. nat_le one last) (item_events link)) parts.0).1 (past_events last links parts.1)

pub events_differ : (last event : ℕ) (before after : List ℕ) → event ≡ last + 1 → list_all (λ one. nat_le one last) before ≡ true → Comes event before after → each_pair other_events before ≡ true
    → each_pair other_events after ≡ true
events_differ last event before after next past (NoItem same) differ = subst (λ (events : List ℕ). each_pair other_events events ≡ true) (sym same) differ
events_differ last event before after next past (OneItem now same more) differ =
    pairs_inserted other_events now before after more differ
    (weaker_all (λ one. nat_le one last) (other_events now) before (λ one below. let bound : one ≤ last = le_from one last below in not_from_false (now == one) (ne_back now one (omega arith))) past)
    (weaker_all (λ one. nat_le one last) (λ one. other_events one now) before (λ one below. let bound : one ≤ last = le_from one last below in not_from_false (one == now) (ne_to one now (omega arith))) past)
