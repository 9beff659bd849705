-- Sessions stay apart, made and counted, and no event has two items.
use Rattle.std.proofs.Common.{◌≡◌, refl, sym, ap, subst, ◌∙◌, Bool, true, false, ℕ, ◌+◌, ◌<◌, ◌||◌, List, [], ◌∷◌, ◌++◌, Some, None, append-nil, arith}
use Rattle.std.specs.Prelude.{not, nat_le}
use Rattle.std.specs.List.{list_all}
use Rattle.std.proofs.lemmas.Bool.{and_parts}
use Rattle.svc_values.specs.declared.entry.SessionId.{SessionId}
use Rattle.svc_values.specs.declared.frame.Up.{Up}
use Rattle.svc_values.specs.declared.frame.Up.TheVariants as up
use Rattle.outage_schedule.specs.declared.item.Item.{Item}
use Rattle.outage_schedule.specs.declared.item.Item.TheVariants as item
use Rattle.outage_schedule.specs.declared.item.Served.{Served}
use Rattle.world_model.specs.meaning.Settings.{Setting}
use Rattle.world_model.specs.meaning.Links.{Link, with_link, changed, sends}
use Rattle.world_model.specs.meaning.Machines.{Server, Machine}
use Rattle.world_model.specs.meaning.Matching.{Noted, RanOutside}
use Rattle.world_model.specs.meaning.Serving.{Front, is_ordinary, is_of_front, is_item_of, server_after, handled, after_front}
use Rattle.world_model.specs.meaning.Cutting.{cut_link, after_cut, reaped_link}
use Rattle.world_model.specs.meaning.Crashing.{is_crashed_item, has_stored, with_doubt, falls}
use Rattle.world_model.specs.meaning.Outside.{closed_by_drain, ticked, after_asked, drained}
use Rattle.world_model.specs.records.Basic.{is_named, is_connect}
use Rattle.world_model.specs.records.Hold as hold
use Rattle.world_model.proofs.events.Kept.{IsSameServer}
use Rattle.world_model.proofs.events.Tests.{le_from}
use Rattle.world_model.proofs.basic.Census.{Grows, Reopens}
use Rattle.world_model.proofs.basic.LinkNamed.{connect_item}
use Rattle.world_model.proofs.basic.NamesKept.{is_wired, crashed_item}
use Rattle.world_model.proofs.basic.Views.{sends_as, cut_as, view_with, view_changed, view_each, view_goes}
use Rattle.world_model.proofs.basic.SessionViews.{sessions_in, sessions_stay, sessions_new, sessions_fall}
use Rattle.world_model.proofs.basic.SessionsGrow.{handled_is, stopped_is, census, made_by, stands_by, outside_by, served_grows, other_counts, doubt_counts, asked_counts, served_incarnation, doubt_incarnation, asked_incarnation}
use Rattle.world_model.proofs.basic.Servers.{goes_same}
use Rattle.world_model.proofs.events.AllLinks.{at_link, IsFront, front_is, IsOpen, open_is}
use Rattle.world_model.proofs.events.Moves.{makes_outside, ServesLast, LastNone, LastStopped, LastServed, Happens, Nothing, IsStep, Serves, Cuts, Reaps, Crashes, OpensUp, StopsOpening, Ticks, RunsOutside, Asks, Drains}

none_made : (m : Machine) (happened : Noted) → makes_outside happened ≡ false → made_by m.server happened ≡ []
none_made m (RanOutside (Some ran)) quiet = absurd (let never : ⊥ = cc in never)
none_made m happened quiet = refl

-- a stopped item makes no session
crashed_counts : (m : Machine) (front : Front) (served : Served) → is_crashed_item front.first.frame served.item ≡ true → (server_after m.server served.item).sessions ≡ m.server.sessions
crashed_counts m front served crashed = other_counts m.server served.item (by front.first.frame served.item crashed)
  where
    by : (frame : Up) (one : Item) → is_crashed_item frame one ≡ true → is_connect one ≡ false
    by (up.Call replay kept call) (item.CrashedCall marked served) e = refl
    by (up.Outcome x) (item.CrashedOutcome asked) e = refl
    by up.Connect one e = absurd (let never : ⊥ = cc in never)
    by (up.Begin settings) one e = absurd (let never : ⊥ = cc in never)
    by up.End one e = absurd (let never : ⊥ = cc in never)
    by up.Close one e = absurd (let never : ⊥ = cc in never)
    by (up.Call replay kept call) one e = absurd (let never : ⊥ = cc in never)
    by (up.Outcome x) one e = absurd (let never : ⊥ = cc in never)

module _ (setting : Setting) (m : Machine) (outside later : List SessionId) (wired : list_all is_wired m.links ≡ true) (named : list_all is_named m.links ≡ true) where
  same_outside : later ≡ outside ++ [] → later ≡ outside
  same_outside is = is ∙ append-nil outside

  last_grows : (number after : ℕ) (failover : Bool) (items left : List Served) (a : Machine) → ServesLast m number after items left a → later ≡ outside → Grows (census m outside) (census (falls failover a) later)
  last_grows number after failover items left _ (LastNone same) none = stands_by (census m outside) (census (falls failover m) later) refl refl (sessions_fall m.event m.links) none
  last_grows number after failover items left _ (LastStopped front served is stopped same) none =
      let at : IsFront m.links number front = front_is m.links number front is in
      let parts = and_parts (is_of_front m front served) _ stopped in
      let crashed = (and_parts (is_crashed_item front.first.frame served.item) _ parts.1).0 in
      let next : Link = after_front front served None in
      let n : Machine = falls failover (record m { links = with_link m.links number next; server = with_doubt m.server served.item }) in
      served_grows m n outside later number front served next (hold.is_connect front.first.frame) refl (stopped_is front served) (crashed_item front.first.frame served.item crashed) at parts.0
      (at_link is_wired m.links number front.link wired at.there) (at_link is_named m.links number front.link named at.there) none (sessions_fall m.event (with_link m.links number next))
      (doubt_incarnation m.server served.item) (doubt_counts m.server served.item ∙ sym (crashed_counts m front served crashed))
  last_grows number after failover items left _ (LastServed front served is over same) none =
      let at : IsFront m.links number front = front_is m.links number front is in
      let ordinary = (and_parts (is_ordinary m front served) (not (has_stored m.server served.item) || nat_le m.server.per_record after) over).0 in
      let parts = and_parts (is_of_front m front served) (is_item_of front.first.frame served.item) ordinary in
      let next : Link = handled m.event front served in
      let n : Machine = falls failover (record m { links = with_link m.links number next; server = server_after m.server served.item }) in
      served_grows m n outside later number front served next (hold.is_connect front.first.frame) refl (handled_is m.event front served) (connect_item front.first.frame served.item parts.1) at parts.0
      (at_link is_wired m.links number front.link wired at.there) (at_link is_named m.links number front.link named at.there) none (sessions_fall m.event (with_link m.links number next))
      (served_incarnation m.server served.item) refl

  -- how they grow
  pub happens_grows : (items left : List Served) (happened : Noted) (n : Machine) → Happens setting m items left happened n → later ≡ outside ++ made_by m.server happened → Grows (census m outside) (census n later)
  happens_grows items left happened _ (Nothing kind quiet) out = stands_by (census m outside) (census m later) refl refl refl (same_outside (out ∙ ap (λ more. outside ++ more) (none_made m happened quiet)))
  happens_grows items left happened _ (IsStep number did n moves) out =
      let same : IsSameServer m n = goes_same setting m number n moves in
      stands_by (census m outside) (census n later) (ap (λ (s : Server). s.incarnation) same.server) (ap (λ (s : Server). s.sessions) same.server)
      (view_goes sessions_in sessions_stay sessions_new setting m number n moves) (same_outside out)
  happens_grows items left happened _ (Serves number frame front served is ordinary same) out =
      let at : IsFront m.links number front = front_is m.links number front is in
      let parts = and_parts (is_of_front m front served) (is_item_of front.first.frame served.item) ordinary in
      let next : Link = handled m.event front served in
      let n : Machine = record m { links = with_link m.links number next; server = server_after m.server served.item } in
      served_grows m n outside later number front served next (hold.is_connect front.first.frame) refl (handled_is m.event front served) (connect_item front.first.frame served.item parts.1) at parts.0
      (at_link is_wired m.links number front.link wired at.there) (at_link is_named m.links number front.link named at.there) (same_outside out) refl (served_incarnation m.server served.item) refl
  happens_grows items left happened _ (Cuts number up down reached link is) out =
      let at : IsOpen m.links number link = open_is m.links number link is in
      stands_by (census m outside) (census (after_cut m number up down link) later) refl refl
      (view_with sessions_in sessions_stay sessions_new m.links number link (cut_link m.event up down link) at.there (cut_as m.event up down link at.open_now)) (same_outside out)
  happens_grows items left happened _ (Reaps number reaped orphan) out =
      stands_by (census m outside) (census (record m { links = changed reaped_link m.links number }) later) refl refl (view_changed sessions_in sessions_stay sessions_new reaped_link m.links number (λ link. record { session = refl; served = refl })) (same_outside out)
  happens_grows items left happened _ (Crashes number after failover down a up last) out = last_grows number after failover items left a last (same_outside out)
  happens_grows items left happened _ (OpensUp incarnation down may) out =
      let bound = le_from (m.server.incarnation + 1) incarnation (and_parts (nat_le (m.server.incarnation + 1) incarnation) (nat_le incarnation (m.server.incarnation + 1 + m.server.stopped)) may).0 in
      let below : m.server.incarnation < incarnation = omega arith in
      subst (λ (all : List SessionId). Grows (census m outside) (record (census m outside) { incarnation = incarnation; count = 0; outside = all })) (sym (same_outside out)) (Reopens incarnation below)
  happens_grows items left happened _ (StopsOpening made down) out = stands_by (census m outside) (census (record m { server = record m.server { stopped = m.server.stopped + 1 } }) later) refl refl refl (same_outside out)
  happens_grows items left happened _ Ticks out = stands_by (census m outside) (census (ticked m) later) refl refl refl (same_outside out)
  happens_grows items left happened _ (RunsOutside ran up) out = outside_by (census m outside) (census (record m { server = record m.server { sessions = m.server.sessions + 1 } }) later) refl refl refl out
  happens_grows items left happened _ (Asks ltxid result up) out = stands_by (census m outside) (census (record m { server = after_asked m.server ltxid result }) later) (asked_incarnation m.server ltxid result) (asked_counts m.server ltxid result) refl (same_outside out)
  happens_grows items left happened _ (Drains closed) out =
      stands_by (census m outside) (census (drained m) later) refl refl (view_each sessions_in sessions_stay sessions_new (sends m.event (closed_by_drain ∷ [])) m.links m.pool.idle (sends_as m.event (closed_by_drain ∷ []))) (same_outside out)
