-- On the connection of each request is out what it waits for, behind each event.
use Rattle.std.proofs.Common.{◌≡◌, ◌≢◌, refl, sym, ap, subst, ◌∙◌, Bool, true, false, ℕ, length, List, [], ◌∷◌, Some}
use Rattle.std.specs.Prelude.{◌==◌}
use Rattle.std.specs.List.{list_all}
use Rattle.std.specs.Option.{option_map_or}
use Rattle.client_model.specs.declared.input.Wants.{Wants}
use Rattle.client_model.specs.declared.input.Wants.TheVariants as wants
use Rattle.svc_values.specs.declared.entry.Ltxid.{Ltxid}
use Rattle.client_model.specs.declared.input.Input.TheVariants.{Took}
use Rattle.client_model.specs.meaning.States.{Repeating}
use Rattle.client_model.specs.meaning.Terms.{Replaying}
use Rattle.client_model.specs.meaning.Talk.{on_waiting, waits_from, on_try_failed}
use Rattle.world_model.specs.meaning.Frames.{Reply}
use Rattle.pool_core.specs.meaning.Slots.{Slots, after_take}
use Rattle.outage_schedule.specs.declared.item.Served.{Served}
use Rattle.world_model.specs.meaning.Links.{Link, link_at, sends, told_by}
use Rattle.world_model.specs.meaning.Clients.{Doing, Client, client_at}
use Rattle.world_model.specs.meaning.Acting.{owner_at, connection_of}
use Rattle.world_model.specs.meaning.Machines.{Machine}
use Rattle.world_model.specs.meaning.Matching.{Noted}
use Rattle.world_model.specs.meaning.Serving.{handled}
use Rattle.world_model.specs.meaning.Cutting.{cut_link, reaped_link}
use Rattle.world_model.specs.meaning.Crashing.{falls}
use Rattle.world_model.specs.meaning.Outside.{closed_by_drain}
use Rattle.world_model.specs.Traced.{Traced, courses_of}
use Rattle.world_model.specs.records.Hold.{is_idle, are_had, is_held, idle_of, is_by_held, same_held}
use Rattle.world_model.proofs.events.Tests.{eq_from, eq_to}
use Rattle.world_model.proofs.events.AllClients.{client_set, client_others}
use Rattle.world_model.proofs.events.AllLinks.{front_is, IsOpen, open_is}
use Rattle.world_model.proofs.basic.LinkEnds.{ends_at}
use Rattle.world_model.proofs.wire.LinkOrder.{is_orderly}
use Rattle.world_model.proofs.events.Moves.{Tries, FromQueue, Again, Goes, Rests, Waits, Lends, Opens, Fails, Takes, Loses, takes_one, ServesLast, LastNone, LastStopped, LastServed, Happens, Nothing, IsStep, Serves, Cuts, Reaps, Crashes, OpensUp, StopsOpening, Ticks, RunsOutside, Asks, Drains}
use Rattle.world_model.proofs.events.Happened.{at_event}
use Rattle.world_model.proofs.wire.SentLinks.{spoken_by}
use Rattle.world_model.proofs.hold.Held.{doing_course}
use Rattle.world_model.proofs.events.Lookups.{IsThere, as_before, with_there, changed_there, handled_said, cut_said, falls_there, each_others}
use Rattle.world_model.proofs.events.Courses.{clients_apart, held_busy}
use Rattle.world_model.proofs.hold.HeldKept.{holds_rightly, still_holds}
use Rattle.world_model.proofs.number.GoesBy.{goes_rightly, by_still}
use Rattle.world_model.proofs.script.Strangers.{frame_now}
use Rattle.world_model.proofs.hold.HeldEvents.{Stands, awaits_same, Stepped, waits_step, fails_step, lends_step, opens_step, loses_step, takes_step}

-- ONE CLIENT --------------------------------------------------------------------------------------

-- a client took a step, or none did
data IsStepOf (m : Machine) : Machine → Type 0 where
  NoStep : IsStepOf m m
  OneStep : (who : ℕ) (client : Client) (n : Machine) → client_at m.clients who ≡ Some client → Stepped m who client n → IsStepOf m n

pub not_frame : (m : Machine) (number : ℕ) (wanted : Wants) (pool : Slots) → Tries m number wanted pool → wanted ≡ wants.Frame → ⊥
not_frame m number _ _ (FromQueue answer) is = let never : ⊥ = cc in never
not_frame m number _ _ Again is = let never : ⊥ = cc in never

module _ (t : Traced) (had : are_had t ≡ true) (held : list_all (is_held t) (courses_of t) ≡ true) (idle : list_all (λ number. option_map_or is_idle (link_at t.machine.links number) false) t.machine.pool.idle ≡ true)
    (orderly : list_all is_orderly t.machine.links ≡ true) (ended : list_all (ends_at t.machine.event) t.machine.links ≡ true)
    (goes : list_all (is_by_held t) (courses_of t) ≡ true)
    (again : (number connection : ℕ) (client : Client) (doing : Doing) (link : Link) (reply : Reply) (left : List Reply) → client_at t.machine.clients number ≡ Some client → client.now ≡ Some doing → doing.connection ≡ Some connection
    → link_at t.machine.links connection ≡ Some link → link.down ≡ reply ∷ left → (state : Repeating) → doing.talk.phase ≡ Replaying state → (x : Ltxid) → told_by (Took reply.frame true) ≡ Some x → same_held (Some state.ltxid) (Some x) ≡ true) where
  abbrev now : Machine
  now = at_event t.machine

  -- of each request before the event
  held_before : (number : ℕ) (client : Client) (doing : Doing) → client_at t.machine.clients number ≡ Some client → client.now ≡ Some doing → holds_rightly t.machine.links (record { client = number; place = length client.past }) doing ≡ true
  held_before number client doing here is = doing_course (is_held t) t number client doing held here is

  goes_before : (number : ℕ) (client : Client) (doing : Doing) → client_at t.machine.clients number ≡ Some client → client.now ≡ Some doing → goes_rightly t.machine.links doing ≡ true
  goes_before number client doing here is = doing_course (is_by_held t) t number client doing goes here is

  goes_step : (number : ℕ) (n : Machine) → Goes t.setting now number n → IsStepOf now n
  goes_step number _ Rests = NoStep
  goes_step number _ (Waits doing is answer) = OneStep number is.client _ is.here (waits_step t.setting now held_before idle orderly t.machine.event ended number doing _ is refl
      (spoken_by (owner_at now number) (after_take t.machine.pool number) (connection_of doing) (on_waiting t.setting.terms doing.talk (waits_from doing.talk.phase t.machine.tick) t.machine.tick)) refl)
  goes_step number _ (Lends doing connection link ltxid is answer there holds) =
      OneStep number is.client _ is.here (lends_step t.setting now held_before idle orderly t.machine.event ended number connection doing link ltxid (after_take t.machine.pool number) _ is answer there holds refl refl)
  goes_step number _ (Opens doing wanted pool is tries runs) = OneStep number is.client _ is.here (opens_step t.setting now held_before idle orderly t.machine.event ended number doing wanted _ is refl refl)
  goes_step number _ (Fails doing wanted pool is tries down) =
      OneStep number is.client _ is.here (fails_step t.setting now held_before idle orderly t.machine.event ended number doing wanted _ is (not_frame now number wanted pool tries) refl
      (spoken_by (owner_at now number) pool (connection_of doing) (on_try_failed t.setting.terms doing.talk t.machine.tick)) refl)
  goes_step number _ (Takes doing connection link reply left is on down) =
      let a : Machine = takes_one t.setting now number doing connection link reply left in
      OneStep number is.client _ is.here
      (takes_step t.setting now held_before idle orderly t.machine.event ended number connection doing link reply left is on.has on.there down
      (goes_before number is.client doing is.here (frame_now t.setting now number doing is)) (again number connection is.client doing link reply left is.here (frame_now t.setting now number doing is) on.has on.there down)
      a link.ended link.is_open refl refl refl refl refl)
  goes_step number _ (Loses doing connection link is on none closed) = OneStep number is.client _ is.here (loses_step t.setting now held_before idle orderly t.machine.event ended number doing _ _ is refl refl)

  -- the request of a client, behind the step of one
  stepped_holds : (who : ℕ) (stepping : Client) (n : Machine) → client_at t.machine.clients who ≡ Some stepping → Stepped now who stepping n → (number : ℕ) (client : Client) (doing : Doing) → client_at n.clients number ≡ Some client
      → client.now ≡ Some doing → (same : Bool) → (number == who) ≡ same → Stands n.links (record { client = number; place = length client.past }) doing
  stepped_holds who stepping n there step number client doing here is true same =
      let who_is : number ≡ who = eq_from number who same in
      let mine : client_at n.clients who ≡ Some step.next = ap (λ (all : List Client). client_at all who) step.clients ∙ client_set t.machine.clients who stepping step.next there in
      let found : Some client ≡ Some step.next = sym here ∙ (ap (λ (k : ℕ). client_at n.clients k) who_is ∙ mine) in
      let client_is : step.next ≡ client = cc in
      subst (λ (k : ℕ). Stands n.links (record { client = k; place = length client.past }) doing) (sym who_is)
      (subst (λ (c : Client). Stands n.links (record { client = who; place = length c.past }) doing) client_is (step.own doing (ap (λ (c : Client). c.now) client_is ∙ is)))
  stepped_holds who stepping n there step number client doing here is false same =
      let differ : number ≢ who = λ e. let yes_is : (number == who) ≡ true = eq_to number who e in let never : ⊥ = cc in never in
      let before : client_at t.machine.clients number ≡ Some client = sym (ap (λ (all : List Client). client_at all number) step.clients ∙ client_others t.machine.clients who number step.next differ) ∙ here in
      let same_link : (connection : ℕ) (link : Link) → doing.connection ≡ Some connection → link_at t.machine.links connection ≡ Some link → link_at n.links connection ≡ Some link
      = λ connection link has at. step.others connection link at (held_busy t connection link number client doing had at before is has)
      (λ one mine its. clients_apart t connection link number who client stepping doing one had at differ before there is mine has its) in (
        still_holds t.machine.links n.links (record { client = number; place = length client.past }) doing (held_before number client doing before is) (λ connection link has at out. (link, same_link connection link has at, out)),
        by_still t.machine.links n.links doing (goes_before number client doing before is) (λ connection link has at. (link, (same_link connection link has at, refl))),
      )

  -- ALL EVENTS ------------------------------------------------------------------------------------

  -- no request goes on, and on each connection of one as much was said
  untouched : (n : Machine) → n.clients ≡ t.machine.clients
      → ((number : ℕ) (link : Link) → link_at t.machine.links number ≡ Some link → idle_of t number ≡ 0 → IsThere n.links number link)
      → (number : ℕ) (client : Client) (doing : Doing) → client_at n.clients number ≡ Some client → client.now ≡ Some doing → Stands n.links (record { client = number; place = length client.past }) doing
  untouched n clients links number client doing here is =
      let before : client_at t.machine.clients number ≡ Some client = ap (λ (all : List Client). client_at all number) (sym clients) ∙ here in (
        still_holds t.machine.links n.links (record { client = number; place = length client.past }) doing (held_before number client doing before is)
            (λ connection link has at out.
            let next = links connection link at (held_busy t connection link number client doing had at before is has) in
            (next.now, next.there, awaits_same (record { client = number; place = length client.past }) doing.talk.phase link next.now next.same out)),
        by_still t.machine.links n.links doing (goes_before number client doing before is)
            (λ connection link has at.
            let next = links connection link at (held_busy t connection link number client doing had at before is has) in
            (next.now, (next.there, next.same.held))),
      )

  by_step : (n : Machine) → IsStepOf now n → (number : ℕ) (client : Client) (doing : Doing) → client_at n.clients number ≡ Some client → client.now ≡ Some doing
      → Stands n.links (record { client = number; place = length client.past }) doing
  by_step _ NoStep number client doing here is = (held_before number client doing here is, goes_before number client doing here is)
  by_step n (OneStep who stepping _ there step) number client doing here is = stepped_holds who stepping n there step number client doing here is (number == who) refl

  last_clients : (number after : ℕ) (failover : Bool) (items left : List Served) (a : Machine) → ServesLast now number after items left a → (falls failover a).clients ≡ t.machine.clients
  last_clients number after failover items left _ (LastNone same) = refl
  last_clients number after failover items left _ (LastStopped front served is stopped same) = refl
  last_clients number after failover items left _ (LastServed front served is over same) = refl

  pub held_after : (items left : List Served) (happened : Noted) (n : Machine) → Happens t.setting now items left happened n → (number : ℕ) (client : Client) (doing : Doing) → client_at n.clients number ≡ Some client → client.now ≡ Some doing
      → Stands n.links (record { client = number; place = length client.past }) doing
  held_after items left happened _ (Nothing kind other) = untouched now refl (λ number link at count. as_before t.machine.links number link at)
  held_after items left happened n (IsStep number did _ moves) = by_step n (goes_step number n moves)
  held_after items left happened n (Serves number frame front served is ordinary same) =
      untouched n refl (λ other link at count. with_there t.machine.links number front.link (handled now.event front served) (front_is t.machine.links number front is).there (handled_said now.event front served) other link at)
  held_after items left happened n (Cuts number up down reached link is) =
      let open_at : IsOpen t.machine.links number link = open_is t.machine.links number link is in
      untouched n refl (λ other one at count. with_there t.machine.links number link (cut_link now.event up down link) open_at.there (cut_said now.event up down link open_at.open_now) other one at)
  held_after items left happened n (Reaps number reaped orphan) =
      untouched n refl (λ other one at count. changed_there reaped_link t.machine.links number (λ link. record { sent = refl; taken = refl; held = refl }) other one at)
  held_after items left happened n (Crashes number after failover down a runs last) =
      untouched n (last_clients number after failover items left a last) (λ other one at count. falls_there now number after failover items left a last other one at)
  held_after items left happened n (OpensUp incarnation down may) = untouched n refl (λ number link at count. as_before t.machine.links number link at)
  held_after items left happened n (StopsOpening made down) = untouched n refl (λ number link at count. as_before t.machine.links number link at)
  held_after items left happened n Ticks = untouched n refl (λ number link at count. as_before t.machine.links number link at)
  held_after items left happened n (RunsOutside ran runs) = untouched n refl (λ number link at count. as_before t.machine.links number link at)
  held_after items left happened n (Asks ltxid result runs) = untouched n refl (λ number link at count. as_before t.machine.links number link at)
  held_after items left happened n (Drains closed) =
      untouched n refl (λ number link at count. as_before n.links number link (each_others (sends now.event (closed_by_drain ∷ [])) t.machine.links t.machine.pool.idle number count ∙ at))
