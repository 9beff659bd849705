-- The frame that is served under a stop, with the traffic.
use Rattle.std.proofs.Common.{◌≡◌, ℕ, true, List, [], ◌∷◌, Option, Some, None, refl, sym, ap, ◌∙◌, subst}
use Rattle.svc_values.specs.declared.frame.Up.{Up}
use Rattle.svc_values.specs.declared.frame.Down.{Down}
use Rattle.svc_values.specs.Laws.{AreExact}
use Rattle.outage_schedule.specs.declared.item.Served.{Served}
use Rattle.server_model.specs.meaning.Outcomes.{Stopped, telling_of}
use Rattle.server_model.specs.Seen.{Store, Seen, IsHistory}
use Rattle.server_model.specs.ServiceCalls.{ServedOne, with_stop}
use Rattle.service_calls.specs.Kept.{Goes}
use Rattle.world_model.specs.meaning.Crashing.{with_doubt, after_stopped}
use Rattle.world_model.specs.Coupled.{Coupled}
use Rattle.world_model.specs.meaning.Links.{Link, link_at, with_link}
use Rattle.world_model.specs.meaning.Machines.{Machine}
use Rattle.world_model.specs.meaning.Serving.{Front, front_at, after_front, handled, after_served, server_after, pool_after}
use Rattle.world_model.specs.Traced.{Traced}
use Rattle.world_core.specs.declared.traffic.Traffic.{Traffic}
use Rattle.world_core.specs.Answering.{served_item, crashed_item}
use Rattle.world_core.proofs.frames.InOrder.{ServedWith}
use Rattle.world_core.specs.Underway.{IsUnderway, FrontOf, answered_link, IsWritten, IsStopped}
use Rattle.world_core.specs.Stopping.{ServedLast, LeadsLast}
use Rattle.world_core.proofs.Coupling.{begun}
use Rattle.world_core.proofs.Opening.{any_server}
use Rattle.world_core.proofs.Reaping.{link_same}
use Rattle.world_core.proofs.frames.Serving.{item_now, served_so, with_twice}
use Rattle.world_core.proofs.frames.Fronts.{front_there}
use Rattle.world_core.proofs.frames.Ordered.{serves_in_order}
use Rattle.world_core.proofs.frames.ServedFrames.{no_frame, some_frame, served_is, served_with, taken_off}
use Rattle.world_core.proofs.frames.Written.{reads}
use Rattle.world_core.proofs.frames.LastFrames.{stop_coupled, last_none, last_answered, last_stopped, crashed_now}

abbrev SetsStop : ℕ → Seen → Seen → Type 0
SetsStop after old new = new ≡ with_stop old (Some after)

-- the end of it
abbrev Last : (Seen → Type 0) → (Store → Type 0) → Traffic → Seen → Traced → ℕ → ℕ → List Served → Type 0
Last sees_later leaves later seen t number after items = (new : Seen) × ((m : Machine) × (sees_later new × (ServedLast seen t number after items leaves new m × IsUnderway later m)))

-- no frame stood there
pub leads_none : (sees sees_later : Seen → Type 0) (leaves : Store → Type 0) (before later : Traffic) (number after : ℕ) → ((seen : Seen) → sees seen → seen.state.is_up ≡ true)
    → Goes sees sees_later (SetsStop after)
    → ((m : Machine) → IsUnderway before m → FrontOf (begun m) number (front_at m.links number) None later)
    → LeadsLast sees before sees_later leaves later number after []
leads_none sees sees_later leaves before later number after up stops takes seen t is = by (front_at t.machine.links number) refl (takes t.machine is.underway)
  where
    by : (found : Option Front) → front_at t.machine.links number ≡ found → FrontOf (begun t.machine) number found None later → Last sees_later leaves later seen t number after []
    by None there gives =
        let gone = stops seen is.seen_so in (
          gone.0,
          (
            begun t.machine,
            (
              gone.1.0,
              (subst (λ new. ServedLast seen t number after [] leaves new (begun t.machine)) (sym gone.1.1) (last_none seen t number after leaves is.coupled (up seen is.seen_so) is.ready.live there), gives.1),
            ),
          ),
        )
    by (Some front) there gives = no_frame front.first.frame gives.0

-- it was answered
pub leads_answered : (sees sees_between sees_later : Seen → Type 0) (leaves : Store → Type 0) (before between later : Traffic) (number after : ℕ) (frame : Up) (reply : Option Down) (served : Served) → AreExact
    → ((seen : Seen) → sees seen → seen.state.is_up ≡ true)
    → ((seen : Seen) → sees_later seen → IsHistory seen)
    → Goes sees sees_between (SetsStop after)
    → Goes sees_between sees_later (λ old new. ServedOne old number between.tick frame (telling_of reply) leaves new)
    → ((m : Machine) → IsUnderway before m → FrontOf (begun m) number (front_at m.links number) (Some frame) between)
    → ((m : Machine) (front : Front) → link_at m.links number ≡ Some (record front.link { up = front.later }) → IsUnderway between m → IsWritten between m number front frame reply served later)
    → LeadsLast sees before sees_later leaves later number after (served ∷ [])
leads_answered sees sees_between sees_later leaves before between later number after frame reply served exact up honest stops goes takes writes seen t is = by (front_at t.machine.links number) refl (takes t.machine is.underway)
  where
    by : (found : Option Front) → front_at t.machine.links number ≡ found → FrontOf (begun t.machine) number found (Some frame) between → Last sees_later leaves later seen t number after (served ∷ [])
    by None there gives = no_frame frame (sym gives.0)
    by (Some front) there gives =
        let m = begun t.machine in
        let same : frame ≡ front.first.frame = some_frame frame front.first.frame gives.0 in
        let at = front_there t.machine.links number front there in
        let stopped = stops seen is.seen_so in
        let gone = goes stopped.0 stopped.1.0 in
        let new = gone.0 in
        let history = honest new gone.1.0 in
        let order = serves_in_order exact (with_stop seen (Some after)) t number front is.orderly (stop_coupled seen t (Some after) is.coupled) there in
        let did : ServedWith (with_stop seen (Some after)) number t.machine.tick front.first.frame reply new =
        subst (λ old. ServedWith old number t.machine.tick front.first.frame reply new) stopped.1.1
        (subst (λ f. ServedWith stopped.0 number t.machine.tick f reply new) same (subst (λ now. ServedWith stopped.0 number now frame reply new) (sym gives.1.tick) (served_with stopped.0 new number between.tick frame reply leaves gone.1.1))) in
        let written = writes (taken_off t.machine number front) front (link_same t.machine.links number front.link (record front.link { up = front.later }) at.0) gives.1 in
        let by_session = served_so exact (with_stop seen (Some after)) new t number front reply (stop_coupled seen t (Some after) is.coupled) there order history did in
        let one = item_now t.machine front did.session reply in
        let is_one : served ≡ one = served_is served m.event did.session one.item written.event (written.session ∙ by_session.session_is) (written.item ∙ ap (λ f. served_item f reply) same) in
        let once = subst (λ links. IsUnderway later (record m { links = links; pool = pool_after t.machine.pool number served.item }))
        (with_twice t.machine.links number (record front.link { up = front.later }) (answered_link m.event front served reply)) written.links in
        let stands = subst (λ s. IsUnderway later (record m { links = with_link t.machine.links number (answered_link m.event front s reply); pool = pool_after t.machine.pool number s.item })) is_one once in
        let read = reads exact did.session number front.link.commits front.first.frame reply (order.answered reply new history did) in
        let link = handled m.event front one in
        let same_handled : answered_link m.event front one reply ≡ link = ap (λ r. answered_link m.event front one r) (sym read.replies) in
        let underway = any_server later (record m { links = with_link t.machine.links number link; pool = pool_after t.machine.pool number one.item }) (server_after t.machine.server one.item)
        (subst (λ (l : Link). IsUnderway later (record m { links = with_link t.machine.links number l; pool = pool_after t.machine.pool number one.item })) same_handled stands) in
        let last = last_answered seen new t number after front leaves exact is.coupled (up seen is.seen_so) there order history reply did in
        subst (λ s. Last sees_later leaves later seen t number after (s ∷ [])) (sym is_one) (new, (after_served m number front one, (gone.1.0, (last, underway))))

-- it was stopped
pub leads_stopped : (sees sees_between sees_later : Seen → Type 0) (leaves : Store → Type 0) (before between later : Traffic) (number after : ℕ) (frame : Up) (served : Served) → AreExact
    → ((seen : Seen) → sees seen → seen.state.is_up ≡ true)
    → Goes sees sees_between (SetsStop after)
    → Goes sees_between sees_later (λ old new. ServedOne old number between.tick frame Stopped leaves new)
    → ((m : Machine) → IsUnderway before m → FrontOf (begun m) number (front_at m.links number) (Some frame) between)
    → ((m : Machine) (front : Front) → link_at m.links number ≡ Some (record front.link { up = front.later }) → IsUnderway between m → IsStopped between m number front frame served later)
    → LeadsLast sees before sees_later leaves later number after (served ∷ [])
leads_stopped sees sees_between sees_later leaves before between later number after frame served exact up stops goes takes writes seen t is = by (front_at t.machine.links number) refl (takes t.machine is.underway)
  where
    by : (found : Option Front) → front_at t.machine.links number ≡ found → FrontOf (begun t.machine) number found (Some frame) between → Last sees_later leaves later seen t number after (served ∷ [])
    by None there gives = no_frame frame (sym gives.0)
    by (Some front) there gives =
        let m = begun t.machine in
        let same : frame ≡ front.first.frame = some_frame frame front.first.frame gives.0 in
        let at = front_there t.machine.links number front there in
        let stopped = stops seen is.seen_so in
        let gone = goes stopped.0 stopped.1.0 in
        let new = gone.0 in
        let did : ServedOne (with_stop seen (Some after)) number t.machine.tick front.first.frame Stopped leaves new =
        subst (λ old. ServedOne old number t.machine.tick front.first.frame Stopped leaves new) stopped.1.1
        (subst (λ f. ServedOne stopped.0 number t.machine.tick f Stopped leaves new) same (subst (λ now. ServedOne stopped.0 number now frame Stopped leaves new) (sym gives.1.tick) gone.1.1)) in
        let written = writes (taken_off t.machine number front) front (link_same t.machine.links number front.link (record front.link { up = front.later }) at.0) gives.1 in
        let last = last_stopped seen new t number after front leaves exact is.coupled (up seen is.seen_so) is.ready.quiet there (serves_in_order exact (with_stop seen (Some after)) t number front is.orderly (stop_coupled seen t (Some after) is.coupled) there) did in
        let one = crashed_now t.machine front did.session in
        let is_one : served ≡ one = served_is served m.event did.session one.item written.event (written.session ∙ last.0) (written.item ∙ ap crashed_item same) in
        let once = subst (λ links. IsUnderway later (record m { links = links })) (with_twice t.machine.links number (record front.link { up = front.later }) (after_front front served None)) written.links in
        let stands = subst (λ s. IsUnderway later (record m { links = with_link t.machine.links number (after_front front s None) })) is_one once in
        let underway = any_server later (record m { links = with_link t.machine.links number (after_front front one None) }) (with_doubt t.machine.server one.item) stands in
        subst (λ s. Last sees_later leaves later seen t number after (s ∷ [])) (sym is_one) (new, (after_stopped m number front one, (gone.1.0, (last.1, underway))))

-- BEHIND THE STOP THAT IS SET ---------------------------------------------------------------------

-- what the call of the service asks for is known of it
pub set_coupled : (seen set : Seen) (t : Traced) (after : ℕ) → set ≡ with_stop seen (Some after) → Coupled seen t → Coupled set t
set_coupled seen set t after is coupled = subst (λ s. Coupled s t) (sym is) (stop_coupled seen t (Some after) coupled)
