-- A frame that is served in order: what the calls ask for and give.
use Rattle.std.proofs.Common.{◌≡◌, ℕ, ◌+◌, true, false, List, [], ◌∷◌, Option, Some, None, refl, sym, ap, ◌∙◌, subst, eq-eqb}
use Rattle.std.specs.Prelude.{if◌then◌else◌}
use Rattle.svc_values.specs.declared.entry.SessionId.{SessionId}
use Rattle.svc_values.specs.declared.frame.Up.{Up}
use Rattle.svc_values.specs.declared.frame.Down.{Down}
use Rattle.svc_values.specs.Laws.{AreExact}
use Rattle.std.specs.List.{AllByRecursion}
use Rattle.svc_values.specs.meaning.Calls.{sequences_in}
use Rattle.canon_bytes.specs.UpBytes.{IsMadeUp}
use Rattle.world_core.specs.Linked.{up_frames}
use Rattle.world_core.proofs.Standing.{link_stands}
use Rattle.outage_schedule.specs.declared.event.Event.TheVariants as event
use Rattle.outage_schedule.specs.declared.note.Note.TheVariants as note
use Rattle.outage_schedule.specs.declared.item.Item.{Item}
use Rattle.outage_schedule.specs.declared.item.Served.{Served}
use Rattle.pool_core.specs.meaning.Slots.{after_gone}
use Rattle.server_model.specs.meaning.Outcomes.{telling_of}
use Rattle.server_model.specs.Runs.{Served as ServedFrame}
use Rattle.server_model.specs.Seen.{Store, ServiceState, Seen, IsHistory, Lives}
use Rattle.server_model.specs.ServiceCalls.{Adds, HoldsBehind, ServedOne, is_up_after}
use Rattle.service_calls.specs.Kept.{Goes}
use Rattle.world_model.specs.meaning.Frames.{Sent}
use Rattle.world_model.specs.meaning.Links.{Link, link_at, with_link, changed, ends}
use Rattle.world_model.specs.meaning.Machines.{Machine}
use Rattle.world_model.specs.meaning.Noting.{name_of}
use Rattle.world_model.specs.meaning.Serving.{Front, first_of, front_at, is_blocked, after_front, pool_after}
use Rattle.world_model.specs.Traced.{Traced}
use Rattle.world_model.specs.Coupled.{living_of, Coupled}
use Rattle.world_model.specs.OrderlyLaws.{OrderlyIsKept}
use Rattle.world_core.specs.declared.traffic.Traffic.{Traffic}
use Rattle.world_core.specs.Answering.{served_item}
use Rattle.world_core.proofs.frames.InOrder.{no_store, ServedWith}
use Rattle.world_core.specs.Underway.{IsUnderway, FrontOf, answered_link, IsWritten}
use Rattle.world_core.specs.Making.{Made, Makes}
use Rattle.world_core.proofs.frames.Serving.{GoesTo, item_now, served_so, serves_front, with_twice, ends_there}
use Rattle.world_core.proofs.frames.Fronts.{some_front, front_there, front_up}
use Rattle.world_core.proofs.frames.Ordered.{serves_in_order}
use Rattle.world_core.proofs.Readiness.{stays_ready, up_not_down}
use Rattle.world_core.proofs.Coupling.{begun, one_alone, made_alone}
use Rattle.world_core.proofs.Reaping.{link_same}

-- ON THE GROUND -----------------------------------------------------------------------------------

pub no_frame : {A : Type 0} (frame : Up) → ◌≡◌ {A = Option Up} None (Some frame) → A
no_frame frame e = absurd (let nothing : ⊥ = cc in nothing)

pub some_frame : (a b : Up) → ◌≡◌ {A = Option Up} (Some a) (Some b) → a ≡ b
some_frame a b e = cc

abbrev written_as : ℕ → SessionId → Item → Served
written_as event session one = record { event = event; session = session; item = one }

pub served_is : (served : Served) (event : ℕ) (session : SessionId) (one : Item) → served.event ≡ event → served.session ≡ session → served.item ≡ one → served ≡ written_as event session one
served_is served event session one a b c = ap (λ e. written_as e served.session served.item) a ∙ ap (λ s. written_as event s served.item) b ∙ ap (λ i. written_as event session i) c

told_up : (reply : Option Down) → is_up_after (telling_of reply) ≡ true
told_up None = refl
told_up (Some told) = refl

-- with an answer nothing is left to a crash
none_left : (reply : Option Down) (leaves : Store → Type 0) (Holds : Store → Type 0) → HoldsBehind (telling_of reply) leaves Holds
none_left None leaves Holds = tt
none_left (Some told) leaves Holds = tt

pub served_with : (old new : Seen) (number now : ℕ) (frame : Up) (reply : Option Down) (leaves : Store → Type 0) → ServedOne old number now frame (telling_of reply) leaves new → ServedWith old number now frame reply new
served_with old new number now frame reply leaves did = record {
  keeps = did.keeps;
  session = did.session;
  of_connection = did.of_connection;
  history = did.history;
  living = did.living;
  is_up = did.is_up;
  kept = did.kept;
  outcome = did.outcome;
  adds = did.adds;
  stored = did.stored;
  blocks = did.blocks;
  left = none_left reply no_store (Adds (ServedFrame did.session now frame (telling_of reply) ∷ []) (1 + sequences_in frame) old.state.store);
  cause = did.cause;
  silent = did.silent;
}

pub serves_none : OrderlyIsKept → (sees : Seen → Type 0) (before after : Traffic) (number : ℕ) → ((m : Machine) → IsUnderway before m → FrontOf (begun m) number (front_at m.links number) None after)
    → Makes sees before sees after (event.Serve number) (note.Serve number None) []
serves_none kept sees before after number goes below seen t is = by (front_at t.machine.links number) refl (goes t.machine is.underway)
  where
    by : (found : Option Front) → front_at t.machine.links number ≡ found → FrontOf (begun t.machine) number found None after → Made below seen t sees after (event.Serve number) (note.Serve number None) []
    by None there gives =
        made_alone kept sees before after below (event.Serve number) (note.Serve number None) seen t (begun t.machine) is
        (one_alone seen t (event.Serve number) (note.Serve number None) (begun t.machine) is.coupled (rw (eq-eqb number number refl, there) refl) (rw there refl) refl refl refl refl refl) refl gives.1
    by (Some front) there gives = no_frame front.first.frame gives.0

abbrev pub taken_off : Machine → ℕ → Front → Machine
taken_off m number front = record (begun m) { links = with_link m.links number (record front.link { up = front.later }) }

pub serves_some : OrderlyIsKept → (sees sees_later : Seen → Type 0) (leaves : Store → Type 0) (before between after : Traffic) (number : ℕ) (frame : Up) (reply : Option Down) (served : Served) → AreExact
    → ((seen : Seen) → sees_later seen → IsHistory seen)
    → Goes sees sees_later (λ old new. ServedOne old number between.tick frame (telling_of reply) leaves new)
    → ((m : Machine) → IsUnderway before m → FrontOf (begun m) number (front_at m.links number) (Some frame) between)
    → ((m : Machine) (front : Front) → link_at m.links number ≡ Some (record front.link { up = front.later }) → IsUnderway between m → IsWritten between m number front frame reply served after)
    → Makes sees before sees_later after (event.Serve number) (note.Serve number (Some (name_of frame))) (served ∷ [])
serves_some kept sees sees_later leaves before between after number frame reply served exact honest goes takes writes below seen t is = by (front_at t.machine.links number) refl (takes t.machine is.underway)
  where
    by : (found : Option Front) → front_at t.machine.links number ≡ found → FrontOf (begun t.machine) number found (Some frame) between → GoesTo below sees_later seen t number frame served after
    by None there gives = no_frame frame (sym gives.0)
    by (Some front) there gives =
        let m = begun t.machine in
        let same : frame ≡ front.first.frame = some_frame frame front.first.frame gives.0 in
        let at = front_there t.machine.links number front there in
        let gone = goes seen is.seen_so in
        let new = gone.0 in
        let history = honest new gone.1.0 in
        let did : ServedWith seen number t.machine.tick front.first.frame reply new =
        subst (λ f. ServedWith seen number t.machine.tick f reply new) same (subst (λ now. ServedWith seen number now frame reply new) (sym gives.1.tick) (served_with seen new number between.tick frame reply leaves gone.1.1)) in
        let written = writes (taken_off t.machine number front) front (link_same t.machine.links number front.link (record front.link { up = front.later }) at.0) gives.1 in
        let order = serves_in_order exact seen t number front is.orderly is.coupled there in
        let ready = stays_ready seen new did.keeps is.ready (λ up. sym is.coupled.server.is_up ∙ order.is_up) (up_not_down new.state (did.is_up ∙ told_up reply)) in
        let by_session = served_so exact seen new t number front reply is.coupled there order history did in
        let one = item_now t.machine front did.session reply in
        let is_one : served ≡ one = served_is served m.event did.session one.item written.event (written.session ∙ by_session.session_is) (written.item ∙ ap (λ f. served_item f reply) same) in
        let once = subst (λ links. IsUnderway after (record m { links = links; pool = pool_after t.machine.pool number served.item }))
        (with_twice t.machine.links number (record front.link { up = front.later }) (answered_link m.event front served reply)) written.links in
        let stands = subst (λ s. IsUnderway after (record m { links = with_link t.machine.links number (answered_link m.event front s reply); pool = pool_after t.machine.pool number s.item })) is_one once in
        let result = serves_front kept sees sees_later below seen new t number front reply before after exact is there order history gone.1.0 ready did stands in
        subst (λ s. GoesTo below sees_later seen t number frame s after) (sym is_one) (subst (λ f. GoesTo below sees_later seen t number f one after) (sym same) result)

-- WHAT THE CALLS ASK FOR --------------------------------------------------------------------------

none_living : {A : Type 0} (known : Option SessionId) → ◌≡◌ {A = Option (Option SessionId)} (Some known) None → A
none_living known e = absurd (let nothing : ⊥ = cc in nothing)

pub lives_there : (state : ServiceState) (seen : Seen) (t : Traced) (number : ℕ) (frame : Up) (between : Traffic) → seen.state ≡ state → Coupled seen t → FrontOf (begun t.machine) number (front_at t.machine.links number) (Some frame) between → Lives state number
lives_there state seen t number frame between same coupled gives = by (front_at t.machine.links number) refl gives
  where
    by : (found : Option Front) → front_at t.machine.links number ≡ found → FrontOf (begun t.machine) number found (Some frame) between → Lives state number
    by None there gives = no_frame frame (sym gives.0)
    by (Some front) there gives = λ none.
        let at = front_there t.machine.links number front there in
        let living : seen.state.living number ≡ Some front.link.session = coupled.living number ∙ ap living_of at.0 ∙ ap (λ b. if b then Some front.link.session else None) at.1 in
        none_living front.link.session (sym living ∙ ap (λ (s : ServiceState). s.living number) same ∙ none)

-- a frame that was sent keeps the rules of a sender
made_first : (up : List Sent) (front : Front) (link : Link) → first_of link up ≡ Some front → AllByRecursion IsMadeUp (up_frames up) → IsMadeUp front.first.frame
made_first [] front link e made = absurd (let nothing : ⊥ = cc in nothing)
made_first (first ∷ later) front link e made = subst (λ (f : Front). IsMadeUp f.first.frame) (some_front _ front e) made.0

pub frame_made : (m : Machine) (number : ℕ) (frame : Up) (before between : Traffic) → IsUnderway before m → FrontOf (begun m) number (front_at m.links number) (Some frame) between → IsMadeUp frame
frame_made m number frame before between is gives = by (front_at m.links number) refl gives
  where
    by : (found : Option Front) → front_at m.links number ≡ found → FrontOf (begun m) number found (Some frame) between → IsMadeUp frame
    by None there gives = no_frame frame (sym gives.0)
    by (Some front) there gives =
        let at = front_there m.links number front there in
        let link = link_stands before.connections.all.items m.links number front.link is.links.are at.0 in
        subst IsMadeUp (sym (some_frame frame front.first.frame gives.0)) (made_first front.link.up front front.link (front_up m.links number front there) link.1.made)

-- WRITTEN DOWN ------------------------------------------------------------------------------------

pub writes_blocked : (after : Traffic) (m : Machine) (number : ℕ) (front : Front) (served : Served) (reply : Option Down) → link_at m.links number ≡ Some (record front.link { up = front.later }) → is_blocked served.item ≡ true
    → IsUnderway after (record m { links = changed (ends m.event) (with_link m.links number (after_front front served reply)) number; pool = after_gone m.pool number })
    → IsUnderway after (record m { links = with_link m.links number (answered_link m.event front served reply); pool = pool_after m.pool number served.item })
writes_blocked after m number front served reply there blocked is =
    rw (blocked) (subst (λ links. IsUnderway after (record m { links = links; pool = after_gone m.pool number })) (ends_there m.links number m.event (record front.link { up = front.later }) (after_front front served reply) there) is)

pub writes_open : (after : Traffic) (m : Machine) (number : ℕ) (front : Front) (served : Served) (reply : Option Down) → is_blocked served.item ≡ false
    → IsUnderway after (record m { links = with_link m.links number (after_front front served reply) })
    → IsUnderway after (record m { links = with_link m.links number (answered_link m.event front served reply); pool = pool_after m.pool number served.item })
writes_open after m number front served reply unblocked is = rw unblocked is
