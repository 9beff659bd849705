-- The session that serves a frame.
use Rattle.std.proofs.Common.{◌≡◌, ◌≤◌, arith, ℕ, ◌+◌, true, [], ◌∷◌, Option, Some, None, refl, sym, ap, ◌∙◌, inl, inr}
use Rattle.std.specs.Prelude.{if◌then◌else◌}
use Rattle.svc_values.specs.declared.entry.SessionId.{SessionId}
use Rattle.svc_values.specs.declared.frame.Up.{Up}
use Rattle.svc_values.specs.declared.frame.Down.{Down}
use Rattle.server_model.specs.Laws.{stops_last}
use Rattle.server_model.specs.meaning.Outcomes.{telling_of}
use Rattle.server_model.specs.Runs.{Served as ServedFrame}
use Rattle.server_model.specs.Seen.{Seen}
use Rattle.server_model.specs.ServiceCalls.{SessionOf}
use Rattle.world_model.specs.records.Basic.{living_now}
use Rattle.world_model.specs.Coupled.{living_of, SameServer, Coupled}
use Rattle.world_model.specs.meaning.Machines.{Server}
use Rattle.world_model.specs.meaning.Serving.{Front, front_at}
use Rattle.world_model.specs.Traced.{Traced}
use Rattle.world_core.proofs.frames.Fronts.{front_there}
use Rattle.world_core.proofs.frames.Storing.{living_is_now}
use Rattle.world_core.proofs.frames.Written.{Which}

pub some_known : (a b : Option SessionId) → ◌≡◌ {A = Option (Option SessionId)} (Some a) (Some b) → a ≡ b
some_known a b e = cc

abbrev pub session_after : ℕ → ℕ → SessionId
session_after incarnation sessions = record { incarnation = incarnation; session = sessions + 1 }

pub which : (server : Server) (seen : Seen) (known : Option SessionId) (session : SessionId) (number sessions : ℕ) → SameServer server seen → seen.state.is_up ≡ true → seen.state.living number ≡ Some known → SessionOf seen number session sessions
    → Which server known session sessions
which server seen known session number sessions same up living (inl (named, count)) = inl (some_known known (Some session) (sym living ∙ named), count ∙ sym (same.opened up).1.0)
which server seen known session number sessions same up living (inr (unnamed, next, count)) =
    let opened = same.opened up in
    inr (
      some_known known None (sym living ∙ unnamed),
      (
        next ∙ ap (λ i. session_after i seen.state.sessions) (sym opened.0) ∙ ap (λ n. session_after server.incarnation n) (sym opened.1.0),
        count ∙ ap (λ (n : ℕ). n + 1) (sym opened.1.0),
      ),
    )

-- it is of this incarnation
same_least : (a b : ℕ) → b ≡ a → a ≤ b
same_least a b same = omega (arith, same)

pub session_from : (seen : Seen) (t : Traced) (number : ℕ) (front : Front) (session : SessionId) (sessions : ℕ) → Coupled seen t → seen.state.is_up ≡ true → living_now t ≡ true → front_at t.machine.links number ≡ Some front → SessionOf seen number session sessions
    → seen.state.store.incarnation ≤ session.incarnation
session_from seen t number front session sessions coupled up now there (inl (named, count)) =
    let at = front_there t.machine.links number front there in
    let living : seen.state.living number ≡ Some front.link.session = coupled.living number ∙ ap living_of at.0 ∙ ap (λ b. if b then Some front.link.session else None) at.1 in
    same_least seen.state.store.incarnation session.incarnation (living_is_now t now number front.link session at.0 at.1 (some_known front.link.session (Some session) (sym living ∙ named)) ∙ (coupled.server.opened up).0)
session_from seen t number front session sessions coupled up now there (inr (unnamed, next, count)) = same_least seen.state.store.incarnation session.incarnation (ap (λ (s : SessionId). s.incarnation) next)

same_most : (a b : ℕ) → b ≡ a → b ≤ a
same_most a b same = omega (arith, same)

pub session_most : (seen : Seen) (t : Traced) (number : ℕ) (front : Front) (session : SessionId) (sessions : ℕ) → Coupled seen t → seen.state.is_up ≡ true → living_now t ≡ true → front_at t.machine.links number ≡ Some front → SessionOf seen number session sessions
    → session.incarnation ≤ seen.state.store.incarnation
session_most seen t number front session sessions coupled up now there (inl (named, count)) =
    let at = front_there t.machine.links number front there in
    let living : seen.state.living number ≡ Some front.link.session = coupled.living number ∙ ap living_of at.0 ∙ ap (λ b. if b then Some front.link.session else None) at.1 in
    same_most seen.state.store.incarnation session.incarnation (living_is_now t now number front.link session at.0 at.1 (some_known front.link.session (Some session) (sym living ∙ named)) ∙ (coupled.server.opened up).0)
session_most seen t number front session sessions coupled up now there (inr (unnamed, next, count)) = same_most seen.state.store.incarnation session.incarnation (ap (λ (s : SessionId). s.incarnation) next)

-- nothing was stopped
pub answered_last : (session : SessionId) (now : ℕ) (frame : Up) (reply : Option Down) → stops_last (ServedFrame session now frame (telling_of reply) ∷ []) ≡ true
answered_last session now frame None = refl
answered_last session now frame (Some told) = refl
