-- What a history has of a session: it grows by what is of that session alone.
use Rattle.std.proofs.Common.{◌≡◌, refl, sym, ap, ◌∙◌, ℕ, Bool, true, false, List, [], ◌∷◌, ◌++◌, if◌then◌else◌}
use Rattle.std.specs.Prelude.{All}
use Rattle.std.proofs.lemmas.List.Elements.{All-head, All-tail}
use Rattle.svc_values.specs.declared.entry.SessionId.{SessionId}
use Rattle.svc_values.specs.declared.frame.Up.{Up}
use Rattle.svc_values.specs.meaning.Identifiers.{same_session}
use Rattle.server_model.specs.meaning.Outcomes.{Telling}
use Rattle.server_model.specs.Runs.{Happened, Served, Asked}
use Rattle.server_model.specs.ServiceCalls.{IsOf}
use Rattle.invariant_laws.specs.SessionHistory.{served_in}
use Rattle.world_model.proofs.Offered.{same_session_is, session_self}

pub served_more : (history more : List Happened) (session : SessionId) → served_in (history ++ more) session ≡ served_in history session ++ served_in more session
served_more [] more session = refl
served_more (Asked x told ∷ history) more session = served_more history more session
served_more (Served other now frame told ∷ history) more session = by (same_session other session) (served_more history more session)
  where
    by : (test : Bool) → served_in (history ++ more) session ≡ served_in history session ++ served_in more session
        → (if test then (frame, told) ∷ served_in (history ++ more) session else served_in (history ++ more) session) ≡ (if test then (frame, told) ∷ served_in history session else served_in history session) ++ served_in more session
    by true rest = ap (λ (all : List (Up × Telling)). (frame, told) ∷ all) rest
    by false rest = rest

pub apart_sessions : (a b : SessionId) → (a ≡ b → ⊥) → same_session a b ≡ false
apart_sessions a b apart = by (same_session a b) refl
  where
    by : (test : Bool) → same_session a b ≡ test → same_session a b ≡ false
    by true is = absurd (apart (same_session_is a b is))
    by false is = is

-- one frame
pub one_own : (session : SessionId) (now : ℕ) (frame : Up) (told : Telling) → served_in (Served session now frame told ∷ []) session ≡ (frame, told) ∷ []
one_own session now frame told = ap (λ (test : Bool). if test then (frame, told) ∷ [] else []) (session_self session)

pub one_other : (other session : SessionId) (now : ℕ) (frame : Up) (told : Telling) → (other ≡ session → ⊥) → served_in (Served other now frame told ∷ []) session ≡ []
one_other other session now frame told apart = ap (λ (test : Bool). if test then (frame, told) ∷ [] else []) (apart_sessions other session apart)

-- frames of another session
pub none_other : (other session : SessionId) (history : List Happened) → All (IsOf other) history → (other ≡ session → ⊥) → served_in history session ≡ []
none_other other session [] all apart = refl
none_other other session (Asked x told ∷ history) all apart = absurd (All-head (IsOf other) (Asked x told) history all)
none_other other session (Served whose now frame told ∷ history) all apart =
    ap (λ (test : Bool). if test then (frame, told) ∷ served_in history session else served_in history session)
    (apart_sessions whose session (λ same. apart (sym (All-head (IsOf other) (Served whose now frame told) history all) ∙ same)))
    ∙ none_other other session history (All-tail (IsOf other) (Served whose now frame told) history all) apart
