-- Where sessions are in their lives by a history, with more behind it.
use Rattle.std.proofs.Common.{◌≡◌, ℕ, Bool, true, false, List, [], ◌∷◌, ◌++◌, Option, Some, None, fold, refl, sym, ap, ◌∙◌, subst}
use Rattle.std.specs.Prelude.{if◌then◌else◌, All}
use Rattle.std.proofs.lemmas.List.Elements.{All-head, All-tail}
use Rattle.std.proofs.lemmas.List.Sums.{fold-append}
use Rattle.svc_values.specs.declared.entry.Ltxid.{Ltxid}
use Rattle.svc_values.specs.declared.entry.SessionId.{SessionId}
use Rattle.svc_values.specs.declared.frame.Up.{Up}
use Rattle.svc_values.specs.meaning.Identifiers.{same_session}
use Rattle.svc_values.specs.Laws.{AreExact}
use Rattle.server_model.specs.meaning.Outcomes.{Telling}
use Rattle.server_model.specs.Runs.{Happened, Served, Asked}
use Rattle.server_model.specs.ServiceCalls.{IsOf}
use Rattle.server_model.specs.Sessions.{Life, New}
use Rattle.server_model.specs.ToldRight.{life_in, with_life, life_after, life_behind, lives_after}
use Rattle.world_model.specs.Coupled.{life_by, life_of, HasLived}
use Rattle.world_model.specs.meaning.Frames.{Handled}
use Rattle.world_core.proofs.frames.Storing.{sessions_differ}

abbrev lives_by : List Happened → List (SessionId × Life)
lives_by history = fold lives_after [] history

-- ONE SESSION -------------------------------------------------------------------------------------

life_own : AreExact → (lives : List (SessionId × Life)) (session : SessionId) (life : Life) → life_in (with_life lives session life) session ≡ life
life_own exact [] session life = ap (λ (b : Bool). if b then life else New) ((exact.sessions session session).1 refl)
life_own exact (first ∷ rest) session life = by (same_session first.0 session) refl (life_own exact rest session life)
  where
    by : (told : Bool) → same_session first.0 session ≡ told → life_in (with_life rest session life) session ≡ life → life_in (if told then (session, life) ∷ rest else first ∷ with_life rest session life) session ≡ life
    by true told later = ap (λ (b : Bool). if b then life else life_in rest session) ((exact.sessions session session).1 refl)
    by false told later = ap (λ (b : Bool). if b then first.1 else life_in (with_life rest session life) session) told ∙ later

life_other : AreExact → (lives : List (SessionId × Life)) (session other : SessionId) (life : Life) → (session ≡ other → ⊥) → life_in (with_life lives session life) other ≡ life_in lives other
life_other exact [] session other life apart = ap (λ (b : Bool). if b then life else New) (sessions_differ exact session other apart)
life_other exact (first ∷ rest) session other life apart = by (same_session first.0 session) refl (life_other exact rest session other life apart)
  where
    by : (told : Bool) → same_session first.0 session ≡ told → life_in (with_life rest session life) other ≡ life_in rest other
        → life_in (if told then (session, life) ∷ rest else first ∷ with_life rest session life) other ≡ (if same_session first.0 other then first.1 else life_in rest other)
    by true told later =
        let is : first.0 ≡ session = (exact.sessions first.0 session).0 told in
        let none : same_session first.0 other ≡ false = ap (λ (s : SessionId). same_session s other) is ∙ sessions_differ exact session other apart in
        ap (λ (b : Bool). if b then life else life_in rest other) (sessions_differ exact session other apart) ∙ sym (ap (λ (b : Bool). if b then first.1 else life_in rest other) none)
    by false told later = ap (λ (l : Life). if same_session first.0 other then first.1 else l) later

-- BEHIND A HISTORY --------------------------------------------------------------------------------

-- a frame of the session
pub life_served : AreExact → (history : List Happened) (session : SessionId) (now : ℕ) (frame : Up) (told : Telling) → life_by (history ++ Served session now frame told ∷ []) session ≡ life_after frame told (life_by history session)
life_served exact history session now frame told =
    ap (λ (lives : List (SessionId × Life)). life_in lives session) (fold-append lives_after [] history (Served session now frame told ∷ []))
    ∙ life_own exact (lives_by history) session (life_after frame told (life_in (lives_by history) session))

-- a question
pub life_asked : (history : List Happened) (x : Ltxid) (told : Telling) (session : SessionId) → life_by (history ++ Asked x told ∷ []) session ≡ life_by history session
life_asked history x told session = ap (λ (lives : List (SessionId × Life)). life_in lives session) (fold-append lives_after [] history (Asked x told ∷ []))

-- nothing of it is of the session
abbrev pub AreApart : SessionId → List Happened → Type 0
AreApart session [] = Unit {0}
AreApart session (Served other now frame told ∷ more) = (other ≡ session → ⊥) × AreApart session more
AreApart session (Asked x told ∷ more) = AreApart session more

apart_from : AreExact → (lives : List (SessionId × Life)) (more : List Happened) (session : SessionId) → AreApart session more → life_in (fold lives_after lives more) session ≡ life_in lives session
apart_from exact lives [] session are = refl
apart_from exact lives (Served other now frame told ∷ more) session are =
    apart_from exact (with_life lives other (life_after frame told (life_in lives other))) more session are.1 ∙ life_other exact lives other session (life_after frame told (life_in lives other)) are.0
apart_from exact lives (Asked x told ∷ more) session are = apart_from exact lives more session are

pub life_apart : AreExact → (history more : List Happened) (session : SessionId) → AreApart session more → life_by (history ++ more) session ≡ life_by history session
life_apart exact history more session are =
    ap (λ (lives : List (SessionId × Life)). life_in lives session) (fold-append lives_after [] history more) ∙ apart_from exact (lives_by history) more session are

-- all of it is of another
pub all_apart : (session other : SessionId) (happened : List Happened) → All (IsOf session) happened → (session ≡ other → ⊥) → AreApart other happened
all_apart session other [] all apart = tt
all_apart session other (Served one now frame told ∷ more) all apart =
    let of : one ≡ session = All-head (IsOf session) (Served one now frame told) more all in
    (λ same. apart (sym of ∙ same), all_apart session other more (All-tail (IsOf session) (Served one now frame told) more all) apart)
all_apart session other (Asked x told ∷ more) all apart = absurd (All-head (IsOf session) (Asked x told) more all)

-- SESSIONS THAT LIVE ------------------------------------------------------------------------------

-- whatever is behind it is of others
pub still_lived : (old new : List Happened) (living : Option (Option SessionId)) (life : Life) → ((session : SessionId) → living ≡ Some (Some session) → life_by new session ≡ life_by old session) → HasLived old living life → HasLived new living life
still_lived old new None life same has = tt
still_lived old new (Some None) life same has = tt
still_lived old new (Some (Some session)) life same has = same session refl ∙ has

pub same_lived : (old new : List Happened) (living : Option (Option SessionId)) (life : Life) → new ≡ old → HasLived old living life → HasLived new living life
same_lived old new living life same has = subst (λ (h : List Happened). HasLived h living life) (sym same) has

pub none_lived : (history : List Happened) (living : Option (Option SessionId)) (life : Life) → living ≡ None → HasLived history living life
none_lived history living life none = subst (λ (l : Option (Option SessionId)). HasLived history l life) (sym none) tt

-- one frame more
pub life_more : (served : List Handled) (one : Handled) → life_of (served ++ one ∷ []) ≡ life_behind one.sent.frame (life_of served)
life_more served one = fold-append (λ life (h : Handled). life_behind h.sent.frame life) New served (one ∷ [])
