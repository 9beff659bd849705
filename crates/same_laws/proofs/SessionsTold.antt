-- Where a request has spoken on a connection, its session is one that was lent to it or whose Hello
-- it took.
use Rattle.std.proofs.Common.{◌≡◌, refl, sym, ap, subst, ◌∙◌, Bool, true, false, ℕ, ◌&&◌, List, ◌∷◌, ◌++◌, Option, Some, None}
use Rattle.std.specs.List.{list_any}
use Rattle.std.specs.Option.{option_map_or, option_or}
use Rattle.std.proofs.lemmas.Bool.{or_left, or_right}
use Rattle.std.proofs.lemmas.List.Folds.{list_any-append}
use Rattle.svc_values.specs.declared.entry.Ltxid.{Ltxid}
use Rattle.svc_values.specs.declared.entry.SessionId.{SessionId}
use Rattle.svc_values.specs.declared.frame.Up.{Up}
use Rattle.svc_values.specs.declared.frame.Up.TheVariants as up
use Rattle.svc_values.specs.meaning.Identifiers.{same_session, session_of}
use Rattle.client_model.specs.declared.input.Input.TheVariants.{Took}
use Rattle.run_clauses.specs.meaning.Reports.{reached}
use Rattle.world_model.specs.meaning.Clients.{Step}
use Rattle.world_model.specs.meaning.Frames.{Owner, Sent, Reply}
use Rattle.world_model.specs.meaning.Links.{Link, sends, takes, told_by}
use Rattle.world_model.specs.Parts.{implies}
use Rattle.world_model.specs.Sames.{owned_by}
use Rattle.world_model.proofs.Offered.{sends_alike, session_self}

-- WHAT IS TOLD ------------------------------------------------------------------------------------

abbrev pub is_reached : SessionId → Step → Bool
is_reached session step = option_map_or (same_session session) (reached step.done.input) false

abbrev pub reaches : List Step → SessionId → Bool
reaches steps session = list_any (is_reached session) steps

-- a frame of a request that goes on behind Hello
abbrev pub is_talk : Up → Bool
is_talk up.Connect = false
is_talk up.Close = false
is_talk _ = true

abbrev pub talks_of : Owner → Sent → Bool
talks_of owner sent = owned_by owner sent && is_talk sent.frame

abbrev pub has_spoken : Owner → List Sent → Bool
has_spoken owner sents = list_any (talks_of owner) sents

abbrev pub told_on : Owner → List Step → Link → Bool
told_on owner steps link = implies (has_spoken owner link.sent) (option_map_or (λ x. reaches steps (session_of x)) link.held false)

-- ONE CONNECTION ----------------------------------------------------------------------------------

-- what becomes of the identifier that is held
pub data Holding (was next : Link) : Type 0 where
  AsHeld : next.held ≡ was.held → next.sent ≡ was.sent → Holding was next
  Says : (frames : List Sent) → next.held ≡ was.held → next.sent ≡ was.sent ++ frames → Holding was next
  TakesOne : (frames : List Sent) (reply : Reply) → next.held ≡ option_or (told_by (Took reply.frame was.is_open)) was.held → next.session ≡ was.session → next.sent ≡ was.sent ++ frames → Holding was next

pub taken_holding : (event : ℕ) (frames : List Sent) (reply : Reply) (later : List Reply) (link : Link) → Holding link (sends event frames (takes (Took reply.frame link.is_open) reply later link))
taken_holding event frames reply later link =
    TakesOne frames reply (sends_alike (λ l. l.held ≡ option_or (told_by (Took reply.frame link.is_open)) link.held) event frames (takes (Took reply.frame link.is_open) reply later link) refl refl)
    (sends_alike (λ l. l.session ≡ link.session) event frames (takes (Took reply.frame link.is_open) reply later link) refl refl)
    (sends_alike (λ l. l.sent ≡ link.sent ++ frames) event frames (takes (Took reply.frame link.is_open) reply later link) refl refl)

pub held_some : (steps : List Step) (found : Option Ltxid) → option_map_or (λ x. reaches steps (session_of x)) found false ≡ true → (x : Ltxid) × (found ≡ Some x) × (reaches steps (session_of x) ≡ true)
held_some steps None here = absurd (let none : ⊥ = cc in none)
held_some steps (Some x) here = (x, refl, here)

-- a connection on which the request has spoken holds an identifier of a session that it was told
pub holds_still : (steps : List Step) (was next : Link) → ((x : Ltxid) → was.held ≡ Some x → was.session ≡ Some (session_of x)) → ((x : Ltxid) → next.held ≡ Some x → next.session ≡ Some (session_of x)) → Holding was next
    → option_map_or (λ x. reaches steps (session_of x)) was.held false ≡ true → option_map_or (λ x. reaches steps (session_of x)) next.held false ≡ true
holds_still steps was next was_its next_its (AsHeld held sent) here = ap (λ (found : Option Ltxid). option_map_or (λ x. reaches steps (session_of x)) found false) held ∙ here
holds_still steps was next was_its next_its (Says frames held sent) here = ap (λ (found : Option Ltxid). option_map_or (λ x. reaches steps (session_of x)) found false) held ∙ here
holds_still steps was next was_its next_its (TakesOne frames reply held session sent) here = by (told_by (Took reply.frame was.is_open)) refl
  where
    old : (x : Ltxid) × (was.held ≡ Some x) × (reaches steps (session_of x) ≡ true)
    old = held_some steps was.held here

    by : (told : Option Ltxid) → told_by (Took reply.frame was.is_open) ≡ told → option_map_or (λ x. reaches steps (session_of x)) next.held false ≡ true
    by None is = ap (λ (found : Option Ltxid). option_map_or (λ x. reaches steps (session_of x)) found false) (held ∙ ap (λ (t : Option Ltxid). option_or t was.held) is) ∙ here
    by (Some y) is =
        let now : next.held ≡ Some y = held ∙ ap (λ (t : Option Ltxid). option_or t was.held) is in
        let both : Some (session_of old.0) ≡ Some (session_of y) = sym (was_its old.0 old.1) ∙ (sym session ∙ next_its y now) in
        let same : session_of old.0 ≡ session_of y = cc in
        ap (λ (found : Option Ltxid). option_map_or (λ x. reaches steps (session_of x)) found false) now ∙ subst (λ (s : SessionId). reaches steps s ≡ true) same old.2

-- as more steps are taken
pub reaches_more : (steps more : List Step) (held : Option Ltxid) → option_map_or (λ x. reaches steps (session_of x)) held false ≡ true → option_map_or (λ x. reaches (steps ++ more) (session_of x)) held false ≡ true
reaches_more steps more None here = absurd (let none : ⊥ = cc in none)
reaches_more steps more (Some x) here = list_any-append (is_reached (session_of x)) steps more ∙ or_left (reaches steps (session_of x)) (reaches more (session_of x)) here

-- the step that brought it
pub reaches_now : (steps : List Step) (one : Step) (more : List Step) (x : Ltxid) → reached one.done.input ≡ Some (session_of x) → reaches (steps ++ one ∷ more) (session_of x) ≡ true
reaches_now steps one more x is =
    list_any-append (is_reached (session_of x)) steps (one ∷ more)
    ∙ or_right (reaches steps (session_of x)) (reaches (one ∷ more) (session_of x))
    (or_left (is_reached (session_of x) one) (reaches more (session_of x)) (ap (λ (found : Option SessionId). option_map_or (same_session (session_of x)) found false) is ∙ session_self (session_of x)))
