-- The last call on a connection, by what was sent last; and where a connection comes to its first
-- calls.
use Rattle.std.proofs.Common.{◌≡◌, refl, ap, ◌∙◌, Bool, true, false, ◌&&◌, ◌||◌, fold, filter, List, [], ◌∷◌, Option, Some, None, if◌then◌else◌}
use Rattle.std.specs.Prelude.{not, is_some, is_none}
use Rattle.std.specs.List.{list_all, list_any, last_or}
use Rattle.std.proofs.lemmas.Bool.{and_parts, and_from}
use Rattle.svc_values.specs.declared.frame.Up.{Up}
use Rattle.svc_values.specs.declared.frame.Up.TheVariants as up
use Rattle.world_model.specs.meaning.Frames.{Owner, Sent}
use Rattle.world_model.specs.meaning.Links.{Link}
use Rattle.world_model.specs.Parts.{is_unmarked}
use Rattle.world_model.specs.Sames.{owned_by, same_owners}
use Rattle.invariant_laws.specs.Shown.{is_call, has_unmarked}
use Rattle.world_model.proofs.Offered.{is_begin, behind, stage_is}
use Rattle.world_model.specs.records.Wire.{Stage, New, Greeted, Told, Repeated, Begun, Rested, Shut, Wrong, stage_if, is_alter, next_stage, stage_of, is_right}

-- the calls of a request among frames
abbrev pub row_of : Owner → List Sent → List Sent
row_of owner sents = filter (λ sent. owned_by owner sent && is_call sent.frame) sents

-- THE LAST ONE ------------------------------------------------------------------------------------

last_kept : (keep : Sent → Bool) (before other : Option Sent) (sents : List Sent) (last : Sent) → ((one : Sent) → before ≡ Some one → keep one ≡ true → other ≡ Some one)
    → last_or before sents ≡ Some last → keep last ≡ true → last_or other (filter keep sents) ≡ Some last
last_kept keep before other [] last follows is here = follows last is here
last_kept keep before other (sent ∷ sents) last follows is here =
    by (keep sent) refl (λ follows. last_kept keep (Some sent) (Some sent) sents last follows is here) (λ follows. last_kept keep (Some sent) other sents last follows is here)
  where
    by : (test : Bool) → keep sent ≡ test → (((one : Sent) → Some sent ≡ Some one → keep one ≡ true → Some sent ≡ Some one) → last_or (Some sent) (filter keep sents) ≡ Some last)
        → (((one : Sent) → Some sent ≡ Some one → keep one ≡ true → other ≡ Some one) → last_or other (filter keep sents) ≡ Some last)
        → last_or other (if test then sent ∷ filter keep sents else filter keep sents) ≡ Some last
    by true same with_it without = with_it (λ one is kept. is)
    by false differs with_it without =
        without (λ one is kept. let e : sent ≡ one = cc in absurd (let yes_is : keep sent ≡ true = ap keep e ∙ kept in let never : ⊥ = cc in never))

-- what was sent last is the last of the row, if it is one of its calls
pub last_row : (owner : Owner) (sents : List Sent) (last : Sent) → last_or None sents ≡ Some last → owned_by owner last ≡ true → is_call last.frame ≡ true → last_or None (row_of owner sents) ≡ Some last
last_row owner sents last is mine call =
    last_kept (λ sent. owned_by owner sent && is_call sent.frame) None None sents last (λ one never kept. absurd (let none : ⊥ = cc in none)) is (and_from (owned_by owner last) (is_call last.frame) mine call)

some_unmarked : (before : Option Sent) (calls : List Sent) (last : Sent) → (before ≡ Some last → list_any is_unmarked calls ≡ true) → last_or before calls ≡ Some last → is_unmarked last ≡ true → list_any is_unmarked calls ≡ true
some_unmarked before [] last follows is here = follows is
some_unmarked before (sent ∷ calls) last follows is here = by (is_unmarked sent) refl (λ follows. some_unmarked (Some sent) calls last follows is here)
  where
    by : (test : Bool) → is_unmarked sent ≡ test → ((Some sent ≡ Some last → list_any is_unmarked calls ≡ true) → list_any is_unmarked calls ≡ true) → (test || list_any is_unmarked calls) ≡ true
    by true same rest = refl
    by false differs rest = rest (λ is. let e : sent ≡ last = cc in absurd (let yes_is : is_unmarked sent ≡ true = ap is_unmarked e ∙ here in let never : ⊥ = cc in never))

pub last_unmarked : (calls : List Sent) (last : Sent) → last_or None calls ≡ Some last → is_unmarked last ≡ true → has_unmarked calls ≡ true
last_unmarked calls last is here = some_unmarked None calls last (λ never. absurd (let none : ⊥ = cc in none)) is here

-- BEFORE THE FIRST CALL ---------------------------------------------------------------------------

abbrev is_early : Stage → Bool
is_early New = true
is_early (Greeted owner) = true
is_early (Told owner) = true
is_early _ = false

-- an early stage comes of an early one, by no call
record CameEarly (stage : Stage) (frame : Up) : Type 0 where
  before : is_early stage ≡ true
  plain : is_call frame ≡ false

never_if : (test : Bool) (stage : Stage) → is_early stage ≡ false → is_early (stage_if test stage) ≡ false
never_if true stage is = is
never_if false stage is = refl

late : (stage next : Stage) (frame : Up) → is_early next ≡ false → is_early next ≡ true → CameEarly stage frame
late stage next frame is here = absurd (let none : ⊥ = cc in none)

came_early : (stage : Stage) (owner : Option Owner) (frame : Up) → is_early (next_stage stage owner frame) ≡ true → CameEarly stage frame
came_early New owner up.Connect here = record { before = refl; plain = refl }
came_early New owner (up.Begin settings) here = absurd (let none : ⊥ = cc in none)
came_early New owner (up.Call mark kept call) here = absurd (let none : ⊥ = cc in none)
came_early New owner (up.Outcome x) here = absurd (let none : ⊥ = cc in none)
came_early New owner up.End here = absurd (let none : ⊥ = cc in none)
came_early New owner up.Close here = absurd (let none : ⊥ = cc in none)
came_early (Greeted one) owner (up.Outcome x) here = record { before = refl; plain = refl }
came_early (Greeted one) owner up.Connect here = absurd (let none : ⊥ = cc in none)
came_early (Greeted one) owner (up.Begin settings) here = late (Greeted one) _ (up.Begin settings) (never_if (same_owners one owner) (Begun owner) refl) here
came_early (Greeted one) owner (up.Call mark kept call) here = absurd (let none : ⊥ = cc in none)
came_early (Greeted one) owner up.End here = absurd (let none : ⊥ = cc in none)
came_early (Greeted one) owner up.Close here = late (Greeted one) _ up.Close (never_if (same_owners one owner) Shut refl) here
came_early (Told one) owner (up.Begin settings) here = late (Told one) _ (up.Begin settings) (never_if (same_owners one owner) (Repeated owner) refl) here
came_early (Told one) owner up.End here = late (Told one) _ up.End (never_if (same_owners one owner) (Rested owner) refl) here
came_early (Told one) owner up.Close here = late (Told one) _ up.Close (never_if (same_owners one owner) Shut refl) here
came_early (Told one) owner up.Connect here = absurd (let none : ⊥ = cc in none)
came_early (Told one) owner (up.Call mark kept call) here = absurd (let none : ⊥ = cc in none)
came_early (Told one) owner (up.Outcome x) here = absurd (let none : ⊥ = cc in none)
came_early (Repeated one) owner (up.Call true kept call) here = late (Repeated one) _ (up.Call true kept call) (never_if (same_owners one owner && not (is_alter call)) (Repeated owner) refl) here
came_early (Repeated one) owner (up.Call false kept call) here = late (Repeated one) _ (up.Call false kept call) (never_if (same_owners one owner) (Begun owner) refl) here
came_early (Repeated one) owner up.End here = late (Repeated one) _ up.End (never_if (same_owners one owner) (Rested owner) refl) here
came_early (Repeated one) owner up.Close here = late (Repeated one) _ up.Close (never_if (same_owners one owner) Shut refl) here
came_early (Repeated one) owner up.Connect here = absurd (let none : ⊥ = cc in none)
came_early (Repeated one) owner (up.Begin settings) here = absurd (let none : ⊥ = cc in none)
came_early (Repeated one) owner (up.Outcome x) here = absurd (let none : ⊥ = cc in none)
came_early (Begun one) owner (up.Call false kept call) here = late (Begun one) _ (up.Call false kept call) (never_if (same_owners one owner) (Begun owner) refl) here
came_early (Begun one) owner up.End here = late (Begun one) _ up.End (never_if (same_owners one owner) (Rested owner) refl) here
came_early (Begun one) owner up.Close here = late (Begun one) _ up.Close (never_if (same_owners one owner) Shut refl) here
came_early (Begun one) owner (up.Call true kept call) here = absurd (let none : ⊥ = cc in none)
came_early (Begun one) owner up.Connect here = absurd (let none : ⊥ = cc in none)
came_early (Begun one) owner (up.Begin settings) here = absurd (let none : ⊥ = cc in none)
came_early (Begun one) owner (up.Outcome x) here = absurd (let none : ⊥ = cc in none)
came_early (Rested one) owner (up.Begin settings) here = late (Rested one) _ (up.Begin settings) (never_if (is_some owner && not (same_owners one owner)) (Begun owner) refl) here
came_early (Rested one) owner up.Close here = late (Rested one) _ up.Close (never_if (is_none owner || same_owners one owner) Shut refl) here
came_early (Rested one) owner up.Connect here = absurd (let none : ⊥ = cc in none)
came_early (Rested one) owner (up.Call mark kept call) here = absurd (let none : ⊥ = cc in none)
came_early (Rested one) owner (up.Outcome x) here = absurd (let none : ⊥ = cc in none)
came_early (Rested one) owner up.End here = absurd (let none : ⊥ = cc in none)
came_early Shut owner frame here = absurd (let none : ⊥ = cc in none)
came_early Wrong owner frame here = absurd (let none : ⊥ = cc in none)

abbrev stages : Stage → List Sent → Stage
stages stage sents = fold (λ stage sent. next_stage stage sent.owner sent.frame) stage sents

-- in an early stage no call was sent
record NoCalls (stage : Stage) (sents : List Sent) : Type 0 where
  before : is_early stage ≡ true
  none : list_all (λ sent. not (is_call sent.frame)) sents ≡ true

early_none : (stage : Stage) (sents : List Sent) → is_early (stages stage sents) ≡ true → NoCalls stage sents
early_none stage [] here = record { before = here; none = refl }
early_none stage (sent ∷ sents) here =
    let later : NoCalls (next_stage stage sent.owner sent.frame) sents = early_none (next_stage stage sent.owner sent.frame) sents here in
    let came : CameEarly stage sent.frame = came_early stage sent.owner sent.frame later.before in
    record { before = came.before; none = and_from (not (is_call sent.frame)) (list_all (λ s. not (is_call s.frame)) sents) (ap not came.plain) later.none }

no_row_of : (owner : Owner) (sents : List Sent) → list_all (λ sent. not (is_call sent.frame)) sents ≡ true → row_of owner sents ≡ []
no_row_of owner [] none = refl
no_row_of owner (sent ∷ sents) none =
    let parts = and_parts (not (is_call sent.frame)) (list_all (λ s. not (is_call s.frame)) sents) none in by (owned_by owner sent) (is_call sent.frame) parts.0 (no_row_of owner sents parts.1)
  where
    by : (mine call : Bool) → not call ≡ true → row_of owner sents ≡ [] → (if mine && call then sent ∷ row_of owner sents else row_of owner sents) ≡ []
    by mine true is rest = absurd (let none : ⊥ = cc in none)
    by true false is rest = rest
    by false false is rest = rest

-- the last frame opened it, or asked for an outcome
abbrev pub is_opening : Up → Bool
is_opening up.Connect = true
is_opening (up.Outcome x) = true
is_opening _ = false

early_opening : (owner : Option Owner) (frame : Up) → is_opening frame ≡ true → (is_begin frame ≡ false) × (is_early (behind frame owner) ≡ true)
early_opening owner up.Connect is = (refl, refl)
early_opening owner (up.Outcome x) is = (refl, refl)
early_opening owner (up.Begin settings) is = absurd (let none : ⊥ = cc in none)
early_opening owner (up.Call mark kept call) is = absurd (let none : ⊥ = cc in none)
early_opening owner up.End is = absurd (let none : ⊥ = cc in none)
early_opening owner up.Close is = absurd (let none : ⊥ = cc in none)

-- Where a connection was opened last, or an outcome asked, no call was sent on it.
pub opening_calls : (link : Link) (last : Sent) → last_or None link.sent ≡ Some last → is_opening last.frame ≡ true → is_right (stage_of link) ≡ true → list_all (λ sent. not (is_call sent.frame)) link.sent ≡ true
opening_calls link last is opens right =
    let early = early_opening last.owner last.frame opens in
    (early_none New link.sent (ap is_early (stage_is link last is early.0 right) ∙ early.1)).none

pub opening_none : (owner : Owner) (link : Link) (last : Sent) → last_or None link.sent ≡ Some last → is_opening last.frame ≡ true → is_right (stage_of link) ≡ true → row_of owner link.sent ≡ []
opening_none owner link last is opens right = no_row_of owner link.sent (opening_calls link last is opens right)
