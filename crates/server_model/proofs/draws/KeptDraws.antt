-- The kept draw that a walk takes is the one that the source gives.
use Rattle.std.specs.Prelude.{◌≡◌, ◌&&◌, ℕ, Bool, true, false, List, [], ◌∷◌, map, filter, Option, Some, None, if◌then◌else◌}
use Rattle.std.proofs.Common.{refl, ◌∙◌, ap}
use Rattle.svc_values.specs.declared.draw.Draw.{Draw}
use Rattle.svc_values.specs.declared.draw.Draw.TheVariants as draw
use Rattle.svc_values.specs.meaning.Draws.{is_of_kind}
use Rattle.mutable_values.specs.Sources.{Opening, first_kept, without_first}
use Rattle.mutable_values.specs.meaning.Granting.{is_granted, is_kept_sequence}
use Rattle.mutable_values.specs.Granting.{granted_of}
use Rattle.server_model.specs.meaning.Base.{Base}
use Rattle.server_model.specs.meaning.Core.{sequence_at}
use Rattle.stmt_meaning.specs.Asked.{kind_drawn}
use Rattle.server_model.specs.Draws.{brought}
use Rattle.server_model.specs.meaning.NewValues.{Origin, Kept, New, origin_of, of_one_kind, and_before, grants, kept_by}

-- the source's first kept draw, as an origin
abbrev pub origin_by : Option Draw → List Draw → Origin
origin_by None left = New
origin_by (Some one) left = Kept one left

kinds-same : (one given : Draw) → of_one_kind one given ≡ is_of_kind (kind_drawn given) one
kinds-same (draw.Seq a m) (draw.Seq b n) = refl
kinds-same (draw.Seq a m) (draw.Clock tick) = refl
kinds-same (draw.Seq a m) (draw.Id id) = refl
kinds-same (draw.Clock s) (draw.Seq b n) = refl
kinds-same (draw.Clock s) (draw.Clock tick) = refl
kinds-same (draw.Clock s) (draw.Id id) = refl
kinds-same (draw.Id x) (draw.Seq b n) = refl
kinds-same (draw.Id x) (draw.Clock tick) = refl
kinds-same (draw.Id x) (draw.Id id) = refl

before-by : (one : Draw) (found : Option Draw) (left : List Draw) → and_before one (origin_by found left) ≡ origin_by found (one ∷ left)
before-by one None left = refl
before-by one (Some first) left = refl

pub kept-origin : (given : Draw) (kept : List Draw) → origin_of given kept ≡ origin_by (first_kept (kind_drawn given) kept) (without_first (kind_drawn given) kept)
kept-origin given [] = refl
kept-origin given (one ∷ kept) = ap (λ b. if b then Kept one kept else and_before one (origin_of given kept)) (kinds-same one given) ∙ by (kept-origin given kept) (is_of_kind (kind_drawn given) one)
  where
    by : origin_of given kept ≡ origin_by (first_kept (kind_drawn given) kept) (without_first (kind_drawn given) kept) → (b : Bool)
        → (if b then Kept one kept else and_before one (origin_of given kept)) ≡ origin_by (if b then Some one else first_kept (kind_drawn given) kept) (if b then kept else one ∷ without_first (kind_drawn given) kept)
    by inner true = refl
    by inner false = ap (and_before one) inner ∙ before-by one (first_kept (kind_drawn given) kept) (without_first (kind_drawn given) kept)

-- ---- the kept draws that are granted

-- the base keeps the sequences that the opening does
abbrev pub SameKept : Base → Opening → Type 0
SameKept base opening = (name : List ℕ) → is_kept_sequence (map sequence_at base.sequences) name ≡ is_kept_sequence opening.sequences name

granted-same : (base : Base) (opening : Opening) → SameKept base opening → (one : Draw) → grants base one ≡ is_granted base.grants opening.sequences one
granted-same base opening same (draw.Seq name value) = ap (λ b. base.grants.seq && b) (same name)
granted-same base opening same (draw.Clock tick) = refl
granted-same base opening same (draw.Id id) = refl

filter-same : (base : Base) (opening : Opening) → SameKept base opening → (kept : List Draw) → filter (grants base) kept ≡ granted_of base.grants opening.sequences kept
filter-same base opening same [] = refl
filter-same base opening same (one ∷ kept) =
    (λ i. if granted-same base opening same one i then one ∷ filter (grants base) kept else filter (grants base) kept) ∙ (λ i. if is_granted base.grants opening.sequences one then one ∷ filter-same base opening same kept i else filter-same base opening same kept i)

pub kept-brought : (base : Base) (opening : Opening) → SameKept base opening → (replay : Bool) (kept : List Draw) → kept_by base replay kept ≡ brought base.grants opening replay kept
kept-brought base opening same true kept = filter-same base opening same kept
kept-brought base opening same false kept = refl
