-- The values that a call draws, one after the other.
use Rattle.std.specs.Prelude.{◌≡◌, ℕ, ℤ, Bool, List, [], ◌∷◌, Some, if◌then◌else◌}
use Rattle.svc_values.specs.declared.draw.Draw.{Draw}
use Rattle.svc_values.specs.declared.draw.DrawKind.{DrawKind}
use Rattle.stmt_meaning.specs.Asked.{kind_drawn}
use Rattle.mutable_values.specs.declared.source.Drawn.TheVariants as drawn
use Rattle.mutable_values.specs.declared.grants.Grants.{Grants}
use Rattle.mutable_values.specs.Granting.{granted_of}
use Rattle.mutable_values.specs.Sources.{Opening, HasRoom, draw_of, reserved_to}

-- the kept draws that a frame brings: with the mark those that are granted, without it none
abbrev pub brought : Grants → Opening → Bool → List Draw → List Draw
brought grants opening replay kept = if replay then granted_of grants opening.sequences kept else []

-- A value is drawn, of a source that has room. Where a block has to be set aside first, it is
-- stored, and the same draw then gives the value.
pub data Draws (kept : List Draw) (asked : DrawKind) (now : ℕ) : Opening → Draw → Opening
    → List Draw → Type 0 where
  Gives : (before after : Opening) (given : Draw) (left : List Draw) → HasRoom before
      → draw_of before kept asked now ≡ Some (record {
        answer = drawn.Value given;
        opening = after;
        kept = left;
      })
      → Draws kept asked now before given after left
  Reserves : (before between after : Opening) (name : List ℕ) (upto : ℤ) (same : List Draw)
      (given : Draw) (left : List Draw) → HasRoom before
      → draw_of before kept asked now ≡ Some (record {
        answer = drawn.Reserve name upto;
        opening = between;
        kept = same;
      })
      → draw_of (reserved_to between name upto) kept asked now ≡ Some (record {
        answer = drawn.Value given;
        opening = after;
        kept = left;
      })
      → Draws kept asked now before given after left

-- these were drawn, in order
abbrev pub DrawsAll : ℕ → Opening → List Draw → List Draw → Opening → List Draw → Type 0
DrawsAll now before kept [] after left = (after ≡ before) × (left ≡ kept)
DrawsAll now before kept (given ∷ more) after left =
    (between : Opening) × (rest : List Draw)
    × (Draws kept (kind_drawn given) now before given between rest
    × DrawsAll now between rest more after left)

-- The store stopped at the block of a sequence that is past its last one, of which a value was
-- asked for. The block stands or not, and nothing is drawn of it.
pub data HaltsAt (now : ℕ) (kept : List Draw) (asked : DrawKind) (before : Opening) : Opening
    → Type 0 where
  BlockLost : (name : List ℕ) (upto : ℤ) → draw_of before kept asked now ≡ Some (record {
    answer = drawn.Reserve name upto;
    opening = before;
    kept = kept;
  }) → HaltsAt now kept asked before before
  BlockStands : (name : List ℕ) (upto : ℤ) → draw_of before kept asked now ≡ Some (record {
    answer = drawn.Reserve name upto;
    opening = before;
    kept = kept;
  }) → HaltsAt now kept asked before (reserved_to before name upto)
