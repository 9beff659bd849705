-- Changes of the rows that are kept.
use Rattle.std.specs.Prelude.{◌≡◌, ℕ, Bool, ◌&&◌, List, Option, if◌then◌else◌}
use Rattle.std.specs.Map.{update_all}
use Rattle.std.specs.Ordering.{nat_cmp, eq_by_cmp, is_eq}
use Rattle.std.specs.Cmp.Lexicographic.{slice_cmp}
use Rattle.svc_values.specs.declared.value.Value.{Value}
use Rattle.svc_values.specs.meaning.Order.{value_cmp}
use Rattle.table_store.specs.Rows.{Keyed, Shelves, row_kept}

-- the same table and key
abbrev pub is_place : List ℕ → Value → List ℕ → Value → Bool
is_place table key t k = is_eq (slice_cmp nat_cmp table t) && is_eq (value_cmp key k)

-- one key of one table has this row, or none, and the others have what they had
abbrev pub Changes : Shelves → List ℕ → Value → Option (List Value) → Shelves → Type 0
Changes old table key row new = (t : List ℕ) (k : Value)
    → row_kept new t k ≡ (if is_place table key t k then row else row_kept old t k)

-- one table has these rows in the places of their keys, put in one after the other, and the others
-- have what they had
abbrev pub ChangesAll : Shelves → List ℕ → Keyed → Shelves → Type 0
ChangesAll old table entries new = (t : List ℕ) (k : Value)
    → row_kept new t k ≡ (if is_eq (slice_cmp nat_cmp table t) then
    update_all (eq_by_cmp value_cmp) (row_kept old t) entries k else row_kept old t k)
