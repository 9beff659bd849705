-- Which rows a select answers, and how many.
use Rattle.std.specs.Prelude.{◌≡◌, ◌<◌, ◌≤◌, ℕ, zero, suc, Bool, true, false, List, Option, Some, None, filter, length, nat_lt, not, slice_get, if◌then◌else◌}
use Rattle.std.specs.declared.ops.Bound.{Bound}
use Rattle.std.specs.declared.ops.Bound.TheVariants.{Included, Excluded, Unbounded}
use Rattle.std.specs.Option.{is_some}
use Rattle.std.specs.BTreeMap.{BTreeMap, is_at}
use Rattle.std.specs.Map.{lookup}
use Rattle.svc_values.specs.declared.statement.Test.{Test}
use Rattle.svc_values.specs.declared.statement.Test.TheVariants as test
use Rattle.svc_values.specs.declared.value.Value.{Value}
use Rattle.svc_values.specs.meaning.Order.{value_cmp}
use Rattle.svc_values.specs.meaning.Tests.{value_meets}
use Rattle.table_store.specs.Rows.{Keyed}

-- all of these, where they are at most 32
abbrev pub at_most_32 : {A : Type 0} → List A → Option (List A)
at_most_32 rows = if nat_lt 32 (length rows) then None else Some rows

-- the rows whose value in the column meets the test, each with its key
abbrev pub meeting : ℕ → Test → Value → Keyed → Keyed
meeting column compared than rows = filter (λ entry. value_meets compared than
    (slice_get entry.1 column)) rows

-- where the values begin and end that meet a test
abbrev pub values_between : Test → Value → Bound Value × Bound Value
values_between test.Eq than = (Included than, Included than)
values_between test.Lt than = (Unbounded, Excluded than)
values_between test.Ge than = (Included than, Unbounded)

-- where the keys begin and end whose rows may meet a test in a column: the first column has the
-- keys
abbrev pub keys_sought : ℕ → Test → Value → Bound Value × Bound Value
keys_sought zero compared than = values_between compared than
keys_sought (suc column) compared than = (Unbounded, Unbounded)

-- whether the key is one of these
abbrev pub is_among : BTreeMap Value ℕ → Value → Bool
is_among keys key = is_some (lookup (is_at (value_cmp key)) keys.entries)

-- the rows whose keys are none of these
abbrev pub apart_from : BTreeMap Value ℕ → Keyed → Keyed
apart_from keys rows = filter (λ entry. not (is_among keys entry.0)) rows

-- all of the wanted rows are taken, or some of them where they are more than 32
abbrev pub TakesAll : Keyed → Keyed → Bool → Type 0
TakesAll wanted taken true = (taken ≡ wanted) × (length wanted ≤ 32)
TakesAll wanted taken false = 32 < length wanted
