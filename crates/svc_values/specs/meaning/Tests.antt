-- The test of a select.
use Rattle.std.specs.Prelude.{ℕ, Bool, true, false, List, Option, Some, None, filter, slice_get}
use Rattle.std.specs.Ordering.{match_ordering}
use Rattle.std.specs.declared.cmp.Ordering.{Ordering}
use Rattle.svc_values.specs.declared.statement.Test.{Test}
use Rattle.svc_values.specs.declared.statement.Test.TheVariants as test
use Rattle.svc_values.specs.declared.value.Value.{Value}
use Rattle.svc_values.specs.meaning.Order.{value_cmp}

-- a comparison with this outcome meets the test
abbrev pub meets : Test → Ordering → Bool
meets test.Eq order = match_ordering order false true false
meets test.Lt order = match_ordering order true false false
meets test.Ge order = match_ordering order false true true

abbrev pub value_meets : Test → Value → Option Value → Bool
value_meets compared than None = false
value_meets compared than (Some x) = meets compared (value_cmp x than)

-- the rows whose value in the column meets the test
abbrev pub selected : ℕ → Test → Value → List (List Value) → List (List Value)
selected at compared than rows = filter (λ row. value_meets compared than (slice_get row at)) rows
