-- A select over committed rows with a transaction's own over them.
use Rattle.std.specs.Prelude.{ℕ, List, Option, Some, None, slice_get, if◌then◌else◌}
use Rattle.std.specs.Option.{option_or}
use Rattle.std.specs.Ordering.{is_eq}
use Rattle.svc_values.specs.declared.answer.Answer.{Answer}
use Rattle.svc_values.specs.declared.answer.Answer.TheVariants as answer
use Rattle.svc_values.specs.declared.answer.StatementFault.TheVariants as fault
use Rattle.svc_values.specs.declared.statement.Test.{Test}
use Rattle.svc_values.specs.declared.value.Value.{Value}
use Rattle.svc_values.specs.meaning.Order.{value_cmp}
use Rattle.svc_values.specs.meaning.Tests.{value_meets}

-- the answer of a select that found these rows, or more than it may answer
abbrev pub select_answer : Option (List (List Value)) → Answer
select_answer None = answer.Refused fault.TooManyRows
select_answer (Some rows) = answer.Rows rows

-- the row, if there is one and it meets the test
abbrev pub if_met : ℕ → Test → Value → Option (List Value) → Option (List Value)
if_met column compared than None = None
if_met column compared than (Some row) =
    if value_meets compared than (slice_get row column) then Some row else None

-- what is found at q, once a row that meets the test was put in at the key
abbrev pub with_own : ℕ → Test → Value → Option (List Value) → Value → Option (List Value) → Value
    → Option (List Value)
with_own column compared than row key found q =
    if is_eq (value_cmp key q) then option_or (if_met column compared than row) found else found
