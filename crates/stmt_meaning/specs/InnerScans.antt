-- A select, a count or a sum on its way over the rows of a table.
use Rattle.std.specs.Prelude.{ℕ, pos, ◌+ℤ◌, Bool, true, false, List, [], ◌∷◌, ◌++◌, length, nat_lt, take, slice_get, if◌then◌else◌}
use Rattle.svc_values.specs.declared.value.Value.{Value}
use Rattle.svc_values.specs.declared.statement.Test.{Test}
use Rattle.svc_values.specs.declared.answer.Answer.{Answer}
use Rattle.svc_values.specs.declared.answer.Answer.TheVariants as answer
use Rattle.svc_values.specs.declared.answer.StatementFault.TheVariants as fault
use Rattle.stmt_meaning.specs.declared.plan.TableWork.{TableWork}
use Rattle.stmt_meaning.specs.declared.plan.TableWork.TheVariants as table_work
use Rattle.stmt_meaning.specs.declared.scan.Scan.{Scan}
use Rattle.stmt_meaning.specs.declared.scan.Scan.TheVariants as scan
use Rattle.svc_values.specs.meaning.Tests.{selected, value_meets}
use Rattle.stmt_meaning.specs.meaning.Effects.{number_at, total, summed}

-- what was found in these rows. Of the rows that meet a select's test the first 32 are kept
abbrev pub scanned : TableWork → List (List Value) → Scan
scanned (table_work.Select at test than) rows =
    scan.Select at test than (take 32 (selected at test than rows))
    (nat_lt 32 (length (selected at test than rows)))
scanned table_work.Count rows = scan.Count (pos (length rows))
scanned (table_work.Sum at) rows = scan.Sum at (total at rows)

abbrev pub with_met : ℕ → Test → Value → List (List Value) → Bool → List Value → Scan
with_met at test than met is_over row = if nat_lt (length met) 32 then
    scan.Select at test than (met ++ row ∷ []) is_over else scan.Select at test than met true

-- a row more
abbrev pub next_scan : Scan → List Value → Scan
next_scan (scan.Select at test than met is_over) row =
    if value_meets test than (slice_get row at) then with_met at test than met is_over row else
    scan.Select at test than met is_over
next_scan (scan.Count rows) row = scan.Count (rows +ℤ pos 1)
next_scan (scan.Sum at sum) row = scan.Sum at (sum +ℤ number_at row at)

abbrev pub answer_of : List (List Value) → Bool → Answer
answer_of met is_over = if is_over then answer.Refused fault.TooManyRows else answer.Rows met

-- the answer, once there is no row more
abbrev pub last_answer : Scan → Answer
last_answer (scan.Select at test than met is_over) = answer_of met is_over
last_answer (scan.Count rows) = answer.Number rows
last_answer (scan.Sum at sum) = summed sum

-- more rows met the select's test than it may answer
abbrev pub is_settled : Scan → Bool
is_settled (scan.Select at test than met is_over) = is_over
is_settled (scan.Count rows) = false
is_settled (scan.Sum at sum) = false
