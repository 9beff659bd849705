-- What a plan answers and writes, from the rows at its one place.
use Rattle.std.specs.Prelude.{ℕ, ℤ, pos, negsuc, ◌+ℤ◌, ◌^◌, Bool, List, [], ◌∷◌, Option, Some, None, length, nat_lt, slice_set, slice_get, if◌then◌else◌}
use Rattle.svc_values.specs.declared.value.Value.{Value}
use Rattle.svc_values.specs.declared.value.Value.TheVariants as value
use Rattle.svc_values.specs.declared.answer.Answer.{Answer}
use Rattle.svc_values.specs.declared.answer.Answer.TheVariants as answer
use Rattle.svc_values.specs.declared.answer.StatementFault.{StatementFault}
use Rattle.svc_values.specs.declared.answer.StatementFault.TheVariants as fault
use Rattle.stmt_meaning.specs.declared.effect.Effect.{Effect}
use Rattle.stmt_meaning.specs.declared.plan.Plan.{Plan}
use Rattle.stmt_meaning.specs.declared.plan.Plan.TheVariants as plan
use Rattle.stmt_meaning.specs.declared.plan.RowWork.{RowWork}
use Rattle.stmt_meaning.specs.declared.plan.RowWork.TheVariants as row_work
use Rattle.stmt_meaning.specs.declared.plan.TableWork.{TableWork}
use Rattle.stmt_meaning.specs.declared.plan.TableWork.TheVariants as table_work
use Rattle.svc_values.specs.meaning.Tests.{selected}

-- an integer of 64 bits
abbrev pub fits_i64 : ℤ → Bool
fits_i64 (pos n) = nat_lt n (2 ^ 63)
fits_i64 (negsuc n) = nat_lt n (2 ^ 63)

abbrev pub number_of : Option Value → ℤ
number_of (Some (value.Int n)) = n
number_of _ = pos 0

-- the integer in a column of a row
abbrev pub number_at : List Value → ℕ → ℤ
number_at row at = number_of (slice_get row at)

abbrev pub total : ℕ → List (List Value) → ℤ
total at [] = pos 0
total at (first ∷ rest) = number_at first at +ℤ total at rest

abbrev pub only : Answer → Effect
only a = record { answer = a; write = None }

abbrev pub refused : StatementFault → Effect
refused refusal = only (answer.Refused refusal)

-- one row was written, or taken away
abbrev pub wrote : List ℕ → Value → Option (List Value) → Effect
wrote table key row = record {
  answer = answer.Done 1;
  write = Some (record { table = table; key = key; row = row });
}

abbrev pub added : List ℕ → Value → ℕ → List Value → ℤ → Effect
added table key at row sum = if fits_i64 sum then
    wrote table key (Some (slice_set row at (value.Int sum))) else refused fault.SumRange

-- On the row of a key. A missing row is nothing to change, and an insert wants none there.
abbrev pub row_effect : List ℕ → Value → RowWork → Option (List Value) → Effect
row_effect table key (row_work.Insert row) None = wrote table key (Some row)
row_effect table key (row_work.Insert row) (Some there) = refused fault.DuplicateKey
row_effect table key (row_work.Set at to) None = only (answer.Done 0)
row_effect table key (row_work.Set at to) (Some there) =
    wrote table key (Some (slice_set there at to))
row_effect table key (row_work.Add at by) None = only (answer.Done 0)
row_effect table key (row_work.Add at by) (Some there) =
    added table key at there (number_at there at +ℤ by)
row_effect table key row_work.Delete None = only (answer.Done 0)
row_effect table key row_work.Delete (Some there) = wrote table key None
row_effect table key row_work.Get None = only (answer.Rows [])
row_effect table key row_work.Get (Some there) = only (answer.Rows (there ∷ []))

abbrev pub limited : List (List Value) → Answer
limited rows = if nat_lt 32 (length rows) then answer.Refused fault.TooManyRows else
    answer.Rows rows

abbrev pub summed : ℤ → Answer
summed sum = if fits_i64 sum then answer.Number sum else answer.Refused fault.SumRange

-- From all rows of a table, in order of key. Nothing is written.
abbrev pub table_answer : TableWork → List (List Value) → Answer
table_answer (table_work.Select at compared than) rows = limited (selected at compared than rows)
table_answer table_work.Count rows = answer.Number (pos (length rows))
table_answer (table_work.Sum at) rows = summed (total at rows)

abbrev pub first_of : List (List Value) → Option (List Value)
first_of [] = None
first_of (row ∷ more) = Some row

-- From the rows at the plan's place: those of its table, or the one of its key.
abbrev pub effect : Plan → List (List Value) → Effect
effect (plan.AtRow table key work) rows = row_effect table key work (first_of rows)
effect (plan.InTable table work) rows = only (table_answer work rows)
effect (plan.Show shown) rows = only (answer.Rows ((shown ∷ []) ∷ []))
