-- Results of code, beside what the definitions give. Memory may always run out.
use Rattle.std.specs.Prelude.{◌≡◌, ℕ, ◌≤◌, Bool, false, length, drop, List, Option, Some, Result, Ok, Err}
use Rattle.svc_values.specs.declared.draw.Draw.{Draw}
use Rattle.svc_values.specs.declared.answer.StatementFault.{StatementFault}
use Rattle.stmt_meaning.specs.declared.plan.Plan.{Plan}
use Rattle.svc_values.specs.declared.tables.PlainRow.{PlainRow}
use Rattle.svc_values.specs.declared.answer.Answer.{Answer}
use Rattle.svc_values.specs.meaning.Tables.{with_writes}
use Rattle.stmt_meaning.specs.meaning.Meaning.{AllDone}
use Rattle.stmt_meaning.specs.declared.planning.PlanFault.{PlanFault}
use Rattle.stmt_meaning.specs.declared.planning.PlanFault.TheVariants as plan_fault

abbrev pub IsRefusedAs : PlanFault → Result Plan StatementFault → Type 0
IsRefusedAs plan_fault.NoMemory planned = Unit {0}
IsRefusedAs (plan_fault.Refused refusal) planned = planned ≡ Err refusal

-- the plan, or the fault that refuses it
abbrev pub IsPlanned : Result Plan PlanFault → Result Plan StatementFault → Type 0
IsPlanned (Ok asked) planned = planned ≡ Ok asked
IsPlanned (Err e) planned = IsRefusedAs e planned

-- Statements did this: their answers, the rows after them where none was refused, and how many
-- draws they used.
pub record HaveDone (done : AllDone) (tables : List PlainRow) (draws : List Draw)
    (answers : List Answer) (rows : List PlainRow) (used : ℕ) (is_refused : Bool) : Type 0 where
  pub answered : answers ≡ done.answers
  pub refusal : is_refused ≡ done.refused
  pub written : done.refused ≡ false → rows ≡ with_writes tables done.writes
  pub left : done.rest ≡ drop used draws
  pub within : used ≤ length draws

abbrev pub DidAll : Option AllDone → List PlainRow → List Draw → List Answer → List PlainRow → ℕ
    → Bool → Type 0
DidAll all tables draws answers rows used is_refused = (done : AllDone)
    × ((all ≡ Some done) × HaveDone done tables draws answers rows used is_refused)
