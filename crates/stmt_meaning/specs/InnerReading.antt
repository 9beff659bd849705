-- What reading from a source comes to.
use Rattle.std.specs.Prelude.{◌≡◌, List, [], ◌++◌, Option, Some, Result, Ok, Err, option_map}
use Rattle.svc_values.specs.declared.draw.Draw.{Draw}
use Rattle.svc_values.specs.declared.answer.StatementFault.{StatementFault}
use Rattle.stmt_meaning.specs.Drawing.{Drew, DrewAll, Ends}
use Rattle.stmt_meaning.specs.meaning.Operands.{Reading}
use Rattle.stmt_meaning.specs.declared.stop.Stop.{Stop}
use Rattle.stmt_meaning.specs.declared.stop.Stop.TheVariants as stop

-- Reading came to a value or a fault of the statement: it took exactly some draws, which the source
-- gave one after the other, and they are put behind those before.
pub record ReadsAll {S A : Type 0} (drew : S → Drew → S → Type 0) (read : List Draw → Reading A)
    (old : S) (before : List Draw) (outcome : Result A StatementFault) (new : S)
    (after : List Draw) : Type 0 where
  pub given : List Draw
  pub drew_all : DrewAll drew old given new
  pub behind : after ≡ before ++ given
  pub reads : read given ≡ Some (outcome, [])

-- the draws that reading leaves of given ones
abbrev pub left_of : {A : Type 0} → (List Draw → Reading A) → List Draw → Option (List Draw)
left_of read draws = option_map (λ come. come.1) (read draws)

-- what reading from a source came to
abbrev pub HasRead : {S A : Type 0} → (S → Drew → S → Type 0) → (List Draw → Reading A) → S
    → List Draw → Result A Stop → S → List Draw → Type 0
HasRead drew read old before (Ok x) new after = ReadsAll drew read old before (Ok x) new after
HasRead drew read old before (Err (stop.Refused refusal)) new after =
    ReadsAll drew read old before (Err refusal) new after
HasRead drew read old before (Err (stop.Ended ended)) new after =
    Ends drew (left_of read) old ended new
