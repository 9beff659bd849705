-- Operands, changes and tests.
-- Here is what contracts and proofs say of it besides.
use Rattle.std.specs.Prelude.{List}
use Rattle.svc_values.specs.declared.statement.Operand.{Operand}
use Rattle.svc_values.specs.declared.statement.Operand.TheVariants as operand
use Rattle.svc_values.specs.declared.statement.Change.{Change}
use Rattle.svc_values.specs.declared.statement.Change.TheVariants as change
use Rattle.svc_values.specs.declared.statement.Test.{Test}
use Rattle.canon_bytes.specs.TextBytes.{FitsName}
use Rattle.canon_bytes.specs.Lists.{FitsList}
use Rattle.canon_bytes.specs.Values.{FitsValue}
use Rattle.canon_bytes.specs.Draws.{FitsDrawKind}

abbrev pub FitsOperand : Operand → Type 0
FitsOperand (operand.Lit value) = FitsValue value
FitsOperand (operand.Var name) = FitsName name
FitsOperand (operand.Draw drawn) = FitsDrawKind drawn

abbrev pub FitsOperands : List Operand → Type 0
FitsOperands operands = FitsList FitsOperand 8 operands

abbrev pub FitsChange : Change → Type 0
FitsChange (change.To to) = FitsOperand to
FitsChange (change.Plus by) = FitsOperand by

abbrev pub FitsTest : Test → Type 0
FitsTest by = Unit {0}
