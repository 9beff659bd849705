-- Statements.
-- Here is what contracts and proofs say of it besides.
use Rattle.std.specs.Prelude.{List}
use Rattle.svc_values.specs.declared.statement.Statement.{Statement}
use Rattle.svc_values.specs.declared.statement.Statement.TheVariants as statement
use Rattle.canon_bytes.specs.TextBytes.{FitsName}
use Rattle.canon_bytes.specs.Lists.{FitsList}
use Rattle.canon_bytes.specs.Operands.{FitsOperand, FitsOperands, FitsChange}

abbrev pub FitsStatement : Statement → Type 0
FitsStatement (statement.Insert table values) = FitsName table × FitsOperands values
FitsStatement (statement.Update table key column by) = FitsName table × FitsOperand key
    × FitsName column × FitsChange by
FitsStatement (statement.Delete table key) = FitsName table × FitsOperand key
FitsStatement (statement.Get table key) = FitsName table × FitsOperand key
FitsStatement (statement.Select table column by compared) = FitsName table × FitsName column
    × FitsOperand compared
FitsStatement (statement.Count table) = FitsName table
FitsStatement (statement.Sum table column) = FitsName table × FitsName column
FitsStatement (statement.Show shown) = FitsOperand shown

abbrev pub FitsStatements : List Statement → Type 0
FitsStatements statements = FitsList FitsStatement 8 statements
