-- Answers, and why a statement was refused.
-- Here is what contracts and proofs say of it besides.
use Rattle.std.specs.Prelude.{List}
use Rattle.svc_values.specs.declared.value.Value.{Value}
use Rattle.svc_values.specs.declared.answer.StatementFault.{StatementFault}
use Rattle.svc_values.specs.declared.answer.Answer.{Answer}
use Rattle.svc_values.specs.declared.answer.Answer.TheVariants.{Done, Rows, Number}
use Rattle.canon_bytes.specs.Numbers.{FitsU64, FitsI64}
use Rattle.canon_bytes.specs.Lists.{FitsList, FitsListed}
use Rattle.canon_bytes.specs.Values.{FitsRow}

abbrev pub FitsRows : List (List Value) → Type 0
FitsRows rows = FitsList FitsRow 32 rows

abbrev pub FitsFault : StatementFault → Type 0
FitsFault _ = Unit {0}

abbrev pub FitsAnswer : Answer → Type 0
FitsAnswer (Done count) = FitsU64 count
FitsAnswer (Rows rows) = FitsRows rows
FitsAnswer (Number n) = FitsI64 n
FitsAnswer _ = Unit {0}

abbrev pub FitsAnswers : List Answer → Type 0
FitsAnswers answers = FitsListed FitsAnswer answers
