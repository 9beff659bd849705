-- Calls.
-- Here is what contracts and proofs say of it besides.
use Rattle.svc_values.specs.Calls.{IsMade}
use Rattle.svc_values.specs.declared.call.Call.{Call}
use Rattle.svc_values.specs.declared.call.Call.TheVariants as call
use Rattle.canon_bytes.specs.TextBytes.{FitsName, FitsText}
use Rattle.canon_bytes.specs.Values.{FitsValue}
use Rattle.canon_bytes.specs.StatementBytes.{FitsStatements}

abbrev pub FitsCall : Call → Type 0
FitsCall (call.Work statements commit) = FitsStatements statements
    × IsMade (call.Work statements commit)
FitsCall (call.Set name value) = FitsName name × FitsValue value
FitsCall (call.Alter line) = FitsText line
FitsCall _ = Unit {0}
