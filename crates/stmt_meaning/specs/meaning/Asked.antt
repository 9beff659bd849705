-- Which draws a call asks for: those of its operands, in the order in which these are read.
use Rattle.std.specs.Prelude.{List, [], ◌∷◌, flat_map}
use Rattle.svc_values.specs.declared.draw.Draw.{Draw}
use Rattle.svc_values.specs.declared.draw.DrawKind.{DrawKind}
use Rattle.svc_values.specs.declared.statement.Operand.{Operand}
use Rattle.svc_values.specs.declared.statement.Operand.TheVariants as operand
use Rattle.svc_values.specs.declared.statement.Statement.{Statement}
use Rattle.svc_values.specs.declared.call.Call.{Call}
use Rattle.svc_values.specs.declared.call.Call.TheVariants as call
use Rattle.svc_values.specs.meaning.Calls.{operands_of}

abbrev pub asked_by_operand : Operand → List DrawKind
asked_by_operand (operand.Draw asked) = asked ∷ []
asked_by_operand _ = []

abbrev pub asked_by_statement : Statement → List DrawKind
asked_by_statement statement = flat_map asked_by_operand (operands_of statement)

-- what a call asks for of which no statement is refused
abbrev pub asked_by_call : Call → List DrawKind
asked_by_call (call.Work statements commit) = flat_map asked_by_statement statements
asked_by_call _ = []
