-- Which draws a call asks for as far as it is answered, in its settings: told from its text alone,
-- with no row and no drawn value.
use Rattle.std.specs.Prelude.{ℕ, Bool, true, false, List, [], ◌∷◌, flat_map, take, Result, Ok, Err}
use Rattle.svc_values.specs.declared.answer.Answer.{Answer}
use Rattle.svc_values.specs.declared.answer.Answer.TheVariants as answer
use Rattle.svc_values.specs.declared.answer.StatementFault.{StatementFault}
use Rattle.svc_values.specs.declared.answer.StatementFault.TheVariants as fault
use Rattle.svc_values.specs.declared.call.Call.{Call}
use Rattle.svc_values.specs.declared.call.Call.TheVariants as call
use Rattle.svc_values.specs.declared.draw.DrawKind.{DrawKind}
use Rattle.svc_values.specs.declared.schema.Shape.{Shape}
use Rattle.svc_values.specs.declared.statement.Operand.{Operand}
use Rattle.svc_values.specs.declared.statement.Statement.{Statement}
use Rattle.svc_values.specs.meaning.Calls.{operands_of}
use Rattle.svc_values.specs.meaning.Endings.{ends_with}
use Rattle.svc_values.specs.meaning.SettingsList.{NamedValues}
use Rattle.stmt_meaning.specs.meaning.Operands.{Wanted, Known, Drawn, wanted}
use Rattle.stmt_meaning.specs.meaning.Plans.{Aim, aim_of}

-- what is asked for before what comes behind an operand: nothing comes behind one that refuses
abbrev pub asked_before : Result Wanted StatementFault → List DrawKind → List DrawKind
asked_before (Err refusal) more = []
asked_before (Ok (Known x)) more = more
asked_before (Ok (Drawn asked)) more = asked ∷ more

-- what operands ask for, up to the first that refuses
abbrev pub asked_by_operands : List (List ℕ) → NamedValues → List Operand → List DrawKind
asked_by_operands sequences settings [] = []
asked_by_operands sequences settings (first ∷ rest) =
    asked_before (wanted sequences settings first) (asked_by_operands sequences settings rest)

-- a statement with a wrong name asks for nothing
abbrev pub asked_at : Shape → NamedValues → Statement → Result Aim StatementFault → List DrawKind
asked_at shape settings asked (Err refusal) = []
asked_at shape settings asked (Ok aim) =
    asked_by_operands shape.sequences settings (operands_of asked)

abbrev pub asked_in : Shape → NamedValues → Statement → List DrawKind
asked_in shape settings asked = asked_at shape settings asked (aim_of shape.schemas asked)

-- what those of a call's statements ask for that have an answer, of so many answers
abbrev pub asked_while : Shape → NamedValues → Call → ℕ → List DrawKind
asked_while shape settings (call.Work statements commit) count =
    flat_map (asked_in shape settings) (take count statements)
asked_while shape settings _ count = []

-- the last answer refuses a statement for a setting that is not there
abbrev pub is_unset : Answer → Bool
is_unset (answer.Refused fault.NoVar) = true
is_unset _ = false

abbrev pub ends_unset : List Answer → Bool
ends_unset answers = ends_with is_unset answers
