-- The values of operands. Draws are taken from the front of a list, by kind and name.
use Rattle.std.specs.Prelude.{ℕ, pos, ◌^◌, ◌-◌, min, List, [], ◌∷◌, Option, Some, None, Result, Ok, Err, if◌then◌else◌}
use Rattle.svc_values.specs.declared.value.Value.{Value}
use Rattle.svc_values.specs.declared.value.Value.TheVariants as value
use Rattle.svc_values.specs.declared.draw.DrawKind.{DrawKind}
use Rattle.svc_values.specs.declared.draw.DrawKind.TheVariants as kind
use Rattle.svc_values.specs.declared.draw.Draw.{Draw}
use Rattle.svc_values.specs.declared.draw.Draw.TheVariants as draw
use Rattle.svc_values.specs.declared.statement.Operand.{Operand}
use Rattle.svc_values.specs.declared.statement.Operand.TheVariants as operand
use Rattle.svc_values.specs.declared.answer.StatementFault.{StatementFault}
use Rattle.svc_values.specs.declared.answer.StatementFault.TheVariants as fault
use Rattle.svc_values.specs.meaning.SettingsList.{NamedValues, setting_of}
use Rattle.svc_values.specs.meaning.Draws.{is_of_kind}
use Rattle.svc_values.specs.meaning.Names.{is_name_of}

-- the value that a draw stands for. A tick above the greatest integer stands for that one
abbrev pub drawn_value : Draw → Value
drawn_value (draw.Seq name n) = value.Int n
drawn_value (draw.Clock tick) = value.Int (pos (min tick (2 ^ 63 - 1)))
drawn_value (draw.Id id) = value.Bytes id

-- What reading gives: a value or the fault that refuses the statement, beside the draws that are
-- left; and nothing at all where the draws don't begin with the one that is asked for.
abbrev pub Reading : Type 0 → Type 0
Reading A = Option (Result A StatementFault × List Draw)

infixl 10 ◌>>=◌
abbrev pub ◌>>=◌ : {A B : Type 0} → Reading A → (A → List Draw → Reading B) → Reading B
None >>= next = None
Some (Err refusal, draws) >>= next = Some (Err refusal, draws)
Some (Ok x, draws) >>= next = next x draws

-- the first of the draws, where it is of the kind
abbrev pub take_draw : DrawKind → List Draw → Reading Value
take_draw asked [] = None
take_draw asked (first ∷ rest) = if is_of_kind asked first then Some (
  Ok (drawn_value first),
  rest,
) else None

-- what an operand stands for: a value that is there, or one that is to be drawn
pub data Wanted : Type 0 where
  Known : (known : Value) → Wanted
  Drawn : (asked : DrawKind) → Wanted

abbrev pub wanted_setting : Option Value → Result Wanted StatementFault
wanted_setting None = Err fault.NoVar
wanted_setting (Some x) = Ok (Known x)

abbrev pub wanted_draw : List (List ℕ) → DrawKind → Result Wanted StatementFault
wanted_draw sequences (kind.Seq name) = if is_name_of sequences name then
    Ok (Drawn (kind.Seq name)) else Err fault.NoSequence
wanted_draw sequences kind.Clock = Ok (Drawn kind.Clock)
wanted_draw sequences kind.Id = Ok (Drawn kind.Id)

-- A setting or a sequence that is not there refuses the statement, and then nothing is drawn.
abbrev pub wanted : List (List ℕ) → NamedValues → Operand → Result Wanted StatementFault
wanted sequences settings (operand.Lit x) = Ok (Known x)
wanted sequences settings (operand.Var name) = wanted_setting (setting_of settings name)
wanted sequences settings (operand.Draw asked) = wanted_draw sequences asked

abbrev pub taken : Result Wanted StatementFault → List Draw → Reading Value
taken (Err refusal) draws = Some (Err refusal, draws)
taken (Ok (Known x)) draws = Some (Ok x, draws)
taken (Ok (Drawn asked)) draws = take_draw asked draws

abbrev pub value_of : List (List ℕ) → NamedValues → Operand → List Draw → Reading Value
value_of sequences settings asked draws = taken (wanted sequences settings asked) draws

-- from left to right, up to the first that refuses
abbrev pub values_of : List (List ℕ) → NamedValues → List Operand → List Draw → Reading (List Value)
values_of sequences settings [] draws = Some (Ok [], draws)
values_of sequences settings (first ∷ rest) draws =
    value_of sequences settings first draws >>= λ x left. values_of
    sequences settings rest left >>= λ xs over. Some (Ok (x ∷ xs), over)
