-- Operands, changes and tests.
use Rattle.std.specs.Prelude.{ℕ, suc, ◌==◌, List, [], ◌∷◌, length, Result, Ok, Err, if◌then◌else◌}
use Rattle.svc_values.specs.declared.statement.Operand.{Operand}
use Rattle.svc_values.specs.declared.statement.Operand.TheVariants as operand
use Rattle.svc_values.specs.declared.statement.Change.{Change}
use Rattle.svc_values.specs.declared.statement.Change.TheVariants as change
use Rattle.svc_values.specs.declared.statement.Test.{Test}
use Rattle.svc_values.specs.declared.statement.Test.TheVariants as test
use Rattle.canon_bytes.specs.meaning.TextBytes.{spell_bytes, name_at}
use Rattle.canon_bytes.specs.meaning.Lists.{spell_list, list_at}
use Rattle.canon_bytes.specs.meaning.Values.{spell_value, value_at}
use Rattle.canon_bytes.specs.meaning.Draws.{spell_draw_kind, draw_kind_at}
use Rattle.canon_bytes.specs.meaning.Reading.{◌>>=◌}
use Rattle.canon_bytes.specs.declared.fault.Fault.{Fault}
use Rattle.canon_bytes.specs.declared.fault.Fault.TheVariants.{Short, BadTag}

abbrev pub spell_operand : Operand → List ℕ
spell_operand (operand.Lit value) = 1 ∷ spell_value value
spell_operand (operand.Var name) = 2 ∷ spell_bytes name
spell_operand (operand.Draw drawn) = 3 ∷ spell_draw_kind drawn

unfoldable pub operand_at : List ℕ → Result (Operand × List ℕ) Fault
operand_at [] = Err Short
operand_at (tag ∷ rest) =
    if tag == 1 then (value_at rest >>= λ value. Ok (operand.Lit value.0, value.1))
    else (if tag == 2 then (name_at rest >>= λ name. Ok (operand.Var name.0, name.1))
    else (if tag == 3 then (draw_kind_at rest >>= λ drawn. Ok (operand.Draw drawn.0, drawn.1))
    else Err (BadTag (suc (length rest)))))

-- a list of at most eight operands
abbrev pub spell_operands : List Operand → List ℕ
spell_operands operands = spell_list spell_operand operands

abbrev pub operands_at : List ℕ → Result (List Operand × List ℕ) Fault
operands_at bytes = list_at operand_at 8 bytes

abbrev pub spell_change : Change → List ℕ
spell_change (change.To to) = 1 ∷ spell_operand to
spell_change (change.Plus by) = 2 ∷ spell_operand by

unfoldable pub change_at : List ℕ → Result (Change × List ℕ) Fault
change_at [] = Err Short
change_at (tag ∷ rest) =
    if tag == 1 then (operand_at rest >>= λ to. Ok (change.To to.0, to.1))
    else (if tag == 2 then (operand_at rest >>= λ by. Ok (change.Plus by.0, by.1))
    else Err (BadTag (suc (length rest))))

abbrev pub spell_test : Test → List ℕ
spell_test test.Eq = 1 ∷ []
spell_test test.Lt = 2 ∷ []
spell_test test.Ge = 3 ∷ []

unfoldable pub test_at : List ℕ → Result (Test × List ℕ) Fault
test_at [] = Err Short
test_at (tag ∷ rest) =
    if tag == 1 then Ok (test.Eq, rest)
    else (if tag == 2 then Ok (test.Lt, rest)
    else (if tag == 3 then Ok (test.Ge, rest)
    else Err (BadTag (suc (length rest)))))
