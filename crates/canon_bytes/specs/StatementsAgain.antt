-- What was written is read again, whatever follows: operands and statements.
use Rattle.std.proofs.Common.{◌≡◌, ℕ, List, ◌++◌, Ok, refl, append_assoc}
use Rattle.svc_values.specs.declared.statement.Operand.{Operand}
use Rattle.svc_values.specs.declared.statement.Operand.TheVariants as operand
use Rattle.svc_values.specs.declared.statement.Change.{Change}
use Rattle.svc_values.specs.declared.statement.Change.TheVariants as change
use Rattle.svc_values.specs.declared.statement.Test.{Test}
use Rattle.svc_values.specs.declared.statement.Test.TheVariants as test
use Rattle.svc_values.specs.declared.statement.Statement.{Statement}
use Rattle.svc_values.specs.declared.statement.Statement.TheVariants as statement
use Rattle.canon_bytes.specs.meaning.Operands.{spell_operand, spell_operands, spell_change, spell_test, operand_at, operands_at, change_at, test_at}
use Rattle.canon_bytes.specs.Operands.{FitsOperand, FitsOperands, FitsChange, FitsTest}
use Rattle.canon_bytes.specs.meaning.StatementBytes.{spell_statement, insert_at, update_at, delete_at, get_at, select_at, sum_at, statement_at}
use Rattle.canon_bytes.specs.StatementBytes.{FitsStatement}
use Rattle.canon_bytes.specs.Again.{name_again, list_again}
use Rattle.canon_bytes.specs.ValuesAgain.{value_again, draw_kind_again}

pub operand_again : (x : Operand) (rest : List ℕ) → FitsOperand x
    → operand_at (spell_operand x ++ rest) ≡ Ok (x, rest)
unfolding operand_at
operand_again (operand.Lit value) rest fits = rw (value_again value rest fits) refl
operand_again (operand.Var name) rest fits = rw (name_again name rest fits) refl
operand_again (operand.Draw drawn) rest fits = rw (draw_kind_again drawn rest fits) refl

pub change_again : (x : Change) (rest : List ℕ) → FitsChange x
    → change_at (spell_change x ++ rest) ≡ Ok (x, rest)
unfolding change_at
change_again (change.To to) rest fits = rw (operand_again to rest fits) refl
change_again (change.Plus by) rest fits = rw (operand_again by rest fits) refl

pub test_again : (x : Test) (rest : List ℕ) → FitsTest x
    → test_at (spell_test x ++ rest) ≡ Ok (x, rest)
unfolding test_at
test_again test.Eq rest fits = refl
test_again test.Lt rest fits = refl
test_again test.Ge rest fits = refl

operands_again : (xs : List Operand) (rest : List ℕ) → FitsOperands xs
    → operands_at (spell_operands xs ++ rest) ≡ Ok (xs, rest)
operands_again xs rest fits = list_again spell_operand FitsOperand operand_at operand_again
    8 xs rest fits

pub statement_again : (x : Statement) (rest : List ℕ) → FitsStatement x
    → statement_at (spell_statement x ++ rest) ≡ Ok (x, rest)
unfolding statement_at insert_at update_at delete_at get_at select_at sum_at
statement_again (statement.Insert table values) rest fits =
    simp append_assoc (rw (name_again table _ fits.0, operands_again values rest fits.1) refl)
statement_again (statement.Update table key column by) rest fits =
    simp append_assoc (rw (
      name_again table _ fits.0,
      operand_again key _ fits.1,
      name_again column _ fits.2,
      change_again by rest fits.3,
    ) refl)
statement_again (statement.Delete table key) rest fits =
    simp append_assoc (rw (name_again table _ fits.0, operand_again key rest fits.1) refl)
statement_again (statement.Get table key) rest fits =
    simp append_assoc (rw (name_again table _ fits.0, operand_again key rest fits.1) refl)
statement_again (statement.Select table column by x) rest fits =
    simp append_assoc (rw (
      name_again table _ fits.0,
      name_again column _ fits.1,
      test_again by _ tt,
      operand_again x rest fits.2,
    ) refl)
statement_again (statement.Count table) rest fits = rw (name_again table rest fits) refl
statement_again (statement.Sum table column) rest fits =
    simp append_assoc (rw (name_again table _ fits.0, name_again column rest fits.1) refl)
statement_again (statement.Show x) rest fits = rw (operand_again x rest fits) refl
