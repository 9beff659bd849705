-- Statements.
use Rattle.std.specs.Prelude.{ℕ, suc, ◌==◌, List, [], ◌∷◌, ◌++◌, length, Result, Ok, Err, if◌then◌else◌}
use Rattle.svc_values.specs.declared.statement.Statement.{Statement}
use Rattle.svc_values.specs.declared.statement.Statement.TheVariants as statement
use Rattle.canon_bytes.specs.meaning.TextBytes.{spell_bytes, name_at}
use Rattle.canon_bytes.specs.meaning.Lists.{spell_list, list_at}
use Rattle.canon_bytes.specs.meaning.Operands.{spell_operand, spell_operands, spell_change, spell_test, operand_at, operands_at, change_at, test_at}
use Rattle.canon_bytes.specs.meaning.Reading.{◌>>=◌}
use Rattle.canon_bytes.specs.declared.fault.Fault.{Fault}
use Rattle.canon_bytes.specs.declared.fault.Fault.TheVariants.{Short, BadTag}

abbrev pub spell_statement : Statement → List ℕ
spell_statement (statement.Insert table values) = 1 ∷ (spell_bytes table ++ spell_operands values)
spell_statement (statement.Update table key column by) =
    2 ∷ (spell_bytes table ++ spell_operand key ++ spell_bytes column ++ spell_change by)
spell_statement (statement.Delete table key) = 3 ∷ (spell_bytes table ++ spell_operand key)
spell_statement (statement.Get table key) = 4 ∷ (spell_bytes table ++ spell_operand key)
spell_statement (statement.Select table column by compared) =
    5 ∷ (spell_bytes table ++ spell_bytes column ++ spell_test by ++ spell_operand compared)
spell_statement (statement.Count table) = 6 ∷ spell_bytes table
spell_statement (statement.Sum table column) = 7 ∷ (spell_bytes table ++ spell_bytes column)
spell_statement (statement.Show shown) = 8 ∷ spell_operand shown

-- what stands behind the tag of each statement
unfoldable pub insert_at : List ℕ → Result (Statement × List ℕ) Fault
insert_at bytes = do
  table ← name_at bytes
  values ← operands_at table.1
  Ok (statement.Insert table.0 values.0, values.1)

unfoldable pub update_at : List ℕ → Result (Statement × List ℕ) Fault
update_at bytes = do
  table ← name_at bytes
  key ← operand_at table.1
  column ← name_at key.1
  by ← change_at column.1
  Ok (statement.Update table.0 key.0 column.0 by.0, by.1)

unfoldable pub delete_at : List ℕ → Result (Statement × List ℕ) Fault
delete_at bytes = do
  table ← name_at bytes
  key ← operand_at table.1
  Ok (statement.Delete table.0 key.0, key.1)

unfoldable pub get_at : List ℕ → Result (Statement × List ℕ) Fault
get_at bytes = do
  table ← name_at bytes
  key ← operand_at table.1
  Ok (statement.Get table.0 key.0, key.1)

unfoldable pub select_at : List ℕ → Result (Statement × List ℕ) Fault
select_at bytes = do
  table ← name_at bytes
  column ← name_at table.1
  by ← test_at column.1
  compared ← operand_at by.1
  Ok (statement.Select table.0 column.0 by.0 compared.0, compared.1)

unfoldable pub sum_at : List ℕ → Result (Statement × List ℕ) Fault
sum_at bytes = do
  table ← name_at bytes
  column ← name_at table.1
  Ok (statement.Sum table.0 column.0, column.1)

unfoldable pub statement_at : List ℕ → Result (Statement × List ℕ) Fault
statement_at [] = Err Short
statement_at (tag ∷ rest) =
    if tag == 1 then insert_at rest
    else (if tag == 2 then update_at rest
    else (if tag == 3 then delete_at rest
    else (if tag == 4 then get_at rest
    else (if tag == 5 then select_at rest
    else (if tag == 6 then (name_at rest >>= λ table. Ok (statement.Count table.0, table.1))
    else (if tag == 7 then sum_at rest
    else (if tag == 8 then (operand_at rest >>= λ shown. Ok (statement.Show shown.0, shown.1))
    else Err (BadTag (suc (length rest))))))))))

-- a list of at most eight statements
abbrev pub spell_statements : List Statement → List ℕ
spell_statements statements = spell_list spell_statement statements

abbrev pub statements_at : List ℕ → Result (List Statement × List ℕ) Fault
statements_at bytes = list_at statement_at 8 bytes
