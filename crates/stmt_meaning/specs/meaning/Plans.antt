-- What a statement asks to be done, from its text and the values of its operands. No row is looked
-- at.
use Rattle.std.specs.Prelude.{ℕ, ◌==◌, Bool, List, [], Option, Some, None, Result, Ok, Err, slice_get, if◌then◌else◌}
use Rattle.svc_values.specs.declared.value.Value.{Value}
use Rattle.svc_values.specs.declared.value.Value.TheVariants as value
use Rattle.svc_values.specs.declared.value.Kind.TheVariants as kind
use Rattle.svc_values.specs.declared.schema.Column.{Column}
use Rattle.svc_values.specs.declared.schema.Schema.{Schema}
use Rattle.svc_values.specs.declared.schema.Shape.{Shape}
use Rattle.svc_values.specs.declared.draw.Draw.{Draw}
use Rattle.svc_values.specs.declared.statement.Change.{Change}
use Rattle.svc_values.specs.declared.statement.Change.TheVariants as change
use Rattle.svc_values.specs.declared.statement.Statement.{Statement}
use Rattle.svc_values.specs.declared.statement.Test.{Test}
use Rattle.svc_values.specs.declared.statement.Statement.TheVariants as statement
use Rattle.svc_values.specs.declared.answer.StatementFault.{StatementFault}
use Rattle.svc_values.specs.declared.answer.StatementFault.TheVariants as fault
use Rattle.svc_values.specs.meaning.Kinds.{kind_of, row_fits}
use Rattle.stmt_meaning.specs.declared.plan.Plan.{Plan}
use Rattle.stmt_meaning.specs.declared.plan.Plan.TheVariants as plan
use Rattle.stmt_meaning.specs.declared.plan.RowWork.{RowWork}
use Rattle.stmt_meaning.specs.declared.plan.RowWork.TheVariants as row_work
use Rattle.stmt_meaning.specs.declared.plan.TableWork.TheVariants as table_work
use Rattle.svc_values.specs.declared.tables.Place.{Place}
use Rattle.svc_values.specs.declared.tables.Place.TheVariants as place
use Rattle.stmt_meaning.specs.meaning.Operands.{Reading, ◌>>=◌, values_of}
use Rattle.svc_values.specs.meaning.Schemas.{schema_of, column_of, is_column_kind, key_fits, key_of}
use Rattle.svc_values.specs.meaning.Calls.{operands_of}
use Rattle.svc_values.specs.meaning.SettingsList.{NamedValues}

-- where a statement works: the columns of its table, and the place of the column that it names (0
-- where it names none)
pub record Aim : Type 0 where
  pub columns : List Column
  pub at : ℕ

abbrev pub in_table : Option Schema → (List Column → Result Aim StatementFault)
    → Result Aim StatementFault
in_table None next = Err fault.NoTable
in_table (Some schema) next = next schema.columns

abbrev pub whole : List Column → Result Aim StatementFault
whole columns = Ok (record { columns = columns; at = 0 })

abbrev pub at_column : List Column → Option ℕ → Result Aim StatementFault
at_column columns None = Err fault.NoColumn
at_column columns (Some at) = Ok (record { columns = columns; at = at })

abbrev pub in_column : List ℕ → List Column → Result Aim StatementFault
in_column name columns = at_column columns (column_of columns name)

-- an update does not change the key
abbrev pub but_key : Result Aim StatementFault → Result Aim StatementFault
but_key (Err refusal) = Err refusal
but_key (Ok aim) = if aim.at == 0 then Err fault.KeyColumn else Ok aim

-- What is checked before an operand is read: the table, the column, and that an update's is not the
-- key.
abbrev pub aim_of : List Schema → Statement → Result Aim StatementFault
aim_of schemas (statement.Insert table operands) = in_table (schema_of schemas table) whole
aim_of schemas (statement.Update table key column by) =
    but_key (in_table (schema_of schemas table) (in_column column))
aim_of schemas (statement.Delete table key) = in_table (schema_of schemas table) whole
aim_of schemas (statement.Get table key) = in_table (schema_of schemas table) whole
aim_of schemas (statement.Select table column test operand) =
    in_table (schema_of schemas table) (in_column column)
aim_of schemas (statement.Count table) = in_table (schema_of schemas table) whole
aim_of schemas (statement.Sum table column) = in_table (schema_of schemas table) (in_column column)
aim_of schemas (statement.Show operand) = whole []

abbrev pub if_kinds_fit : Bool → Plan → Result Plan StatementFault
if_kinds_fit fits asked = if fits then Ok asked else Err fault.KindDiffers

-- (A statement has a value for each of its operands, so that none is missing in what follows.)
abbrev pub key_plan : Aim → List ℕ → RowWork → Option Value → Result Plan StatementFault
key_plan aim table work None = Err fault.KindDiffers
key_plan aim table work (Some key) = if_kinds_fit (key_fits aim.columns key)
    (plan.AtRow table key work)

abbrev pub set_plan : Aim → List ℕ → Option Value → Option Value → Result Plan StatementFault
set_plan aim table key None = Err fault.KindDiffers
set_plan aim table key (Some to) = if is_column_kind aim.columns aim.at (kind_of to) then
    key_plan aim table (row_work.Set aim.at to) key else Err fault.KindDiffers

-- a number is added, and to an integer
abbrev pub add_plan : Aim → List ℕ → Option Value → Option Value → Result Plan StatementFault
add_plan aim table key (Some (value.Int by)) =
    if is_column_kind aim.columns aim.at kind.Int then key_plan aim table (row_work.Add aim.at by)
    key else Err fault.KindDiffers
add_plan aim table key _ = Err fault.KindDiffers

abbrev pub change_plan : Aim → List ℕ → Change → Option Value → Option Value
    → Result Plan StatementFault
change_plan aim table (change.To operand) key to = set_plan aim table key to
change_plan aim table (change.Plus operand) key by = add_plan aim table key by

abbrev pub select_plan : Aim → List ℕ → Test → Option Value → Result Plan StatementFault
select_plan aim table test None = Err fault.KindDiffers
select_plan aim table test (Some than) =
    if_kinds_fit (is_column_kind aim.columns aim.at (kind_of than))
    (plan.InTable table (table_work.Select aim.at test than))

abbrev pub show_plan : Option Value → Result Plan StatementFault
show_plan None = Err fault.KindDiffers
show_plan (Some shown) = Ok (plan.Show shown)

-- What is to be done with the operands' values, if their kinds are the columns'.
abbrev pub plan_for : Aim → Statement → List Value → Result Plan StatementFault
plan_for aim (statement.Insert table operands) values =
    if_kinds_fit (row_fits aim.columns values)
    (plan.AtRow table (key_of values) (row_work.Insert values))
plan_for aim (statement.Update table key column by) values =
    change_plan aim table by (slice_get values 0) (slice_get values 1)
plan_for aim (statement.Delete table key) values =
    key_plan aim table row_work.Delete (slice_get values 0)
plan_for aim (statement.Get table key) values = key_plan aim table row_work.Get (slice_get values 0)
plan_for aim (statement.Select table column test operand) values =
    select_plan aim table test (slice_get values 0)
plan_for aim (statement.Count table) values = Ok (plan.InTable table table_work.Count)
plan_for aim (statement.Sum table column) values =
    if_kinds_fit (is_column_kind aim.columns aim.at kind.Int)
    (plan.InTable table (table_work.Sum aim.at))
plan_for aim (statement.Show operand) values = show_plan (slice_get values 0)

abbrev pub plan_at : Shape → NamedValues → Statement → List Draw → Result Aim StatementFault
    → Reading Plan
plan_at shape settings asked draws (Err refusal) = Some (Err refusal, draws)
plan_at shape settings asked draws (Ok aim) =
    values_of shape.sequences settings (operands_of asked) draws >>= λ values left.
    Some (plan_for aim asked values, left)

-- The checks in their order: the names, the operands from left to right, and then the kinds.
abbrev pub plan_of : Shape → NamedValues → Statement → List Draw → Reading Plan
plan_of shape settings asked draws = plan_at shape settings asked draws (aim_of shape.schemas asked)

-- the place that is read: a row, or a whole table, or none
abbrev pub place_of : Plan → Option Place
place_of (plan.AtRow table key work) = Some (place.Row table key)
place_of (plan.InTable table work) = Some (place.Table table)
place_of (plan.Show shown) = None
