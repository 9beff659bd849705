-- The limits that calls keep to.
use Rattle.std.specs.Prelude.{◌&&◌, Bool, true, nat_le, length}
use Rattle.std.specs.List.{list_all}
use Rattle.svc_values.specs.declared.draw.DrawKind.TheVariants as kind
use Rattle.svc_values.specs.declared.statement.Operand.{Operand}
use Rattle.svc_values.specs.declared.statement.Operand.TheVariants as operand
use Rattle.svc_values.specs.declared.statement.Statement.{Statement}
use Rattle.svc_values.specs.declared.statement.Statement.TheVariants as statement
use Rattle.svc_values.specs.declared.call.Call.{Call}
use Rattle.svc_values.specs.declared.call.Call.TheVariants as call
use Rattle.svc_values.specs.meaning.Texts.{is_name}
use Rattle.report_text.specs.meaning.Calls.{changing}
use Rattle.report_limits.specs.meaning.Limits.{fits_line, fits_value}

abbrev pub fits_operand : Operand → Bool
fits_operand (operand.Lit x) = fits_value x
fits_operand (operand.Var name) = is_name name
fits_operand (operand.Draw (kind.Seq name)) = is_name name
fits_operand _ = true

-- names are names, and an insert has 1 to 8 operands
abbrev pub fits_statement : Statement → Bool
fits_statement (statement.Insert table values) =
    is_name table && ((nat_le 1 (length values) && nat_le (length values) 8)
    && list_all fits_operand values)
fits_statement (statement.Update table key column by) =
    is_name table && (fits_operand key && (is_name column && fits_operand (changing by)))
fits_statement (statement.Delete table key) = is_name table && fits_operand key
fits_statement (statement.Get table key) = is_name table && fits_operand key
fits_statement (statement.Select table column compared o) =
    is_name table && (is_name column && fits_operand o)
fits_statement (statement.Count table) = is_name table
fits_statement (statement.Sum table column) = is_name table && is_name column
fits_statement (statement.Show o) = fits_operand o

abbrev pub fits_call : Call → Bool
fits_call (call.Work statements commit) = list_all fits_statement statements
fits_call (call.Set name x) = is_name name && fits_value x
fits_call (call.Alter line) = fits_line line
fits_call _ = true
