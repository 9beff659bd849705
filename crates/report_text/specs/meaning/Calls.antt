-- Operands, statements and calls, in the document's form.
use Rattle.std.specs.Prelude.{ℕ, List, [], ◌∷◌, ◌++◌, map, Bool, codes, if◌then◌else◌}
use Rattle.serde_json.specs.Data.{Data}
use Rattle.json_form.specs.meaning.Writing.{text, list, list_by}
use Rattle.svc_values.specs.declared.draw.DrawKind.TheVariants as kind
use Rattle.svc_values.specs.declared.statement.Operand.{Operand}
use Rattle.svc_values.specs.declared.statement.Operand.TheVariants as operand
use Rattle.svc_values.specs.declared.statement.Change.{Change}
use Rattle.svc_values.specs.declared.statement.Change.TheVariants as change
use Rattle.svc_values.specs.declared.statement.Test.{Test}
use Rattle.svc_values.specs.declared.statement.Test.TheVariants as test
use Rattle.svc_values.specs.declared.statement.Statement.{Statement}
use Rattle.svc_values.specs.declared.statement.Statement.TheVariants as statement
use Rattle.svc_values.specs.declared.call.Call.{Call}
use Rattle.svc_values.specs.declared.call.Call.TheVariants as call
use Rattle.report_text.specs.meaning.Parts.{one, headed, lone}
use Rattle.report_text.specs.meaning.Values.{literal_value}

-- a literal, {"var":name}, {"seq":name}, {"draw":"clock"} or {"draw":"id"}
unfoldable pub operand_value : Operand → Data
operand_value (operand.Lit x) = literal_value x
operand_value (operand.Var name) = one (codes "var") (text name)
operand_value (operand.Draw (kind.Seq name)) = one (codes "seq") (text name)
operand_value (operand.Draw kind.Clock) = one (codes "draw") (text (codes "clock"))
operand_value (operand.Draw kind.Id) = one (codes "draw") (text (codes "id"))

abbrev pub test_word : Test → List ℕ
test_word test.Eq = codes "eq"
test_word test.Lt = codes "lt"
test_word test.Ge = codes "ge"

abbrev pub change_word : Change → List ℕ
change_word (change.To o) = codes "to"
change_word (change.Plus o) = codes "plus"

abbrev pub changing : Change → Operand
changing (change.To o) = o
changing (change.Plus o) = o

unfoldable pub statement_value : Statement → Data
statement_value (statement.Insert table values) =
    headed (codes "insert") (text table ∷ list_by operand_value values ∷ [])
statement_value (statement.Update table key column by) =
    headed (codes "update") (text table ∷ operand_value key ∷ text column ∷ text (change_word by)
    ∷ operand_value (changing by) ∷ [])
statement_value (statement.Delete table key) =
    headed (codes "delete") (text table ∷ operand_value key ∷ [])
statement_value (statement.Get table key) =
    headed (codes "get") (text table ∷ operand_value key ∷ [])
statement_value (statement.Select table column compared o) =
    headed (codes "select") (text table ∷ text column ∷ text (test_word compared) ∷ operand_value o
    ∷ [])
statement_value (statement.Count table) = headed (codes "count") (text table ∷ [])
statement_value (statement.Sum table column) = headed (codes "sum") (text table ∷ text column ∷ [])
statement_value (statement.Show o) = headed (codes "show") (operand_value o ∷ [])

abbrev pub commit_values : Bool → List Data
commit_values commit = if commit then lone (codes "commit") ∷ [] else []

-- an array of items, the commit last
unfoldable pub call_value : Call → Data
call_value (call.Work statements commit) =
    list (map statement_value statements ++ commit_values commit)
call_value (call.Set name x) = list (headed (codes "set") (text name ∷ literal_value x ∷ []) ∷ [])
call_value (call.Alter line) = list (headed (codes "alter") (text line ∷ []) ∷ [])
call_value call.Disable = list (lone (codes "disable") ∷ [])
call_value call.Rollback = list (lone (codes "rollback") ∷ [])
