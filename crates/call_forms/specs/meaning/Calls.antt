-- How calls stand in a document: an array of items, and the rule on which items make a call.
use Rattle.std.specs.Prelude.{List, [], ◌∷◌, ◌++◌, true, false, Result, Ok, Err}
use Rattle.serde_json.specs.Data.{Data}
use Rattle.json_form.specs.declared.fault.DocCode.TheVariants.{Rule}
use Rattle.json_form.specs.declared.hexadecimal.Digits.{Digits}
use Rattle.json_form.specs.meaning.Faults.{Fault, ◌>>=◌, here}
use Rattle.json_form.specs.meaning.Arrays.{array_of, each_of}
use Rattle.svc_values.specs.declared.statement.Statement.{Statement}
use Rattle.svc_values.specs.declared.call.Call.{Call}
use Rattle.svc_values.specs.declared.call.Call.TheVariants as call
use Rattle.call_forms.specs.declared.item.Item.{Item}
use Rattle.call_forms.specs.declared.item.Item.TheVariants as item
use Rattle.call_forms.specs.meaning.Items.{item_read}

-- statements, and then a commit or not; `before` are the statements so far
abbrev pub work_of : List Statement → List Item → Result Call Fault
work_of before [] = Ok (call.Work before false)
work_of before (item.Commit ∷ []) = Ok (call.Work before true)
work_of before (item.Statement s ∷ items) = work_of (before ++ s ∷ []) items
work_of before _ = Err (here Rule)

-- the rule on the items: one command alone, or statements with a commit at most last
abbrev pub call_of_items : List Item → Result Call Fault
call_of_items (item.Set name x ∷ []) = Ok (call.Set name x)
call_of_items (item.Alter line ∷ []) = Ok (call.Alter line)
call_of_items (item.Disable ∷ []) = Ok call.Disable
call_of_items (item.Rollback ∷ []) = Ok call.Rollback
call_of_items items = work_of [] items

-- an array of 1 to 8 items, each by itself, and then the rule
unfoldable pub call_of : Digits → Data → Result Call Fault
call_of digits d = array_of 1 8 (each_of (item_read digits)) d >>= call_of_items
