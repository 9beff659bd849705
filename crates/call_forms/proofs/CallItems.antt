-- Going through the items of a call.
use Rattle.std.proofs.Common.{◌≡◌, List, [], ◌∷◌, Bool, true, false, Result, Ok, Err, refl}
use Rattle.json_form.specs.declared.fault.DocCode.TheVariants.{Rule}
use Rattle.json_form.specs.meaning.Faults.{Fault, here}
use Rattle.svc_values.specs.declared.statement.Statement.{Statement}
use Rattle.svc_values.specs.declared.call.Call.{Call}
use Rattle.svc_values.specs.declared.call.Call.TheVariants as call
use Rattle.call_forms.specs.declared.item.Item.{Item}
use Rattle.call_forms.specs.declared.item.Item.TheVariants as item
use Rattle.call_forms.specs.meaning.Calls.{work_of}

-- what the items left make after these statements, and after a commit or not
abbrev pub work_after : Bool → List Statement → List Item → Result Call Fault
work_after false before items = work_of before items
work_after true before [] = Ok (call.Work before true)
work_after true before (one ∷ items) = Err (here Rule)

pub after_commit : (before : List Statement) (items : List Item) → work_of before (item.Commit ∷ items) ≡ work_after true before items
after_commit before [] = refl
after_commit before (one ∷ items) = refl
