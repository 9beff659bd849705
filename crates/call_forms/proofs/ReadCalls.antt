-- What calls that were read keep to.
use Rattle.std.proofs.Common.{◌≡◌, ◌≤◌, ◌+◌, List, [], ◌∷◌, ◌++◌, length, Bool, true, false, Ok, refl, sym, ap, ◌∙◌, arith}
use Rattle.std.proofs.lemmas.Bool.{le-leb}
use Rattle.std.proofs.lemmas.List.{length_push}
use Rattle.serde_json.specs.Data.{Data}
use Rattle.json_form.specs.meaning.Arrays.{each_of, array_of}
use Rattle.json_form.specs.declared.hexadecimal.Digits.{Digits}
use Rattle.svc_values.specs.declared.statement.Statement.{Statement}
use Rattle.svc_values.specs.declared.call.Call.{Call}
use Rattle.svc_values.specs.declared.call.Call.TheVariants as call
use Rattle.svc_values.specs.meaning.Calls.{is_made, work_length}
use Rattle.call_forms.specs.declared.item.Item.{Item}
use Rattle.call_forms.specs.declared.item.Item.TheVariants as item
use Rattle.call_forms.specs.meaning.Items.{item_read}
use Rattle.call_forms.specs.meaning.Calls.{work_of, call_of_items, call_of}
use Rattle.json_form.proofs.Offered.{after, ok_is, given, each_long, read_array, both_true}

made_work : (statements : List Statement) (commit : Bool) → 1 ≤ work_length statements commit → work_length statements commit ≤ 8 → is_made (call.Work statements commit) ≡ true
made_work statements commit some few = both_true _ _ (le-leb 1 (work_length statements commit) some) (le-leb (work_length statements commit) 8 few)

work_is : (statements : List Statement) (commit : Bool) (one : Call) → 1 ≤ work_length statements commit → work_length statements commit ≤ 8 → given (call.Work statements commit) ≡ given one → is_made one ≡ true
work_is statements commit one some few h = ap is_made (sym (ok_is (call.Work statements commit) one h)) ∙ made_work statements commit some few

-- as many statements, the commit counted, as there are items
work_made : (before : List Statement) (items : List Item) (one : Call) → 1 ≤ length before + length items → length before + length items ≤ 8 → work_of before items ≡ Ok one → is_made one ≡ true
work_made before [] one some few h = work_is before false one (omega arith) (omega arith) h
work_made before (item.Commit ∷ []) one some few h = work_is before true one (omega arith) (omega arith) h
work_made before (item.Commit ∷ other ∷ items) one some few h = absurd (cc)
work_made before (item.Statement s ∷ items) one some few h =
    let long = length_push before s in work_made (before ++ s ∷ []) items one (omega arith) (omega arith) h
work_made before (item.Set name x ∷ items) one some few h = absurd (cc)
work_made before (item.Alter line ∷ items) one some few h = absurd (cc)
work_made before (item.Disable ∷ items) one some few h = absurd (cc)
work_made before (item.Rollback ∷ items) one some few h = absurd (cc)

-- a command is a call as it stands
command : (made one : Call) → is_made made ≡ true → given made ≡ given one → is_made one ≡ true
command made one is h = ap is_made (sym (ok_is made one h)) ∙ is

call_made : (items : List Item) (one : Call) → 1 ≤ length items → length items ≤ 8 → call_of_items items ≡ Ok one → is_made one ≡ true
call_made [] one some few h = absurd (omega arith)
call_made (item.Set name x ∷ []) one some few h = command (call.Set name x) one refl h
call_made (item.Alter line ∷ []) one some few h = command (call.Alter line) one refl h
call_made (item.Disable ∷ []) one some few h = command call.Disable one refl h
call_made (item.Rollback ∷ []) one some few h = command call.Rollback one refl h
call_made (item.Statement s ∷ []) one some few h = work_made [] (item.Statement s ∷ []) one (omega arith) (omega arith) h
call_made (item.Commit ∷ []) one some few h = work_made [] (item.Commit ∷ []) one (omega arith) (omega arith) h
call_made (item.Set name x ∷ other ∷ items) one some few h = absurd (cc)
call_made (item.Alter line ∷ other ∷ items) one some few h = absurd (cc)
call_made (item.Disable ∷ other ∷ items) one some few h = absurd (cc)
call_made (item.Rollback ∷ other ∷ items) one some few h = absurd (cc)
call_made (item.Statement s ∷ other ∷ items) one some few h = work_made [] (item.Statement s ∷ other ∷ items) one (omega arith) (omega arith) h
call_made (item.Commit ∷ other ∷ items) one some few h = absurd (cc)

-- a call that was read can be made
pub call_read : (digits : Digits) (d : Data) (one : Call) → call_of digits d ≡ Ok one → is_made one ≡ true
unfolding call_of
call_read digits d one h =
    let a = after (array_of 1 8 (each_of (item_read digits)) d) call_of_items one h in
    let b = read_array 1 8 (each_of (item_read digits)) d a.0 a.1 in
    let long = each_long (λ before. item_read digits) [] b.items a.0 b.gave in
    let enough = b.enough in
    let few = b.few in call_made a.0 one (omega arith) (omega arith) a.2
