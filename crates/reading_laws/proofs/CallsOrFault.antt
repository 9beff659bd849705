-- Of operands, statements and calls nothing else is read than what was written.
use Rattle.std.proofs.Common.{ℕ, ◌&&◌, nat_le, Bool, true, false, List, [], ◌∷◌, ◌++◌, length, refl, sym, subst, codes, decimal, append_assoc, append-nil}
use Rattle.serde_json.specs.Data.{Data}
use Rattle.serde_json.specs.View.{items_of}
use Rattle.serde_json.specs.Events.{items_len}
use Rattle.json_form.specs.declared.fault.DocCode.TheVariants.{Limit}
use Rattle.json_form.specs.declared.hexadecimal.Digits.TheVariants as case
use Rattle.json_form.specs.meaning.Faults.{here}
use Rattle.json_form.specs.meaning.Texts.{word_of}
use Rattle.json_form.specs.meaning.Arrays.{each_after, each_of, array_of}
use Rattle.json_form.specs.meaning.Writing.{text, list, list_by}
use Rattle.svc_values.specs.declared.value.Value.{Value}
use Rattle.svc_values.specs.declared.value.Value.TheVariants as value
use Rattle.svc_values.specs.declared.draw.DrawKind.TheVariants as kind
use Rattle.svc_values.specs.declared.statement.Operand.{Operand}
use Rattle.svc_values.specs.declared.statement.Operand.TheVariants as operand
use Rattle.svc_values.specs.declared.statement.Change.TheVariants as change
use Rattle.svc_values.specs.declared.statement.Test.{Test}
use Rattle.svc_values.specs.declared.statement.Statement.{Statement}
use Rattle.svc_values.specs.declared.statement.Statement.TheVariants as statement
use Rattle.svc_values.specs.declared.call.Call.{Call}
use Rattle.svc_values.specs.declared.call.Call.TheVariants as call
use Rattle.call_forms.specs.declared.item.Item.{Item}
use Rattle.call_forms.specs.declared.item.Item.TheVariants as item
use Rattle.call_forms.specs.meaning.Values.{operand_of}
use Rattle.call_forms.specs.meaning.Items.{test_words, insert_of, update_of, delete_of, get_of, select_of, count_of, sum_of, show_of, set_of, alter_of, item_read}
use Rattle.call_forms.specs.meaning.Calls.{call_of_items, call_of}
use Rattle.answer_forms.specs.meaning.Parts.{call_in}
use Rattle.report_text.specs.meaning.Parts.{headed, lone}
use Rattle.report_text.specs.meaning.Values.{literal_value}
use Rattle.report_text.specs.meaning.Calls.{operand_value, test_word, statement_value, call_value}
use Rattle.reading_laws.proofs.CallsBack.{test_back, work_items, work_values, commit_back, call_is, disable_back, rollback_back}
use Rattle.reading_laws.proofs.ValuesOrFault.{name_so, line_so, bytes_so, value_so}
use Rattle.reading_laws.proofs.OrFault.{OrFault, if_then, and_then, within_then, part_then, array_so}

operand_so : (x : Operand) → OrFault x (operand_of case.Lower (operand_value x))
unfolding operand_value literal_value operand_of
operand_so (operand.Lit (value.Int n)) = and_then _ _ (value.Int n) (operand.Lit (value.Int n)) (value_so (value.Int n)) refl
operand_so (operand.Lit (value.Text t)) = and_then _ _ (value.Text t) (operand.Lit (value.Text t)) (value_so (value.Text t)) refl
operand_so (operand.Lit (value.Bytes octets)) = within_then _ _ _ (value.Bytes octets) (operand.Lit (value.Bytes octets)) (bytes_so octets) refl
operand_so (operand.Var name) = within_then _ _ _ name (operand.Var name) (name_so name) refl
operand_so (operand.Draw (kind.Seq name)) = within_then _ _ _ name (operand.Draw (kind.Seq name)) (name_so name) refl
operand_so (operand.Draw kind.Clock) = refl
operand_so (operand.Draw kind.Id) = refl

operands_so : (xs : List Operand) → OrFault xs (array_of 1 8 (each_of (operand_of case.Lower)) (list_by operand_value xs))
operands_so xs = array_so (operand_of case.Lower) operand_value operand_so 1 8 xs

test_so : (compared : Test) → OrFault compared (word_of test_words (text (test_word compared)))
test_so compared = rw (test_back compared) refl

statement_so : (x : Statement) → OrFault (item.Statement x) (item_read case.Lower (statement_value x))
unfolding statement_value item_read insert_of update_of delete_of get_of select_of count_of sum_of show_of
statement_so (statement.Insert table values) = part_then _ _ _ _ _ _ _ refl (name_so table) (part_then _ _ _ _ _ values _ refl (operands_so values) refl)
statement_so (statement.Update table key column (change.To o)) =
    part_then _ _ _ _ _ _ _ refl (name_so table) (part_then _ _ _ _ _ _ _ refl (operand_so key) (part_then _ _ _ _ _ _ _ refl (name_so column)
    (part_then _ _ _ _ _ _ _ refl refl (part_then _ _ _ _ _ _ _ refl (operand_so o) refl))))
statement_so (statement.Update table key column (change.Plus o)) =
    part_then _ _ _ _ _ _ _ refl (name_so table) (part_then _ _ _ _ _ _ _ refl (operand_so key) (part_then _ _ _ _ _ _ _ refl (name_so column)
    (part_then _ _ _ _ _ _ _ refl refl (part_then _ _ _ _ _ _ _ refl (operand_so o) refl))))
statement_so (statement.Delete table key) = part_then _ _ _ _ _ _ _ refl (name_so table) (part_then _ _ _ _ _ _ _ refl (operand_so key) refl)
statement_so (statement.Get table key) = part_then _ _ _ _ _ _ _ refl (name_so table) (part_then _ _ _ _ _ _ _ refl (operand_so key) refl)
statement_so (statement.Select table column compared o) =
    part_then _ _ _ _ _ _ _ refl (name_so table) (part_then _ _ _ _ _ _ _ refl (name_so column)
    (part_then _ _ _ _ _ compared _ refl (test_so compared) (part_then _ _ _ _ _ _ _ refl (operand_so o) refl)))
statement_so (statement.Count table) = part_then _ _ _ _ _ _ _ refl (name_so table) refl
statement_so (statement.Sum table column) = part_then _ _ _ _ _ _ _ refl (name_so table) (part_then _ _ _ _ _ _ _ refl (name_so column) refl)
statement_so (statement.Show o) = part_then _ _ _ _ _ _ _ refl (operand_so o) refl

-- ---- calls of statements

items_so : (before : List Item) (xs : List Statement) (commit : Bool)
    → OrFault (before ++ work_items xs commit) (each_after (λ before. item_read case.Lower) before (items_of (work_values xs commit)))
items_so before [] true = rw commit_back refl
items_so before [] false = sym (append-nil before)
items_so before (x ∷ xs) commit =
    let ds = items_of (work_values xs commit) in
    within_then (decimal (length before)) (item_read case.Lower (statement_value x)) (λ one. each_after (λ before. item_read case.Lower) (before ++ one ∷ []) ds)
    (item.Statement x) (before ++ work_items (x ∷ xs) commit) (statement_so x)
    (subst (λ all. OrFault all (each_after (λ before. item_read case.Lower) (before ++ item.Statement x ∷ []) ds)) (append_assoc before (item.Statement x ∷ []) (work_items xs commit))
    (items_so (before ++ item.Statement x ∷ []) xs commit))

work_so : (xs : List Statement) (commit : Bool) → OrFault (work_items xs commit) (array_of 1 8 (each_of (item_read case.Lower)) (list (work_values xs commit)))
work_so xs commit =
    let is = items_of (work_values xs commit) in
    if_then (nat_le 1 (items_len is) && nat_le (items_len is) 8) is (here Limit) (each_of (item_read case.Lower)) (work_items xs commit) (items_so [] xs commit)

-- ---- calls of one command

command_so : (d : Data) (one : Item) → OrFault one (item_read case.Lower d) → OrFault (one ∷ []) (array_of 1 8 (each_of (item_read case.Lower)) (list (d ∷ [])))
command_so d one same = within_then _ _ _ one (one ∷ []) same refl

set_so : (name : List ℕ) (x : Value) → OrFault (item.Set name x) (item_read case.Lower (headed (codes "set") (text name ∷ literal_value x ∷ [])))
unfolding item_read set_of
set_so name x = part_then _ _ _ _ _ _ _ refl (name_so name) (part_then _ _ _ _ _ _ _ refl (value_so x) refl)

alter_so : (line : List ℕ) → OrFault (item.Alter line) (item_read case.Lower (headed (codes "alter") (text line ∷ [])))
unfolding item_read alter_of
alter_so line = part_then _ _ _ _ _ line _ refl (line_so line) refl

disable_so : OrFault item.Disable (item_read case.Lower (lone (codes "disable")))
disable_so = rw disable_back refl

rollback_so : OrFault item.Rollback (item_read case.Lower (lone (codes "rollback")))
rollback_so = rw rollback_back refl

pub call_so : (x : Call) → OrFault x (call_in (call_value x))
unfolding call_value call_of
call_so (call.Work statements commit) =
    and_then _ call_of_items (work_items statements commit) (call.Work statements commit) (work_so statements commit) (rw (call_is statements commit) refl)
call_so (call.Set name x) = and_then _ call_of_items (item.Set name x ∷ []) (call.Set name x) (command_so _ _ (set_so name x)) refl
call_so (call.Alter line) = and_then _ call_of_items (item.Alter line ∷ []) (call.Alter line) (command_so _ _ (alter_so line)) refl
call_so call.Disable = and_then _ call_of_items (item.Disable ∷ []) call.Disable (command_so _ _ disable_so) refl
call_so call.Rollback = and_then _ call_of_items (item.Rollback ∷ []) call.Rollback (command_so _ _ rollback_so) refl
