-- Operands, statements and calls are read of what is written of them.
use Rattle.std.proofs.Common.{◌≡◌, ℕ, ◌&&◌, nat_le, Bool, true, false, cond, List, [], ◌∷◌, ◌++◌, map, length, Ok, refl, sym, ap, ◌∙◌, codes, arith, append_assoc, append-nil}
use Rattle.std.specs.List.{AllByRecursion, list_all}
use Rattle.serde_json.specs.Data.{Data}
use Rattle.serde_json.specs.View.{items_of}
use Rattle.serde_json.specs.Events.{items_len}
use Rattle.json_form.specs.declared.hexadecimal.Digits.TheVariants as case
use Rattle.json_form.specs.meaning.Texts.{word_of}
use Rattle.json_form.specs.meaning.Arrays.{each_after, each_of, array_of, part}
use Rattle.json_form.specs.meaning.Writing.{text, list, list_by}
use Rattle.json_form.proofs.Offered.{first_true, second_true}
use Rattle.svc_values.specs.declared.value.Value.{Value}
use Rattle.svc_values.specs.declared.value.Value.TheVariants as value
use Rattle.svc_values.specs.declared.draw.DrawKind.TheVariants as kind
use Rattle.svc_values.specs.declared.statement.Operand.{Operand}
use Rattle.svc_values.specs.declared.statement.Operand.TheVariants as operand
use Rattle.svc_values.specs.declared.statement.Change.TheVariants as change
use Rattle.svc_values.specs.declared.statement.Test.{Test}
use Rattle.svc_values.specs.declared.statement.Test.TheVariants as test
use Rattle.svc_values.specs.declared.statement.Statement.{Statement}
use Rattle.svc_values.specs.declared.statement.Statement.TheVariants as statement
use Rattle.svc_values.specs.declared.call.Call.{Call}
use Rattle.svc_values.specs.declared.call.Call.TheVariants as call
use Rattle.svc_values.specs.meaning.Calls.{is_made, work_length}
use Rattle.call_forms.specs.declared.item.Item.{Item}
use Rattle.call_forms.specs.declared.item.Item.TheVariants as item
use Rattle.call_forms.specs.meaning.Values.{operand_of}
use Rattle.call_forms.specs.meaning.Items.{test_words, insert_of, update_of, delete_of, get_of, select_of, count_of, sum_of, show_of, set_of, alter_of, item_read}
use Rattle.call_forms.specs.meaning.Calls.{work_of, call_of_items, call_of}
use Rattle.answer_forms.specs.meaning.Parts.{call_in}
use Rattle.report_text.specs.meaning.Parts.{headed, lone}
use Rattle.report_text.specs.meaning.Values.{literal_value}
use Rattle.report_text.specs.meaning.Calls.{operand_value, test_word, statement_value, commit_values, call_value}
use Rattle.report_text.specs.meaning.Octets.{OperandOfBytes, StatementOfBytes, CallOfBytes}
use Rattle.reading_laws.specs.Calls.{fits_operand, fits_statement, fits_call}
use Rattle.reading_laws.proofs.ListsBack.{octets_back, array_back, both_of}
use Rattle.reading_laws.proofs.ValuesBack.{name_back, line_back, value_back}

operand_back : (x : Operand) → OperandOfBytes x → fits_operand x ≡ true → operand_of case.Lower (operand_value x) ≡ Ok x
unfolding operand_value literal_value operand_of
operand_back (operand.Lit (value.Int n)) ok fits = rw (value_back (value.Int n) ok fits) refl
operand_back (operand.Lit (value.Text t)) ok fits = rw (value_back (value.Text t) ok fits) refl
operand_back (operand.Lit (value.Bytes octets)) ok fits = rw (octets_back octets ok, fits) refl
operand_back (operand.Var name) ok fits = rw (name_back name fits) refl
operand_back (operand.Draw (kind.Seq name)) ok fits = rw (name_back name fits) refl
operand_back (operand.Draw kind.Clock) ok fits = refl
operand_back (operand.Draw kind.Id) ok fits = refl

operands_back : (xs : List Operand) → AllByRecursion OperandOfBytes xs → ((nat_le 1 (length xs) && nat_le (length xs) 8) && list_all fits_operand xs) ≡ true
    → array_of 1 8 (each_of (operand_of case.Lower)) (list_by operand_value xs) ≡ Ok xs
operands_back xs all fits =
    array_back OperandOfBytes fits_operand (operand_of case.Lower) operand_value operand_back 1 8 xs all
    (second_true (nat_le 1 (length xs) && nat_le (length xs) 8) _ fits) (first_true (nat_le 1 (length xs) && nat_le (length xs) 8) _ fits)

pub test_back : (compared : Test) → word_of test_words (text (test_word compared)) ≡ Ok compared
test_back test.Eq = refl
test_back test.Lt = refl
test_back test.Ge = refl

statement_back : (x : Statement) → StatementOfBytes x → fits_statement x ≡ true → item_read case.Lower (statement_value x) ≡ Ok (item.Statement x)
unfolding statement_value item_read insert_of update_of delete_of get_of select_of count_of sum_of show_of part
statement_back (statement.Insert table values) ok fits =
    let fits_parts = both_of _ _ fits in
    rw (name_back table fits_parts.0, operands_back values ok fits_parts.1) refl
statement_back (statement.Update table key column (change.To o)) ok fits =
    let rest = second_true _ _ fits in
    let last = second_true _ _ rest in
    let fits_parts = both_of _ _ fits in
    let rest_parts = both_of _ _ rest in
    let last_parts = both_of _ _ last in
    rw (name_back table fits_parts.0, operand_back key ok.0 rest_parts.0, name_back column last_parts.0, operand_back o ok.1 last_parts.1) refl
statement_back (statement.Update table key column (change.Plus o)) ok fits =
    let rest = second_true _ _ fits in
    let last = second_true _ _ rest in
    let fits_parts = both_of _ _ fits in
    let rest_parts = both_of _ _ rest in
    let last_parts = both_of _ _ last in
    rw (name_back table fits_parts.0, operand_back key ok.0 rest_parts.0, name_back column last_parts.0, operand_back o ok.1 last_parts.1) refl
statement_back (statement.Delete table key) ok fits =
    let fits_parts = both_of _ _ fits in
    rw (name_back table fits_parts.0, operand_back key ok fits_parts.1) refl
statement_back (statement.Get table key) ok fits =
    let fits_parts = both_of _ _ fits in
    rw (name_back table fits_parts.0, operand_back key ok fits_parts.1) refl
statement_back (statement.Select table column compared o) ok fits =
    let rest = second_true _ _ fits in
    let fits_parts = both_of _ _ fits in
    let rest_parts = both_of _ _ rest in
    rw (name_back table fits_parts.0, name_back column rest_parts.0, test_back compared, operand_back o ok rest_parts.1) refl
statement_back (statement.Count table) ok fits = rw (name_back table fits) refl
statement_back (statement.Sum table column) ok fits =
    let fits_parts = both_of _ _ fits in
    rw (name_back table fits_parts.0, name_back column fits_parts.1) refl
statement_back (statement.Show o) ok fits = rw (operand_back o ok fits) refl

-- ---- calls of statements

abbrev pub commit_items : Bool → List Item
commit_items commit = cond commit (item.Commit ∷ []) []

abbrev pub work_items : List Statement → Bool → List Item
work_items statements commit = map item.Statement statements ++ commit_items commit

abbrev pub work_values : List Statement → Bool → List Data
work_values statements commit = map statement_value statements ++ commit_values commit

pub commit_back : item_read case.Lower (lone (codes "commit")) ≡ Ok item.Commit
unfolding item_read
commit_back = refl

items_back : (before : List Item) (xs : List Statement) (commit : Bool) → AllByRecursion StatementOfBytes xs → list_all fits_statement xs ≡ true
    → each_after (λ before. item_read case.Lower) before (items_of (work_values xs commit)) ≡ Ok (before ++ work_items xs commit)
items_back before [] true all good = rw commit_back refl
items_back before [] false all good = ap Ok (sym (append-nil before))
items_back before (x ∷ xs) commit all good =
    let good_parts = both_of _ _ good in
    rw (statement_back x all.0 good_parts.0)
    (items_back (before ++ item.Statement x ∷ []) xs commit all.1 (second_true _ _ good) ∙ ap Ok (append_assoc before (item.Statement x ∷ []) (work_items xs commit)))

work_long : (xs : List Statement) (commit : Bool) → items_len (items_of (work_values xs commit)) ≡ work_length xs commit
work_long [] true = refl
work_long [] false = refl
work_long (x ∷ xs) commit = let e = work_long xs commit in omega (arith, e)

work_is : (before xs : List Statement) (commit : Bool) → work_of before (work_items xs commit) ≡ Ok (call.Work (before ++ xs) commit)
work_is before [] true = ap (λ all. Ok (call.Work all true)) (sym (append-nil before))
work_is before [] false = ap (λ all. Ok (call.Work all false)) (sym (append-nil before))
work_is before (x ∷ xs) commit = work_is (before ++ x ∷ []) xs commit ∙ ap (λ all. Ok (call.Work all commit)) (append_assoc before (x ∷ []) xs)

no_command : (x : Statement) (items : List Item) → call_of_items (item.Statement x ∷ items) ≡ work_of [] (item.Statement x ∷ items)
no_command x [] = refl
no_command x (other ∷ items) = refl

pub call_is : (xs : List Statement) (commit : Bool) → call_of_items (work_items xs commit) ≡ Ok (call.Work xs commit)
call_is [] true = refl
call_is [] false = refl
call_is (x ∷ xs) commit = no_command x (work_items xs commit) ∙ work_is [] (x ∷ xs) commit

work_back : (xs : List Statement) (commit : Bool) → AllByRecursion StatementOfBytes xs → list_all fits_statement xs ≡ true → is_made (call.Work xs commit) ≡ true
    → array_of 1 8 (each_of (item_read case.Lower)) (list (work_values xs commit)) ≡ Ok (work_items xs commit)
work_back xs commit all good made = rw (work_long xs commit, made) (items_back [] xs commit all good)

-- ---- calls of one command

command_back : (d : Data) (one : Item) → item_read case.Lower d ≡ Ok one → array_of 1 8 (each_of (item_read case.Lower)) (list (d ∷ [])) ≡ Ok (one ∷ [])
command_back d one back = rw back refl

set_back : (name : List ℕ) (x : Value) → CallOfBytes (call.Set name x) → fits_call (call.Set name x) ≡ true
    → item_read case.Lower (headed (codes "set") (text name ∷ literal_value x ∷ [])) ≡ Ok (item.Set name x)
unfolding item_read set_of part
set_back name x ok fits =
    let fits_parts = both_of _ _ fits in
    rw (name_back name fits_parts.0, value_back x ok fits_parts.1) refl

alter_back : (line : List ℕ) → fits_call (call.Alter line) ≡ true → item_read case.Lower (headed (codes "alter") (text line ∷ [])) ≡ Ok (item.Alter line)
unfolding item_read alter_of part
alter_back line fits = rw (line_back line fits) refl

pub disable_back : item_read case.Lower (lone (codes "disable")) ≡ Ok item.Disable
unfolding item_read
disable_back = refl

pub rollback_back : item_read case.Lower (lone (codes "rollback")) ≡ Ok item.Rollback
unfolding item_read
rollback_back = refl

pub call_back : (x : Call) → CallOfBytes x → fits_call x ≡ true → is_made x ≡ true → call_in (call_value x) ≡ Ok x
unfolding call_value call_of
call_back (call.Work statements commit) ok fits made = rw (work_back statements commit ok fits made) (call_is statements commit)
call_back (call.Set name x) ok fits made = rw (command_back _ _ (set_back name x ok fits)) refl
call_back (call.Alter line) ok fits made = rw (command_back _ _ (alter_back line fits)) refl
call_back call.Disable ok fits made = rw (command_back _ _ disable_back) refl
call_back call.Rollback ok fits made = rw (command_back _ _ rollback_back) refl
