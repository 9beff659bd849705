-- What operands, statements and calls keep to that were read.
use Rattle.std.proofs.Common.{◌≡◌, ℕ, ◌&&◌, nat_le, List, [], ◌∷◌, ◌++◌, length, true, Option, Some, None, Ok, Err, refl, codes}
use Rattle.std.specs.Str.{bytes_eq}
use Rattle.std.specs.List.{AllByRecursion}
use Rattle.serde_json.specs.Data.{Data, Members}
use Rattle.serde_json.specs.Find.{as_object}
use Rattle.json_form.specs.declared.hexadecimal.Digits.{Digits}
use Rattle.json_form.specs.meaning.Faults.{here, within}
use Rattle.json_form.specs.declared.fault.DocCode.TheVariants.{Unknown}
use Rattle.json_form.specs.meaning.Values.{text_of}
use Rattle.json_form.specs.meaning.Texts.{head_of, word_of}
use Rattle.json_form.specs.meaning.Arrays.{each_of, array_of, fixed, part}
use Rattle.json_form.proofs.Offered.{both_true}
use Rattle.svc_values.specs.declared.draw.DrawKind.{DrawKind}
use Rattle.svc_values.specs.declared.draw.DrawKind.TheVariants as kind
use Rattle.svc_values.specs.declared.statement.Operand.{Operand}
use Rattle.svc_values.specs.declared.statement.Operand.TheVariants as operand
use Rattle.svc_values.specs.declared.statement.Statement.{Statement}
use Rattle.svc_values.specs.declared.call.Call.{Call}
use Rattle.call_forms.specs.declared.item.Item.{Item}
use Rattle.call_forms.specs.declared.item.Item.TheVariants as item
use Rattle.call_forms.specs.declared.item.ItemWord.{ItemWord}
use Rattle.call_forms.specs.declared.item.ItemWord.TheVariants as word
use Rattle.call_forms.specs.declared.item.ChangeWord.{ChangeWord}
use Rattle.call_forms.specs.declared.item.ChangeWord.TheVariants as changeword
use Rattle.call_forms.specs.meaning.Values.{name_of, line_of, value_of, bytes_value, only_member, draw_words, operand_named, literal_or_named, operand_of}
use Rattle.call_forms.specs.meaning.Items.{test_words, change_words, changed_by, insert_of, update_of, delete_of, get_of, select_of, count_of, sum_of, show_of, set_of, alter_of, item_words, item_by, item_read}
use Rattle.call_forms.specs.meaning.Calls.{work_of, call_of_items, call_of}
use Rattle.report_text.specs.meaning.Calls.{changing}
use Rattle.report_text.specs.meaning.Octets.{OperandOfBytes, StatementOfBytes, CallOfBytes, ValueOfBytes}
use Rattle.svc_values.specs.meaning.Texts.{is_name}
use Rattle.report_limits.specs.meaning.Limits.{fits_value}
use Rattle.reading_laws.specs.Calls.{fits_operand, fits_statement, fits_call}
use Rattle.reading_laws.proofs.IfRead.{IfRead, either_kept, then_kept, any_kept, within_kept, part_then_kept, array_kept, apart}
use Rattle.reading_laws.proofs.ValuesKept.{NameKept, name_kept, LineKept, line_kept, ValueKept, value_kept, bytes_kept}

abbrev OperandKept : Operand → Type 0
OperandKept x = OperandOfBytes x × (fits_operand x ≡ true)

-- the kinds that have a word
abbrev PlainKind : DrawKind → Type 0
PlainKind (kind.Seq name) = ⊥
PlainKind _ = Unit {0}

drawn_kept : (k : DrawKind) → PlainKind k → OperandKept (operand.Draw k)
drawn_kept (kind.Seq name) plain = absurd plain
drawn_kept kind.Clock plain = (tt, refl)
drawn_kept kind.Id plain = (tt, refl)

plain_kept : (inner : Data) → IfRead PlainKind (word_of draw_words inner)
plain_kept inner = any_kept PlainKind (text_of inner) _ (λ word. either_kept PlainKind (bytes_eq (codes "clock") word) (Ok kind.Clock) _ tt (either_kept PlainKind (bytes_eq (codes "id") word) (Ok kind.Id) (Err (here Unknown)) tt tt))

named_kept : (digits : Digits) (name : List ℕ) (inner : Data) → IfRead OperandKept (operand_named digits name inner)
named_kept digits name inner =
    either_kept OperandKept (bytes_eq name (codes "hex")) _ _
    (then_kept ValueKept OperandKept (within name (bytes_value digits inner)) (λ x. Ok (operand.Lit x)) (within_kept ValueKept _ _ (bytes_kept digits inner)) (λ x k. k))
    (either_kept OperandKept (bytes_eq name (codes "var")) _ _
    (then_kept NameKept OperandKept (within name (name_of inner)) (λ n. Ok (operand.Var n)) (within_kept NameKept _ _ (name_kept inner)) (λ n h. (tt, h)))
    (either_kept OperandKept (bytes_eq name (codes "seq")) _ _
    (then_kept NameKept OperandKept (within name (name_of inner)) (λ n. Ok (operand.Draw (kind.Seq n))) (within_kept NameKept _ _ (name_kept inner)) (λ n h. (tt, h)))
    (either_kept OperandKept (bytes_eq name (codes "draw")) _ (Err (here Unknown))
    (then_kept PlainKind OperandKept (within name (word_of draw_words inner)) (λ k. Ok (operand.Draw k)) (within_kept PlainKind _ _ (plain_kept inner)) drawn_kept) tt)))

literal_kept : (digits : Digits) (d : Data) (o : Option Members) → IfRead OperandKept (literal_or_named digits d o)
literal_kept digits d None = then_kept ValueKept OperandKept (value_of digits d) _ (value_kept digits d) (λ x k. k)
literal_kept digits d (Some ms) = any_kept OperandKept (only_member ms) _ (λ only. named_kept digits only.0 only.1)

operand_kept : (digits : Digits) (d : Data) → IfRead OperandKept (operand_of digits d)
unfolding operand_of
operand_kept digits d = literal_kept digits d (as_object d)

-- ---- items of calls

abbrev ItemKept : Item → Type 0
ItemKept (item.Statement s) = StatementOfBytes s × (fits_statement s ≡ true)
ItemKept (item.Set name x) = ValueOfBytes x × ((is_name name && fits_value x) ≡ true)
ItemKept (item.Alter line) = LineKept line
ItemKept _ = Unit {0}

abbrev OperandsKept : List Operand → Type 0
OperandsKept xs = ((nat_le 1 (length xs) && nat_le (length xs) 8) ≡ true) × AllByRecursion OperandKept xs

changed_kept : (w : ChangeWord) (o : Operand) → OperandKept o → OperandKept (changing (changed_by w o))
changed_kept changeword.To o kept = kept
changed_kept changeword.Plus o kept = kept

by_word_kept : (digits : Digits) (w : ItemWord) (d : Data) → IfRead ItemKept (item_by digits w d)
unfolding insert_of update_of delete_of get_of select_of count_of sum_of show_of set_of alter_of
by_word_kept digits word.Insert d =
    any_kept ItemKept (fixed 3 d) _ (λ ds. part_then_kept NameKept ItemKept 1 name_of ds _ name_kept (λ table is.
    part_then_kept OperandsKept ItemKept 2 (array_of 1 8 (each_of (operand_of digits))) ds _ (array_kept OperandKept 1 8 (operand_of digits) (operand_kept digits)) (λ values k.
    let a = apart OperandOfBytes fits_operand values k.1 in (a.0, both_true _ _ is (both_true _ _ k.0 a.1)))))
by_word_kept digits word.Update d =
    any_kept ItemKept (fixed 6 d) _ (λ ds. part_then_kept NameKept ItemKept 1 name_of ds _ name_kept (λ table is.
    part_then_kept OperandKept ItemKept 2 (operand_of digits) ds _ (operand_kept digits) (λ key k. part_then_kept NameKept ItemKept 3 name_of ds _ name_kept (λ column c.
    any_kept ItemKept (part 4 (word_of change_words) ds) _ (λ w. part_then_kept OperandKept ItemKept 5 (operand_of digits) ds _ (operand_kept digits) (λ o h.
    let by = changed_kept w o h in ((k.0, by.0), both_true _ _ is (both_true _ _ k.1 (both_true _ _ c by.1)))))))))
by_word_kept digits word.Delete d =
    any_kept ItemKept (fixed 3 d) _ (λ ds. part_then_kept NameKept ItemKept 1 name_of ds _ name_kept (λ table is.
    part_then_kept OperandKept ItemKept 2 (operand_of digits) ds _ (operand_kept digits) (λ key k. (k.0, both_true _ _ is k.1))))
by_word_kept digits word.Get d =
    any_kept ItemKept (fixed 3 d) _ (λ ds. part_then_kept NameKept ItemKept 1 name_of ds _ name_kept (λ table is.
    part_then_kept OperandKept ItemKept 2 (operand_of digits) ds _ (operand_kept digits) (λ key k. (k.0, both_true _ _ is k.1))))
by_word_kept digits word.Select d =
    any_kept ItemKept (fixed 5 d) _ (λ ds. part_then_kept NameKept ItemKept 1 name_of ds _ name_kept (λ table is. part_then_kept NameKept ItemKept 2 name_of ds _ name_kept (λ column c.
    any_kept ItemKept (part 3 (word_of test_words) ds) _ (λ compared. part_then_kept OperandKept ItemKept 4 (operand_of digits) ds _ (operand_kept digits) (λ o k.
    (k.0, both_true _ _ is (both_true _ _ c k.1)))))))
by_word_kept digits word.Count d = any_kept ItemKept (fixed 2 d) _ (λ ds. part_then_kept NameKept ItemKept 1 name_of ds _ name_kept (λ table is. (tt, is)))
by_word_kept digits word.Sum d =
    any_kept ItemKept (fixed 3 d) _ (λ ds. part_then_kept NameKept ItemKept 1 name_of ds _ name_kept (λ table is.
    part_then_kept NameKept ItemKept 2 name_of ds _ name_kept (λ column c. (tt, both_true _ _ is c))))
by_word_kept digits word.Show d = any_kept ItemKept (fixed 2 d) _ (λ ds. part_then_kept OperandKept ItemKept 1 (operand_of digits) ds _ (operand_kept digits) (λ o k. k))
by_word_kept digits word.Set d =
    any_kept ItemKept (fixed 3 d) _ (λ ds. part_then_kept NameKept ItemKept 1 name_of ds _ name_kept (λ name is.
    part_then_kept ValueKept ItemKept 2 (value_of digits) ds _ (value_kept digits) (λ x k. (k.0, both_true _ _ is k.1))))
by_word_kept digits word.Alter d = any_kept ItemKept (fixed 2 d) _ (λ ds. part_then_kept LineKept ItemKept 1 line_of ds _ line_kept (λ line h. h))
by_word_kept digits word.Disable d = any_kept ItemKept (fixed 1 d) _ (λ ds. tt)
by_word_kept digits word.Rollback d = any_kept ItemKept (fixed 1 d) _ (λ ds. tt)
by_word_kept digits word.Commit d = any_kept ItemKept (fixed 1 d) _ (λ ds. tt)

item_kept : (digits : Digits) (d : Data) → IfRead ItemKept (item_read digits d)
unfolding item_read
item_kept digits d = any_kept ItemKept (head_of item_words d) _ (λ w. by_word_kept digits w d)

-- ---- calls

abbrev pub CallKept : Call → Type 0
CallKept x = CallOfBytes x × (fits_call x ≡ true)

abbrev StatementKept : Statement → Type 0
StatementKept s = StatementOfBytes s × (fits_statement s ≡ true)

push_statement : (xs : List Statement) (x : Statement) → AllByRecursion StatementKept xs → StatementKept x → AllByRecursion StatementKept (xs ++ x ∷ [])
push_statement [] x all one = (one, tt)
push_statement (y ∷ xs) x all one = (all.0, push_statement xs x all.1 one)

work_kept : (before : List Statement) (items : List Item) → AllByRecursion StatementKept before → AllByRecursion ItemKept items → IfRead CallKept (work_of before items)
work_kept before [] all kept = apart StatementOfBytes fits_statement before all
work_kept before (item.Commit ∷ []) all kept = apart StatementOfBytes fits_statement before all
work_kept before (item.Commit ∷ other ∷ items) all kept = tt
work_kept before (item.Statement s ∷ items) all kept = work_kept (before ++ s ∷ []) items (push_statement before s all kept.0) kept.1
work_kept before (item.Set name x ∷ items) all kept = tt
work_kept before (item.Alter line ∷ items) all kept = tt
work_kept before (item.Disable ∷ items) all kept = tt
work_kept before (item.Rollback ∷ items) all kept = tt

made_kept : (items : List Item) → AllByRecursion ItemKept items → IfRead CallKept (call_of_items items)
made_kept [] kept = (tt, refl)
made_kept (item.Set name x ∷ []) kept = kept.0
made_kept (item.Alter line ∷ []) kept = (tt, kept.0)
made_kept (item.Disable ∷ []) kept = (tt, refl)
made_kept (item.Rollback ∷ []) kept = (tt, refl)
made_kept (item.Statement s ∷ []) kept = work_kept [] (item.Statement s ∷ []) tt kept
made_kept (item.Commit ∷ []) kept = (tt, refl)
made_kept (item.Set name x ∷ other ∷ items) kept = tt
made_kept (item.Alter line ∷ other ∷ items) kept = tt
made_kept (item.Disable ∷ other ∷ items) kept = tt
made_kept (item.Rollback ∷ other ∷ items) kept = tt
made_kept (item.Statement s ∷ other ∷ items) kept = work_kept [] (item.Statement s ∷ other ∷ items) tt kept
made_kept (item.Commit ∷ other ∷ items) kept = tt

pub call_kept : (digits : Digits) (d : Data) → IfRead CallKept (call_of digits d)
unfolding call_of
call_kept digits d =
    then_kept (λ (items : List Item). ((nat_le 1 (length items) && nat_le (length items) 8) ≡ true) × AllByRecursion ItemKept items) CallKept (array_of 1 8 (each_of (item_read digits)) d) call_of_items
    (array_kept ItemKept 1 8 (item_read digits) (item_kept digits) d) (λ items k. made_kept items k.1)
