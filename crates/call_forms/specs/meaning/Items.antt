-- How the items of a call stand in a document: arrays that begin with a word.
use Rattle.std.specs.Prelude.{ℕ, List, [], ◌∷◌, Result, Ok, codes}
use Rattle.serde_json.specs.Data.{Data}
use Rattle.json_form.specs.declared.hexadecimal.Digits.{Digits}
use Rattle.json_form.specs.meaning.Faults.{Fault, ◌>>=◌}
use Rattle.json_form.specs.meaning.Arrays.{array_of, each_of, fixed, part}
use Rattle.json_form.specs.meaning.Texts.{head_of, word_of}
use Rattle.svc_values.specs.declared.statement.Operand.{Operand}
use Rattle.svc_values.specs.declared.statement.Change.{Change}
use Rattle.svc_values.specs.declared.statement.Change.TheVariants as change
use Rattle.svc_values.specs.declared.statement.Test.{Test}
use Rattle.svc_values.specs.declared.statement.Test.TheVariants as test
use Rattle.svc_values.specs.declared.statement.Statement.TheVariants as statement
use Rattle.call_forms.specs.declared.item.Item.{Item}
use Rattle.call_forms.specs.declared.item.Item.TheVariants as item
use Rattle.call_forms.specs.declared.item.ChangeWord.{ChangeWord}
use Rattle.call_forms.specs.declared.item.ChangeWord.TheVariants as changeword
use Rattle.call_forms.specs.declared.item.ItemWord.{ItemWord}
use Rattle.call_forms.specs.declared.item.ItemWord.TheVariants as word
use Rattle.call_forms.specs.meaning.Values.{name_of, value_of, operand_of, line_of}

abbrev pub test_words : List (List ℕ × Test)
test_words = (codes "eq", test.Eq) ∷ (codes "lt", test.Lt) ∷ (codes "ge", test.Ge) ∷ []

abbrev pub change_words : List (List ℕ × ChangeWord)
change_words = (codes "to", changeword.To) ∷ (codes "plus", changeword.Plus) ∷ []

abbrev pub changed_by : ChangeWord → Operand → Change
changed_by changeword.To operand = change.To operand
changed_by changeword.Plus operand = change.Plus operand

-- ["insert",table,[operand,...]] with 1 to 8 operands
unfoldable pub insert_of : Digits → Data → Result Item Fault
insert_of digits d = fixed 3 d >>= λ ds. part 1 name_of ds >>= λ table.
    part 2 (array_of 1 8 (each_of (operand_of digits))) ds >>= λ values.
    Ok (item.Statement (statement.Insert table values))

-- ["update",table,operand,column,"to" or "plus",operand]
unfoldable pub update_of : Digits → Data → Result Item Fault
update_of digits d =
    fixed 6 d >>= λ ds. part 1 name_of ds >>= λ table. part 2 (operand_of digits) ds >>= λ key.
    part 3 name_of ds >>= λ column.
    part 4 (word_of change_words) ds >>= λ word. part 5 (operand_of digits) ds >>= λ operand.
    Ok (item.Statement (statement.Update table key column (changed_by word operand)))

-- ["delete",table,operand] and ["get",table,operand]
unfoldable pub delete_of : Digits → Data → Result Item Fault
delete_of digits d = fixed 3 d >>= λ ds. part 1 name_of ds >>= λ table. part 2 (operand_of digits)
    ds >>= λ key. Ok (item.Statement (statement.Delete table key))

unfoldable pub get_of : Digits → Data → Result Item Fault
get_of digits d = fixed 3 d >>= λ ds. part 1 name_of ds >>= λ table. part 2 (operand_of digits) ds
    >>= λ key. Ok (item.Statement (statement.Get table key))

-- ["select",table,column,"eq" or "lt" or "ge",operand]
unfoldable pub select_of : Digits → Data → Result Item Fault
select_of digits d =
    fixed 5 d >>= λ ds. part 1 name_of ds >>= λ table. part 2 name_of ds >>= λ column.
    part 3 (word_of test_words) ds >>= λ compared. part 4 (operand_of digits) ds >>= λ operand.
    Ok (item.Statement (statement.Select table column compared operand))

-- ["count",table], ["sum",table,column] and ["show",operand]
unfoldable pub count_of : Data → Result Item Fault
count_of d = fixed 2 d >>= λ ds. part 1 name_of ds >>= λ table.
    Ok (item.Statement (statement.Count table))

unfoldable pub sum_of : Data → Result Item Fault
sum_of d = fixed 3 d >>= λ ds. part 1 name_of ds >>= λ table. part 2 name_of ds >>= λ column.
    Ok (item.Statement (statement.Sum table column))

unfoldable pub show_of : Digits → Data → Result Item Fault
show_of digits d = fixed 2 d >>= λ ds. part 1 (operand_of digits) ds >>= λ operand.
    Ok (item.Statement (statement.Show operand))

-- ["set",name,value]
unfoldable pub set_of : Digits → Data → Result Item Fault
set_of digits d = fixed 3 d >>= λ ds. part 1 name_of ds >>= λ name. part 2 (value_of digits) ds >>=
    λ x. Ok (item.Set name x)

-- ["alter",text]
unfoldable pub alter_of : Data → Result Item Fault
alter_of d = fixed 2 d >>= λ ds. part 1 line_of ds >>= λ line. Ok (item.Alter line)

-- ["disable"], ["rollback"] and ["commit"]
abbrev pub alone_of : Item → Data → Result Item Fault
alone_of one d = fixed 1 d >>= λ _. Ok one

abbrev pub item_words : List (List ℕ × ItemWord)
item_words =
    (codes "insert", word.Insert) ∷ (codes "update", word.Update) ∷ (codes "delete", word.Delete)
    ∷ (codes "get", word.Get) ∷ (codes "select", word.Select) ∷ (codes "count", word.Count)
    ∷ (codes "sum", word.Sum) ∷ (codes "show", word.Show)
    ∷ (codes "set", word.Set) ∷ (codes "alter", word.Alter) ∷ (codes "disable", word.Disable)
    ∷ (codes "rollback", word.Rollback) ∷ (codes "commit", word.Commit) ∷ []

-- by the word that it begins with
abbrev pub item_by : Digits → ItemWord → Data → Result Item Fault
item_by digits word.Insert = insert_of digits
item_by digits word.Update = update_of digits
item_by digits word.Delete = delete_of digits
item_by digits word.Get = get_of digits
item_by digits word.Select = select_of digits
item_by digits word.Count = count_of
item_by digits word.Sum = sum_of
item_by digits word.Show = show_of digits
item_by digits word.Set = set_of digits
item_by digits word.Alter = alter_of
item_by digits word.Disable = alone_of item.Disable
item_by digits word.Rollback = alone_of item.Rollback
item_by digits word.Commit = alone_of item.Commit

unfoldable pub item_read : Digits → Data → Result Item Fault
item_read digits d = head_of item_words d >>= λ w. item_by digits w d
