-- Operands, statements and calls are read back from what is written of them.
use Rattle.std.proofs.Common.{◌≡◌, ℕ, Bool, true, false, List, [], ◌∷◌, ◌++◌, map, refl, ap, ◌∙◌, codes}
use Rattle.std.specs.Prelude.{◌||◌, if◌then◌else◌}
use Rattle.std.specs.List.{AllByRecursion}
use Rattle.std.specs.Str.{bytes_eq}
use Rattle.serde_json.specs.Data.{Data}
use Rattle.json_form.specs.meaning.Writing.{list_by}
use Rattle.svc_values.specs.declared.value.Value.TheVariants as value
use Rattle.svc_values.specs.declared.draw.DrawKind.TheVariants as kind
use Rattle.svc_values.specs.declared.statement.Operand.{Operand}
use Rattle.svc_values.specs.declared.statement.Operand.TheVariants as operand
use Rattle.svc_values.specs.declared.statement.Change.{Change}
use Rattle.svc_values.specs.declared.statement.Change.TheVariants as change
use Rattle.svc_values.specs.declared.statement.Test.{Test}
use Rattle.svc_values.specs.declared.statement.Test.TheVariants as test
use Rattle.svc_values.specs.declared.statement.Statement.{Statement}
use Rattle.svc_values.specs.declared.statement.Statement.TheVariants as statement
use Rattle.svc_values.specs.declared.call.Call.{Call}
use Rattle.svc_values.specs.declared.call.Call.TheVariants as call
use Rattle.report_text.specs.meaning.Values.{literal_value}
use Rattle.report_text.specs.meaning.Calls.{operand_value, test_word, change_word, changing, statement_value, commit_values, call_value}
use Rattle.report_text.specs.meaning.Octets.{OperandOfBytes, StatementOfBytes, CallOfBytes}
use Rattle.report_text.proofs.Places.{text_in, is_text, items, part, members_in, first_name, first_value, list_in, listed_back, list_back}
use Rattle.report_text.proofs.ValuesBack.{value_in, value_back}

-- an operand, of its member's name and value
abbrev operand_of : List ℕ → Data → Data → Operand
operand_of name inner d =
    if bytes_eq name (codes "var") then operand.Var (text_in inner)
    else if bytes_eq name (codes "seq") then operand.Draw (kind.Seq (text_in inner))
    else if bytes_eq name (codes "draw") then operand.Draw (if is_text (codes "clock") inner then kind.Clock else kind.Id)
    else operand.Lit (value_in d)

abbrev operand_in : Data → Operand
operand_in d = operand_of (first_name (members_in d)) (first_value (members_in d)) d

operand_back : (x : Operand) → OperandOfBytes x → operand_in (operand_value x) ≡ x
unfolding operand_value literal_value
operand_back (operand.Lit (value.Int n)) ok = ap operand.Lit (value_back (value.Int n) ok)
operand_back (operand.Lit (value.Text t)) ok = ap operand.Lit (value_back (value.Text t) ok)
operand_back (operand.Lit (value.Bytes octets)) ok = ap operand.Lit (value_back (value.Bytes octets) ok)
operand_back (operand.Var name) ok = refl
operand_back (operand.Draw (kind.Seq name)) ok = refl
operand_back (operand.Draw kind.Clock) ok = refl
operand_back (operand.Draw kind.Id) ok = refl

operands_back : (xs : List Operand) → AllByRecursion OperandOfBytes xs → list_in operand_in (list_by operand_value xs) ≡ xs
operands_back xs all = list_back OperandOfBytes operand_in operand_value operand_back xs all

abbrev change_of : List ℕ → Operand → Change
change_of word o = if bytes_eq word (codes "to") then change.To o else change.Plus o

change_back : (by : Change) → change_of (change_word by) (changing by) ≡ by
change_back (change.To o) = refl
change_back (change.Plus o) = refl

abbrev test_of : List ℕ → Test
test_of word = if bytes_eq word (codes "eq") then test.Eq else if bytes_eq word (codes "lt") then test.Lt else test.Ge

test_back : (compared : Test) → test_of (test_word compared) ≡ compared
test_back test.Eq = refl
test_back test.Lt = refl
test_back test.Ge = refl

-- a statement, of its word and its parts
abbrev statement_of : List ℕ → List Data → Statement
statement_of word ds =
    if bytes_eq word (codes "insert") then statement.Insert (text_in (part 1 ds)) (list_in operand_in (part 2 ds))
    else if bytes_eq word (codes "update") then statement.Update (text_in (part 1 ds)) (operand_in (part 2 ds)) (text_in (part 3 ds)) (change_of (text_in (part 4 ds)) (operand_in (part 5 ds)))
    else if bytes_eq word (codes "delete") then statement.Delete (text_in (part 1 ds)) (operand_in (part 2 ds))
    else if bytes_eq word (codes "get") then statement.Get (text_in (part 1 ds)) (operand_in (part 2 ds))
    else if bytes_eq word (codes "select") then statement.Select (text_in (part 1 ds)) (text_in (part 2 ds)) (test_of (text_in (part 3 ds))) (operand_in (part 4 ds))
    else if bytes_eq word (codes "count") then statement.Count (text_in (part 1 ds))
    else if bytes_eq word (codes "sum") then statement.Sum (text_in (part 1 ds)) (text_in (part 2 ds))
    else statement.Show (operand_in (part 1 ds))

abbrev word_in : Data → List ℕ
word_in d = text_in (part 0 (items d))

abbrev statement_in : Data → Statement
statement_in d = statement_of (word_in d) (items d)

statement_back : (x : Statement) → StatementOfBytes x → statement_in (statement_value x) ≡ x
unfolding statement_value
statement_back (statement.Insert table values) ok = ap (statement.Insert table) (operands_back values ok)
statement_back (statement.Update table key column by) ok = rw (operand_back key ok.0, operand_back (changing by) ok.1, change_back by) refl
statement_back (statement.Delete table key) ok = ap (statement.Delete table) (operand_back key ok)
statement_back (statement.Get table key) ok = ap (statement.Get table) (operand_back key ok)
statement_back (statement.Select table column compared o) ok = rw (test_back compared, operand_back o ok) refl
statement_back (statement.Count table) ok = refl
statement_back (statement.Sum table column) ok = refl
statement_back (statement.Show o) ok = ap statement.Show (operand_back o ok)

abbrev is_commit : Data → Bool
is_commit d = bytes_eq (word_in d) (codes "commit")

no_commit : (x : Statement) → is_commit (statement_value x) ≡ false
unfolding statement_value
no_commit (statement.Insert table values) = refl
no_commit (statement.Update table key column by) = refl
no_commit (statement.Delete table key) = refl
no_commit (statement.Get table key) = refl
no_commit (statement.Select table column compared o) = refl
no_commit (statement.Count table) = refl
no_commit (statement.Sum table column) = refl
no_commit (statement.Show o) = refl

abbrev statements_in : List Data → List Statement
statements_in [] = []
statements_in (d ∷ ds) = if is_commit d then statements_in ds else statement_in d ∷ statements_in ds

abbrev has_commit : List Data → Bool
has_commit [] = false
has_commit (d ∷ ds) = is_commit d || has_commit ds

statements_back : (xs : List Statement) (commit : Bool) → AllByRecursion StatementOfBytes xs → statements_in (map statement_value xs ++ commit_values commit) ≡ xs
statements_back [] true all = refl
statements_back [] false all = refl
statements_back (x ∷ xs) commit all = rw (no_commit x, statement_back x all.0, statements_back xs commit all.1) refl

commit_back : (xs : List Statement) (commit : Bool) → has_commit (map statement_value xs ++ commit_values commit) ≡ commit
commit_back [] true = refl
commit_back [] false = refl
commit_back (x ∷ xs) commit = rw (no_commit x, commit_back xs commit) refl

-- a call, of the parts of its first item and of all its items
abbrev call_of : List ℕ → List Data → List Data → Call
call_of word first ds =
    if bytes_eq word (codes "set") then call.Set (text_in (part 1 first)) (value_in (part 2 first))
    else if bytes_eq word (codes "alter") then call.Alter (text_in (part 1 first))
    else if bytes_eq word (codes "disable") then call.Disable
    else if bytes_eq word (codes "rollback") then call.Rollback
    else call.Work (statements_in ds) (has_commit ds)

abbrev call_among : List Data → Call
call_among ds = call_of (word_in (part 0 ds)) (items (part 0 ds)) ds

abbrev pub call_in : Data → Call
call_in d = call_among (items d)

work_among : (xs : List Statement) (commit : Bool) → call_among (map statement_value xs ++ commit_values commit) ≡ call.Work (statements_in (map statement_value xs ++ commit_values commit)) (has_commit (map statement_value xs ++ commit_values commit))
unfolding statement_value
work_among [] true = refl
work_among [] false = refl
work_among (statement.Insert table values ∷ xs) commit = refl
work_among (statement.Update table key column by ∷ xs) commit = refl
work_among (statement.Delete table key ∷ xs) commit = refl
work_among (statement.Get table key ∷ xs) commit = refl
work_among (statement.Select table column compared o ∷ xs) commit = refl
work_among (statement.Count table ∷ xs) commit = refl
work_among (statement.Sum table column ∷ xs) commit = refl
work_among (statement.Show o ∷ xs) commit = refl

work_back : (xs : List Statement) (commit : Bool) → AllByRecursion StatementOfBytes xs → call_among (map statement_value xs ++ commit_values commit) ≡ call.Work xs commit
work_back xs commit all = work_among xs commit ∙ rw (statements_back xs commit all, commit_back xs commit) refl

pub call_back : (x : Call) → CallOfBytes x → call_in (call_value x) ≡ x
unfolding call_value
call_back (call.Work statements commit) ok = ap call_among (listed_back (map statement_value statements ++ commit_values commit)) ∙ work_back statements commit ok
call_back (call.Set name x) ok = ap (call.Set name) (value_back x ok)
call_back (call.Alter line) ok = refl
call_back call.Disable ok = refl
call_back call.Rollback ok = refl
