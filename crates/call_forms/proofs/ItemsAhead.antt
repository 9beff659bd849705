-- An item whose parts were read one after the other.
use Rattle.std.proofs.Common.{◌≡◌, ℕ, List, Option, Some, None, Result, Ok, ap, ◌∙◌}
use Rattle.json.specs.Token.{Token}
use Rattle.json.specs.Json.{parse_map}
use Rattle.serde_json.specs.Data.{Data, array, Items, no_items, item}
use Rattle.serde_json.specs.Find.{as_str}
use Rattle.json_form.specs.declared.hexadecimal.Digits.{Digits}
use Rattle.json_form.specs.meaning.Faults.{Fault, ◌>>=◌, within_item}
use Rattle.json_form.specs.meaning.Values.{expected}
use Rattle.json_form.specs.meaning.Arrays.{fixed, part}
use Rattle.json_form.specs.meaning.Texts.{chosen, named, word_of, head_of}
use Rattle.json_form.specs.Streams.{value_ahead, items_ahead, Begins, IsLastItem}
use Rattle.svc_values.specs.declared.statement.Operand.{Operand}
use Rattle.svc_values.specs.declared.statement.Test.{Test}
use Rattle.svc_values.specs.declared.statement.Statement.TheVariants as statement
use Rattle.call_forms.specs.declared.item.Item.{Item}
use Rattle.call_forms.specs.declared.item.Item.TheVariants as item
use Rattle.call_forms.specs.declared.item.ChangeWord.{ChangeWord}
use Rattle.call_forms.specs.declared.item.ItemWord.{ItemWord}
use Rattle.call_forms.specs.meaning.Values.{name_of, operand_of}
use Rattle.call_forms.specs.meaning.Items.{test_words, change_words, changed_by, select_of, update_of, item_words, item_by, item_read}
use Rattle.call_forms.specs.ItemsAhead.{Ends}
use Rattle.json_form.proofs.Offered.{read_ahead}

-- ---- the parts behind the word

pub one_part : {A : Type 0} (reads : Data → Result A Fault) (make : A → Item) (depth : ℕ) (ts rest : List Token) (x : A) → IsLastItem reads depth ts x rest
    → Ends (λ d. fixed 2 d >>= λ ds. part 1 reads ds >>= λ a. Ok (make a)) depth ts (make x) rest
unfolding part
one_part reads make depth ts rest x l = (item l.0 no_items, l.1, λ word. ap (λ (r : Result _ Fault). within_item 1 r >>= λ a. Ok (make a)) l.2)

pub two_parts : {A B : Type 0} (reads : Data → Result A Fault) (behind : Data → Result B Fault) (make : A → B → Item) (depth : ℕ) (ts r rest : List Token) (x : A) (y : B) → Begins reads depth ts x r → IsLastItem behind depth r y rest
    → Ends (λ d. fixed 3 d >>= λ ds. part 1 reads ds >>= λ a. part 2 behind ds >>= λ b. Ok (make a b)) depth ts (make x y) rest
unfolding part
two_parts reads behind make depth ts r rest x y begins l =
    let d = read_ahead reads depth ts r rest x (item l.0 no_items) begins l.1 in (
      item d.0 (item l.0 no_items),
      d.1,
      λ word. ap (λ (q : Result _ Fault). within_item 1 q >>= λ a. within_item 2 (behind l.0) >>= λ b. Ok (make a b)) d.2 ∙ ap (λ (q : Result _ Fault). within_item 2 q >>= λ b. Ok (make x b)) l.2,
    )

select_read : (digits : Digits) (word d e f g : Data) (table column : List ℕ) (compared : Test) (operand : Operand) → name_of d ≡ Ok table → name_of e ≡ Ok column → word_of test_words f ≡ Ok compared → operand_of digits g ≡ Ok operand
    → select_of digits (array (item word (item d (item e (item f (item g no_items)))))) ≡ Ok (item.Statement (statement.Select table column compared operand))
unfolding select_of part
select_read digits word d e f g table column compared operand h k l m =
    ap (λ (r : Result _ Fault). within_item 1 r >>= λ a. within_item 2 (name_of e) >>= λ b. within_item 3 (word_of test_words f) >>= λ c. within_item 4 (operand_of digits g) >>= λ o. Ok (item.Statement (statement.Select a b c o))) h
    ∙ ap (λ (r : Result _ Fault). within_item 2 r >>= λ b. within_item 3 (word_of test_words f) >>= λ c. within_item 4 (operand_of digits g) >>= λ o. Ok (item.Statement (statement.Select table b c o))) k
    ∙ ap (λ (r : Result _ Fault). within_item 3 r >>= λ c. within_item 4 (operand_of digits g) >>= λ o. Ok (item.Statement (statement.Select table column c o))) l
    ∙ ap (λ (r : Result _ Fault). within_item 4 r >>= λ o. Ok (item.Statement (statement.Select table column compared o))) m

pub select_ends : (digits : Digits) (depth : ℕ) (ts r s t rest : List Token) (table column : List ℕ) (compared : Test) (operand : Operand) → Begins name_of depth ts table r → Begins name_of depth r column s → Begins (word_of test_words) depth s compared t
    → IsLastItem (operand_of digits) depth t operand rest → Ends (select_of digits) depth ts (item.Statement (statement.Select table column compared operand)) rest
select_ends digits depth ts r s t rest table column compared operand h k l m =
    let f = read_ahead (word_of test_words) depth s t rest compared (item m.0 no_items) l m.1 in
    let e = read_ahead name_of depth r s rest column (item f.0 (item m.0 no_items)) k f.1 in
    let d = read_ahead name_of depth ts r rest table (item e.0 (item f.0 (item m.0 no_items))) h e.1 in
    (item d.0 (item e.0 (item f.0 (item m.0 no_items))), d.1, λ word. select_read digits word d.0 e.0 f.0 m.0 table column compared operand d.2 e.2 f.2 m.2)

update_read : (digits : Digits) (word d e f g i : Data) (table : List ℕ) (key : Operand) (column : List ℕ) (change : ChangeWord) (operand : Operand)
    → name_of d ≡ Ok table → operand_of digits e ≡ Ok key → name_of f ≡ Ok column → word_of change_words g ≡ Ok change → operand_of digits i ≡ Ok operand
    → update_of digits (array (item word (item d (item e (item f (item g (item i no_items))))))) ≡ Ok (item.Statement (statement.Update table key column (changed_by change operand)))
unfolding update_of part
update_read digits word d e f g i table key column change operand h k l m n =
    ap (λ (r : Result _ Fault). within_item 1 r >>= λ a. within_item 2 (operand_of digits e) >>= λ b. within_item 3 (name_of f) >>= λ c. within_item 4 (word_of change_words g) >>= λ w. within_item 5 (operand_of digits i) >>= λ o. Ok (item.Statement (statement.Update a b c (changed_by w o)))) h
    ∙ ap (λ (r : Result _ Fault). within_item 2 r >>= λ b. within_item 3 (name_of f) >>= λ c. within_item 4 (word_of change_words g) >>= λ w. within_item 5 (operand_of digits i) >>= λ o. Ok (item.Statement (statement.Update table b c (changed_by w o)))) k
    ∙ ap (λ (r : Result _ Fault). within_item 3 r >>= λ c. within_item 4 (word_of change_words g) >>= λ w. within_item 5 (operand_of digits i) >>= λ o. Ok (item.Statement (statement.Update table key c (changed_by w o)))) l
    ∙ ap (λ (r : Result _ Fault). within_item 4 r >>= λ w. within_item 5 (operand_of digits i) >>= λ o. Ok (item.Statement (statement.Update table key column (changed_by w o)))) m
    ∙ ap (λ (r : Result _ Fault). within_item 5 r >>= λ o. Ok (item.Statement (statement.Update table key column (changed_by change o)))) n

pub update_ends : (digits : Digits) (depth : ℕ) (ts r s t u rest : List Token) (table : List ℕ) (key : Operand) (column : List ℕ) (change : ChangeWord) (operand : Operand)
    → Begins name_of depth ts table r → Begins (operand_of digits) depth r key s → Begins name_of depth s column t → Begins (word_of change_words) depth t change u → IsLastItem (operand_of digits) depth u operand rest
    → Ends (update_of digits) depth ts (item.Statement (statement.Update table key column (changed_by change operand))) rest
update_ends digits depth ts r s t u rest table key column change operand h k l m n =
    let g = read_ahead (word_of change_words) depth t u rest change (item n.0 no_items) m n.1 in
    let f = read_ahead name_of depth s t rest column (item g.0 (item n.0 no_items)) l g.1 in
    let e = read_ahead (operand_of digits) depth r s rest key (item f.0 (item g.0 (item n.0 no_items))) k f.1 in
    let d = read_ahead name_of depth ts r rest table (item e.0 (item f.0 (item g.0 (item n.0 no_items)))) h e.1 in
    (item d.0 (item e.0 (item f.0 (item g.0 (item n.0 no_items)))), d.1, λ word. update_read digits word d.0 e.0 f.0 g.0 n.0 table key column change operand d.2 e.2 f.2 g.2 n.2)

-- ---- the whole item

by_text : {A : Type 0} (pairs : List (List ℕ × A)) (w : A) (o : Option (List ℕ)) → (expected o >>= chosen pairs) ≡ Ok w → named pairs o ≡ Ok w
by_text pairs w None h = absurd (cc)
by_text pairs w (Some text) h = h

-- an array is read by the word that it begins with
pub head_is : {A : Type 0} (pairs : List (List ℕ × A)) (d : Data) (ds : Items) (w : A) → word_of pairs d ≡ Ok w → head_of pairs (array (item d ds)) ≡ Ok w
head_is pairs d ds w h = by_text pairs w (as_str d) h

pub item_joined : (digits : Digits) (w : ItemWord) (depth inside : ℕ) (ts begin behind rest : List Token) (one : Item) → value_ahead depth ts ≡ parse_map array (items_ahead inside begin)
    → Begins (word_of item_words) inside begin w behind → Ends (item_by digits w) inside behind one rest → Begins (item_read digits) depth ts one rest
unfolding item_read
item_joined digits w depth inside ts begin behind rest one opens begins ends =
    let d = read_ahead (word_of item_words) inside begin behind rest w ends.0 begins ends.1 in
    let whole = array (item d.0 ends.0) in
    let read = ap (λ (r : Result ItemWord Fault). r >>= λ v. item_by digits v whole) (head_is item_words d.0 ends.0 w d.2) ∙ ends.2 d.0 in
    ap (parse_map (item_read digits)) (opens ∙ ap (parse_map array) d.1) ∙ ap (λ q. Some (q, rest)) read
