-- An answer that was read from its tokens.
use Rattle.std.proofs.Common.{◌≡◌, ◌-◌, ◌<◌, ℕ, List, ◌∷◌, length, Some, None, Result, Ok, codes, ap, ◌∙◌, arith}
use Rattle.json.specs.Token.{Token}
use Rattle.json.specs.Json.{read_key, value, parse_map}
use Rattle.serde_json.specs.Data.{Data, no_members, put, object}
use Rattle.json_form.specs.meaning.Faults.{Fault, ◌>>=◌, within}
use Rattle.json_form.specs.meaning.Texts.{chosen}
use Rattle.json_form.specs.Streams.{value_ahead, Begins}
use Rattle.json_form.proofs.Offered.{string_ahead, object_ahead, begun, member_turn, members_over, read_key-shorter}
use Rattle.svc_values.specs.declared.value.Value.{Value}
use Rattle.svc_values.specs.declared.answer.Answer.{Answer}
use Rattle.svc_values.specs.declared.answer.Answer.TheVariants as answer
use Rattle.answer_forms.specs.declared.answer.AnswerWord.{AnswerWord}
use Rattle.answer_forms.specs.meaning.Answers.{rows_in, answer_words, answer_of, answer_named, answer_in}

-- what the member `rows` says
pub rows_named : (d : Data) (rows : List (List Value)) → rows_in d ≡ Ok rows → answer_named (codes "rows") d ≡ Ok (answer.Rows rows)
rows_named d rows h = ap (λ (r : Result (List (List Value)) Fault). within (codes "rows") r >>= λ found. Ok (answer.Rows found)) h

-- a word alone
pub word_begins : (depth : ℕ) (text : List ℕ) (ts : List Token) (w : AnswerWord) → chosen answer_words text ≡ Ok w → Begins answer_in depth (Token.string text ∷ ts) (answer_of w) ts
unfolding answer_in
word_begins depth text ts w h = ap (parse_map answer_in) (string_ahead depth text ts) ∙ ap (λ (r : Result AnswerWord Fault). Some (r >>= λ v. Ok (answer_of v), ts)) h

only_named : (name : List ℕ) (d : Data) (one : Answer) → answer_named name d ≡ Ok one → answer_in (object (put name d no_members)) ≡ Ok one
unfolding answer_in
only_named name d one h = h

-- an object with one member
pub member_joined : (depth : ℕ) (begin s r rest : List Token) (name : List ℕ) (one : Answer) → 0 < depth → read_key begin ≡ Some (Some name, s)
    → Begins (answer_named name) (depth - 1) s one r → length r < length s → read_key r ≡ Some (None, rest) → Begins answer_in depth (Token.begin_object ∷ begin) one rest
member_joined depth begin s r rest name one some key begins less ends =
    let inside = depth - 1 in
    let b = begun (answer_named name) (value_ahead inside s) one r begins in
    let ms = put name b.0 no_members in
    let fewer = read_key-shorter begin (Some name) s key in
    let turn = member_turn (value inside) no_members (length begin) name begin s r b.0 (omega (arith, fewer)) key b.1 in
    let over = members_over (value inside) ms (length begin - 1) r rest (omega (arith, fewer, less)) ends in
    ap (parse_map answer_in) (object_ahead depth begin some ∙ ap (parse_map object) (turn ∙ over)) ∙ ap (λ q. Some (q, rest)) (only_named name b.0 one b.2)
