use Rattle.std.proofs.Common.{◌≡◌, ◌∷◌, ℕ, List, Some, Result, Ok, Err, ap, ◌∙◌, arith}
use Rattle.std.specs.Prelude.{IfSome}
use Rattle.std.specs.Result.{result_ok}
use Rattle.json.specs.Token.{Token}
use Rattle.json.specs.Json.{parse_map}
use Rattle.json.specs.Reads.{token_of}
use Rattle.json_form.specs.declared.fault.DocFault.{DocFault}
use Rattle.json_form.specs.Faults.{Gives}
use Rattle.json_form.specs.meaning.Texts.{chosen, word_of}
use Rattle.json_form.specs.Streams.{value_ahead, Begins}
use Rattle.json_form.proofs.Ahead.{string_ahead}
use Rattle.json_form.proofs.fixed_ahead.word_ahead.Goals as goal

begins_word : {A : Type 0} (pairs : List (List ℕ × A)) (word : List ℕ) (ts r : List Token) (told : Result A DocFault) → ts ≡ Token.string word ∷ r → Gives told (chosen pairs word)
    → IfSome (result_ok told) (λ x. (depth : ℕ) → Begins (word_of pairs) depth ts x r)
begins_word pairs word ts r (Ok x) first e = λ depth. ap (λ ks. parse_map (word_of pairs) (value_ahead depth ks)) first ∙ ap (parse_map (word_of pairs)) (string_ahead depth word r) ∙ ap (λ q. Some (q, r)) e
begins_word pairs word ts r (Err f) first e = tt

pub returns-in-String-clause-begins : goal.returns-in-String-clause-begins
returns-in-String-clause-begins g c =
    let first : c.args.tokens.now ≡ token_of c.in_ok-word.field-0 ∷ c.next.new.self = grind arith in
    let is : c.args.tokens.now ≡ Token.string c.in-String.word.now ∷ c.next.new.self = first ∙ ap (λ k. token_of k ∷ c.next.new.self) c.in-String.is in
    rw c.ok.ensures.value (begins_word _ c.in-String.word.now c.args.tokens.now c.next.new.self c.chosen.result is c.chosen.ensures)
