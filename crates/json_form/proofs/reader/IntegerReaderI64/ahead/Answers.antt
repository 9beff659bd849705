use Rattle.std.proofs.Common.{◌≡◌, ◌∷◌, Some, Ok, w64, FitsSigned, sym, ap, ◌∙◌, arith, rules}
use Rattle.std.proofs.lemmas.Int.{to_z-of_z}
use Rattle.json.specs.Token.{Token}
use Rattle.json.specs.Reads.{token_of}
use Rattle.json_form.proofs.NumbersAhead.{integer_begins}
use Rattle.json_form.proofs.reader.IntegerReaderI64.ahead.Goals as goal

pub returns-clause-begins : goal.returns-clause-begins
returns-clause-begins c =
    let first : c.args.tokens.now ≡ token_of c.in_ok-text.field-0 ∷ c.next.new.self = grind arith in
    let is : c.args.tokens.now ≡ Token.number c.in-Number.text.now ∷ c.next.new.self = first ∙ ap (λ k. token_of k ∷ c.next.new.self) c.in-Number.is in
    let fits : FitsSigned w64 c.in_ok-number.number = search (rules, arith) in
    let begins = integer_begins c.args._depth c.in-Number.text.now c.in_ok-number.number c.args.tokens.now c.next.new.self is c.in_ok-number.ensures fits in
    begins ∙ ap (λ z. Some (Ok z, c.next.new.self)) (sym (to_z-of_z w64 c.in_ok-number.number fits))
