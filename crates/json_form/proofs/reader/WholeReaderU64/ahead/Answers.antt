use Rattle.std.proofs.Common.{◌≡◌, ◌∷◌, ap, ◌∙◌, arith}
use Rattle.json.specs.Token.{Token}
use Rattle.json.specs.Reads.{token_of}
use Rattle.json_form.proofs.NumbersAhead.{whole_begins}
use Rattle.json_form.proofs.reader.WholeReaderU64.ahead.Goals as goal

pub returns-clause-begins : goal.returns-clause-begins
returns-clause-begins c =
    let first : c.args.tokens.now ≡ token_of c.in_ok-text.field-0 ∷ c.next.new.self = grind arith in
    let is : c.args.tokens.now ≡ Token.number c.in-Number.text.now ∷ c.next.new.self = first ∙ ap (λ k. token_of k ∷ c.next.new.self) c.in-Number.is in
    whole_begins c.args.self.now.low c.args.self.now.high c.args._depth c.in-Number.text.now c.in_ok-number.number c.args.tokens.now c.next.new.self is c.in_ok-number.ensures (omega arith) (omega arith)
