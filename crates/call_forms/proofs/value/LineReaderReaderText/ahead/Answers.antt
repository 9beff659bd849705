use Rattle.std.proofs.Common.{◌≡◌, ◌∷◌, ap, ◌∙◌, arith}
use Rattle.json.specs.Token.{Token}
use Rattle.json.specs.Reads.{token_of}
use Rattle.call_forms.proofs.ValuesAhead.{line_told, line_begins}
use Rattle.call_forms.proofs.value.LineReaderReaderText.ahead.Goals as goal

pub returns-in-String-clause-begins : goal.returns-in-String-clause-begins
returns-in-String-clause-begins c =
    let first : c.args.tokens.now ≡ token_of c.in_ok-text.field-0 ∷ c.next.new.self = grind arith in
    let is : c.args.tokens.now ≡ Token.string c.in-String.text.now ∷ c.next.new.self = first ∙ ap (λ k. token_of k ∷ c.next.new.self) c.in-String.is in
    let told = line_told c.in-String.text.now c.new.result c.new.ensures.made c.new.ensures.long in
    rw c.ok.ensures.value (line_begins c.args._depth c.in-String.text.now c.args.tokens.now c.next.new.self _ is told)
