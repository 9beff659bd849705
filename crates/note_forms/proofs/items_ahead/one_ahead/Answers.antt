use Rattle.std.proofs.Common.{◌≡◌, ◌∷◌, ap, ◌∙◌, arith}
use Rattle.json.specs.Token.{Token}
use Rattle.json.specs.Reads.{token_of}
use Rattle.note_forms.proofs.ServedAhead.{served_joined}
use Rattle.note_forms.proofs.items_ahead.one_ahead.Goals as goal

pub returns-in_ok-one-in-String-clause-begins : goal.returns-in_ok-one-in-String-clause-begins
returns-in_ok-one-in-String-clause-begins c =
    let first : c.array_begins.new.tokens ≡ token_of c.in_ok-word.field-0 ∷ c.next.new.self = grind arith in
    let is : c.array_begins.new.tokens ≡ Token.string c.in-String.word.now ∷ c.next.new.self = first ∙ ap (λ k. token_of k ∷ c.next.new.self) c.in-String.is in
    served_joined c.args.reader.now.notes.now c.args.reader.now.last c.args.depth c.in_ok-inside.inside c.args.tokens.now c.array_begins.new.tokens c.next.new.self c.worded_ahead.new.tokens c.in-String.word.now c.in_ok-one-in-String.one c.in_ok-inside.ensures.array is c.in_ok-one-in-String.ensures.ends
