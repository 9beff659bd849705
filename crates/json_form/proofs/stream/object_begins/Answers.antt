use Rattle.std.proofs.Common.{◌≡◌, ◌∷◌, ap, ◌∙◌, arith}
use Rattle.json.specs.Reads.{token_of}
use Rattle.json_form.specs.Streams.{value_ahead}
use Rattle.json_form.proofs.Ahead.{object_ahead}
use Rattle.json_form.proofs.stream.object_begins.Goals as goal

pub returns-in-BeginObject-clause-object : goal.returns-in-BeginObject-clause-object
returns-in-BeginObject-clause-object c =
    let first : c.args.tokens.now ≡ token_of c.in_ok-next.field-0 ∷ c.next.new.self = grind arith in
    (omega arith, ap (value_ahead c.args.depth) (first ∙ ap (λ k. token_of k ∷ c.next.new.self) c.in-BeginObject.is) ∙ object_ahead c.args.depth c.next.new.self (omega arith))
