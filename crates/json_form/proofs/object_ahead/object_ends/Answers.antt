use Rattle.std.proofs.Common.{◌≡◌, Some, None, arith, rules}
use Rattle.json.specs.Json.{read_key}
use Rattle.json.proofs.Grammar.{read_key-shorter}
use Rattle.json_form.proofs.object_ahead.object_ends.Goals as goal

pub returns-clause-ends : goal.returns-clause-ends
returns-clause-ends c = search rules

pub returns-clause-shorter : goal.returns-clause-shorter
returns-clause-shorter c =
    let ends : read_key c.args.tokens.now ≡ Some (None, c.next_key.new.self) = search rules in
    let less = read_key-shorter c.args.tokens.now None c.next_key.new.self ends in
    omega (arith, less)
