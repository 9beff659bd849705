use Rattle.std.proofs.Common.{◌≡◌, Some, arith, rules}
use Rattle.json.specs.Json.{read_key}
use Rattle.json.proofs.Grammar.{read_key-shorter}
use Rattle.json_form.proofs.object_ahead.member_begins.Goals as goal

pub returns-clause-next : goal.returns-clause-next
returns-clause-next c = search rules

pub returns-clause-shorter : goal.returns-clause-shorter
returns-clause-shorter c =
    let key : read_key c.args.tokens.now ≡ Some (Some c.args.name.now, c.next_key.new.self) = search rules in
    let less = read_key-shorter c.args.tokens.now (Some c.args.name.now) c.next_key.new.self key in
    omega (arith, less)
