use Rattle.std.proofs.Common.{◌≡◌, ◌<◌, Some, None, arith, rules}
use Rattle.json.specs.Json.{read_key}
use Rattle.json_form.proofs.Offered.{read_key-shorter}
use Rattle.answer_forms.proofs.AnswersAhead.{member_joined}
use Rattle.answer_forms.proofs.answer_ahead.member_ahead.Goals as goal

pub returns-clause-begins : goal.returns-clause-begins
returns-clause-begins c =
    let some : 0 < c.args.depth = omega (arith, c.if-depth-eq0.false) in
    let key : read_key c.args.tokens.now ≡ Some (Some c.in_ok-name.name.now, c.next_key.new.self) = search rules in
    let ends : read_key c.named_ahead.new.tokens ≡ Some (None, c.object_ends.new.tokens) = search rules in
    member_joined c.args.depth c.args.tokens.now c.next_key.new.self c.named_ahead.new.tokens c.object_ends.new.tokens c.in_ok-name.name.now c.in_ok-one.one some key (search rules) c.in_ok-one.ensures.shorter ends

pub returns-clause-shorter : goal.returns-clause-shorter
returns-clause-shorter c =
    let key : read_key c.args.tokens.now ≡ Some (Some c.in_ok-name.name.now, c.next_key.new.self) = search rules in
    let one = read_key-shorter c.args.tokens.now (Some c.in_ok-name.name.now) c.next_key.new.self key in
    omega (arith, one, c.in_ok-one.ensures.shorter, c.in_ok-object_ends.ensures.shorter)
