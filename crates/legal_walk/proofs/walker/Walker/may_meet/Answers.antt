use Rattle.std.proofs.Common.{Bool, ◌&&◌, sym, ap, ◌∙◌}
use Rattle.std.proofs.lemmas.Result.{IfOk-weaker}
use Rattle.legal_walk.specs.Items.{reaches}
use Rattle.legal_walk.proofs.Stepping.{may_is}
use Rattle.legal_walk.proofs.walker.Walker.may_meet.Goals as goal

pub returns-then-not-may_block : goal.returns-then-not-may_block
returns-then-not-may_block c = λ base walk walks.
    let next = c.next_of.result in
    ap (λ (b : Bool). b && reaches base walk c.args.now c.args.session.now c.args.call.now) (sym c.if-not-may_block.true)
    ∙ may_is base walk c.args.self.now walks c.args.now c.args.session.now c.args.call.now c.args.replay c.has_commit.result c.may_block.result next c.has_commit.ensures c.if-not-has_commit.false c.if-replay.false (c.next_of.ensures base walk walks.beside) (c.may_block.ensures base walk walks.beside)

pub returns : goal.returns
returns c =
    IfOk-weaker c.reaches_commit.result _ _
    (λ met is base walk walks.
    let next = c.next_of.result in
    is base walk walks
    ∙ ap (λ (b : Bool). b && reaches base walk c.args.now c.args.session.now c.args.call.now) (sym c.if-not-may_block.false)
    ∙ may_is base walk c.args.self.now walks c.args.now c.args.session.now c.args.call.now c.args.replay c.has_commit.result c.may_block.result next c.has_commit.ensures c.if-not-has_commit.false c.if-replay.false (c.next_of.ensures base walk walks.beside)
    (c.may_block.ensures base walk walks.beside))
    c.reaches_commit.ensures
