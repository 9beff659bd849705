use Rattle.std.proofs.Common.{Bool, cond, sym, ap, ◌∙◌}
use Rattle.std.specs.Prelude.{None}
use Rattle.std.specs.List.{last_or}
use Rattle.legal_walk.proofs.Pieces.{standing_is}
use Rattle.legal_walk.proofs.service.Service.stands.Goals as goal

pub returns-then-not-is_same : goal.returns-then-not-is_same
returns-then-not-is_same c = λ base walk beside.
    let entry = c.in_ok-entry.entry.now in
    sym (ap (λ (b : Bool). cond b (last_or None entry.pieces) None) c.if-not-is_same.true)
    ∙ standing_is walk c.args.session.now c.args.replay c.args.call.now c.next_of.result c.args.self.now.ledger.left entry c.is_same.result c.has_commit.result beside.left (c.next_of.ensures base walk beside) c.in_ok-entry.ensures
    c.has_commit.ensures c.if-not-has_commit.false c.if-replay.false c.is_same.ensures

pub returns : goal.returns
returns c = λ base walk beside.
    let entry = c.in_ok-entry.entry.now in
    c.last_piece.ensures ∙ sym (ap (λ (b : Bool). cond b (last_or None entry.pieces) None) c.if-not-is_same.false)
    ∙ standing_is walk c.args.session.now c.args.replay c.args.call.now c.next_of.result c.args.self.now.ledger.left entry c.is_same.result c.has_commit.result beside.left (c.next_of.ensures base walk beside) c.in_ok-entry.ensures
    c.has_commit.ensures c.if-not-has_commit.false c.if-replay.false c.is_same.ensures
