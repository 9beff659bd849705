use Rattle.std.proofs.Common.{◌∙◌}
use Rattle.legal_walk.proofs.Stepping.{reaches_is}
use Rattle.legal_walk.proofs.walker.Walker.reaches_commit.Goals as goal

pub returns : goal.returns
returns c = λ base walk walks.
    c.in_ok-met.ensures
    ∙ reaches_is base walk c.args.self.now walks c.args.now c.args.session.now c.args.call.now c.in_ok-going.going c.as_slice.result.now c.in_ok-going.ensures (c.as_slice.ensures.value ∙ c.in_ok-asked.ensures)
