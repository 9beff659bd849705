use Rattle.std.proofs.Common.{◌+◌, ◌-◌, ap, sym, ◌∙◌}
use Rattle.server_model.specs.meaning.NewValues.{gave_often}
use Rattle.legal_draws.proofs.Giving.{often_more}
use Rattle.legal_draws.proofs.count.Count.gave_often.Goals as goal

pub loop-preserved : goal.loop-preserved
loop-preserved c =
    ap (gave_often (c.args.values - (c.loop.counter + 1))) c.in_ok-count.ensures
    ∙ sym (often_more c.args.values c.loop.counter c.loop.count c.loop-test.true)
    ∙ c.loop.invariant
