use Rattle.std.proofs.Common.{◌∙◌, ◌≤◌, map, arith}
use Rattle.report_moments.specs.Views.{happened_as}
use Rattle.legal_items.specs.Views.{placed_as}
use Rattle.legal_items.proofs.Looping.{told_more, draws_first, one_most}
use Rattle.legal_items.proofs.items.items_in.Goals as goal

pub loop-moment-preserved : goal.loop-moment-preserved
loop-moment-preserved c =
    let one = c.moment-item.result in
    let most : c.served_by-next.result ≤ 1 = one_most (happened_as one.what) c.served_by-next.result c.served_by-next.ensures in
    let next = c.loop-moment.invariant.next in
    record {
      told =
          told_more c.args.schedule.now c.args.ticks.now (map (λ draws. draws.now) c.args.kept.now) c.args.moments.now c.loop-moment.moment-index c.loop-moment.next
          c.ticks_before.result c.served_by-next.result one c.draws_at.result.now (map placed_as c.loop-moment.items.items) (map placed_as c.put_items.new.items.items)
          c.loop-moment-test.true c.moment-item.is c.ticks_before.ensures (c.draws_at.ensures ∙ draws_first c.args.kept.now c.loop-moment.next) c.served_by-next.ensures c.in_ok-put_items.ensures
          ∙ c.loop-moment.invariant.told;
      next = omega (arith, most, next);
    }
