use Rattle.std.proofs.Common.{◌∙◌, ◌≤◌, ◌+◌, sym, arith}
use Rattle.report_parts.proofs.Searches.{since_next, next_most}
use Rattle.report_parts.proofs.looking.behind_decided.Goals as goal

pub loop-at-preserved : goal.loop-at-preserved
loop-at-preserved c =
    let shown = c.args.shown.now in
    let from = c.loop-at.from in
    let at = c.loop-at.at in
    let one = c.index-shown-at.result in
    let next = c.next_from-from.result in
    let most : next ≤ at + 1 = next_most from at next one c.loop-at.invariant.behind c.next_from-from.ensures in
    record {
      since = sym (since_next shown from at next one c.loop-at-test.true c.index-shown-at.is c.loop-at.invariant.behind c.next_from-from.ensures) ∙ c.loop-at.invariant.since;
      behind = most;
      within = omega arith;
    }
