use Rattle.std.proofs.Common.{◌≡◌, ◌+◌, ◌-◌, ap, ◌∙◌, arith}
use Rattle.server_model.specs.meaning.NewValues.{Count, blocks_for}
use Rattle.legal_draws.proofs.Giving.{blocks_more}
use Rattle.legal_draws.proofs.count.Count.blocks_for.Goals as goal

pub loop-preserved : goal.loop-preserved
loop-preserved c =
    let old = c.loop.count in
    let left = c.args.values - (c.loop.counter + 1) in
    let blocks = c.in_ok-blocks.blocks in
    let more = blocks_more c.args.values c.loop.counter old c.loop-test.true in
    let here : blocks ≡ c.loop.blocks + blocks_for 1 old.next old.upto = c.in_ok-blocks.ensures ∙ ap (λ n. c.loop.blocks + n) c.blocks_for_next.ensures in
    ap (λ (count : Count). blocks + blocks_for left count.next count.upto) c.in_ok-count.ensures ∙ omega (arith, more, here, c.loop.invariant)
