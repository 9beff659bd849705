use Rattle.std.proofs.Common.{sym, ap, ◌∙◌, arith, length}
use Rattle.world_run.specs.Running.{Parts}
use Rattle.world_run.proofs.Unfinished.{found_unfinished, none_unfinished}
use Rattle.world_run.proofs.world.World.next_unfinished.Goals as goal

pub returns-then-is_unfinished-clause-next : goal.returns-then-is_unfinished-clause-next
returns-then-is_unfinished-clause-next g c = λ seen t is. found_unfinished t c.args.passed c.loop-at.at c.loop-at.auto.at (c.loop-at.invariant seen t is) (sym (c.is_unfinished.ensures seen t is) ∙ c.if-is_unfinished.true)

pub returns-clause-next : goal.returns-clause-next
returns-clause-next g c =
    let same = ap (λ (parts : Parts g.row.S.Denot g.row.R.Denot). length parts.clients) c.self.view_is in
    λ seen t is. none_unfinished _ (λ rule. g.R.BoundRule.rules rule) c.args.self.now.clients t is.stand c.args.passed c.loop-at.at (omega (arith, same, c.len-at-end.ensures, c.loop-at-test.false)) (c.loop-at.invariant seen t is)
