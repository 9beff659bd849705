use Rattle.std.proofs.Common.{ap}
use Rattle.std.proofs.lemmas.Result.{on_ok_weaker}
use Rattle.world_core.proofs.steps.Coursing.{over_with, kept_with}
use Rattle.world_core.proofs.steps.Resting.{is_kept}
use Rattle.world_core.proofs.client.Client.settle.Goals as goal

pub returns-in-GiveBack : goal.returns-in-GiveBack
returns-in-GiveBack g c = on_ok_weaker c.finish.result
    (λ finishes setting number tick is_lost client doing same none settles course beside.
    over_with _ (λ rule. g.R.BoundRule.rules rule) setting number tick c.args.hold c.args.self.now c.finish.new.self is_lost client doing (ap is_kept c.in-GiveBack.is) settles beside (λ idle rests. finishes setting number tick client doing same none idle course.draft rests))
    c.finish.ensures

pub returns-in-Drop : goal.returns-in-Drop
returns-in-Drop g c = on_ok_weaker c.finish-in-Drop.result
    (λ finishes setting number tick is_lost client doing same none settles course beside.
    over_with _ (λ rule. g.R.BoundRule.rules rule) setting number tick c.args.hold c.args.self.now c.finish-in-Drop.new.self is_lost client doing (ap is_kept c.in-Drop.is) settles beside (λ idle rests. finishes setting number tick client doing same none idle course.draft rests))
    c.finish-in-Drop.ensures

pub returns-in-Keep : goal.returns-in-Keep
returns-in-Keep g c = λ setting number tick is_lost client doing same none settles course beside.
    kept_with _ (λ rule. g.R.BoundRule.rules rule) setting number tick c.args.hold c.args.self.now c.keep.new.self is_lost client c.args.course doing c.in-Keep.is c.keep.ensures course beside
