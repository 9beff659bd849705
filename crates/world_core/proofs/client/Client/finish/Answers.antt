use Rattle.std.proofs.lemmas.Result.{on_ok_weaker}
use Rattle.world_core.proofs.steps.Coursing.{finished}
use Rattle.world_core.proofs.client.Client.finish.Goals as goal

pub returns : goal.returns
returns g c = on_ok_weaker c.close.result
    (λ closes setting number tick client doing same none idle draft beside.
    finished _ (λ rule. g.R.BoundRule.rules rule) setting number tick c.args.self.now c.close.new.self client doing c.args.script.now c.in_ok-report.report closes same none idle (c.in_ok-report.ensures setting.terms doing.request _ draft) beside)
    c.close.ensures
