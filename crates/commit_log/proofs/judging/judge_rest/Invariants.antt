use Rattle.std.proofs.Common.{◌≡◌, ◌-◌, length}
use Rattle.disk_model.specs.Disk.{OnlyReads}
use Rattle.commit_log.specs.Judging.{HasJudged}
use Rattle.commit_log.proofs.judging.judge_rest.Given as goal

abbrev pub invariant-loop-payload : goal.invariant-loop-payload
invariant-loop-payload g l =
    let first = g.D.Disk.state l.fn.disk in
    record {
      only_reads : OnlyReads ⊥ first (g.D.Disk.state l.disk);
      judged : HasJudged l.judge l.walk first.now.seen;
      place : l.place ≡ l.walk.place;
    }

abbrev pub decreases-loop-payload : goal.decreases-loop-payload
decreases-loop-payload g l = length (g.D.Disk.state l.fn.disk).now.seen - l.walk.place
