use Rattle.disk_model.specs.Mem.{mem_state}
use Rattle.commit_log.specs.Logs.{CanLog}
use Rattle.log_bench.specs.Following.{IsFollowed}
use Rattle.log_bench.proofs.work.commits_read.Given as goal

abbrev pub invariant-loop-number : goal.invariant-loop-number
invariant-loop-number l = record {
  ready : CanLog l.log (mem_state l.disk);
  followed : IsFollowed l.book (mem_state l.disk).now.seen;
}
