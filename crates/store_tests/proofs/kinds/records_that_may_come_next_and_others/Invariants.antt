use Rattle.disk_model.specs.Mem.{mem_state}
use Rattle.commit_log.specs.Logs.{CanLog}
use Rattle.store_tests.proofs.kinds.records_that_may_come_next_and_others.Given as goal

abbrev pub invariant-tried : goal.invariant-tried
invariant-tried g l = CanLog l.log (mem_state l.disk)
