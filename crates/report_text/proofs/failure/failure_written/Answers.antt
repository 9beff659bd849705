use Rattle.report_text.specs.meaning.Failures.{failure_value}
use Rattle.report_text.proofs.failure.failure_written.Goals as goal

pub returns-in-Incomplete : goal.returns-in-Incomplete
unfolding failure_value
returns-in-Incomplete c = rw c.in-Incomplete.is c.of_ltxid.ensures

pub returns-in-ReplayTimeout : goal.returns-in-ReplayTimeout
unfolding failure_value
returns-in-ReplayTimeout c = rw c.in-ReplayTimeout.is c.two_numbers.ensures

pub returns-in-PoolWait : goal.returns-in-PoolWait
unfolding failure_value
returns-in-PoolWait c = rw c.in-PoolWait.is c.two_numbers-in-PoolWait.ensures
