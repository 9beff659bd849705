use Rattle.std.proofs.Common.{◌≤◌}
use Rattle.wire_bench.proofs.work.read_answers.Given as goal

abbrev pub invariant-loop-n-2 : goal.invariant-loop-n-2
invariant-loop-n-2 l = l.read ≤ l.count
