use Rattle.std.proofs.Common.{◌≤◌, ◌+◌, length}
use Rattle.report_parts.proofs.Reaching.{On}
use Rattle.report_parts.proofs.parts.reach.Given as goal

abbrev pub invariant-loop-len : goal.invariant-loop-len
invariant-loop-len l = record {
  on : On l.steps l.len l.before l.acquired l.upto;
  most : l.acquired ≤ l.before + l.len;
  within : l.len ≤ length l.steps;
}
