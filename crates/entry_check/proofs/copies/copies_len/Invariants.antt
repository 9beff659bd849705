use Rattle.std.proofs.Common.{◌≡◌, ◌+◌, drop}
use Rattle.entry_check.specs.Copying.{copies_len}
use Rattle.entry_check.proofs.copies.copies_len.Given as goal

abbrev pub invariant-loop-at : goal.invariant-loop-at
invariant-loop-at l = l.at + copies_len l.allowed (drop l.at l.reports) ≡ copies_len l.again l.reports
