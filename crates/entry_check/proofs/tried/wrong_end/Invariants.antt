use Rattle.std.proofs.Common.{◌≡◌, ◌≤◌, drop}
use Rattle.run_clauses.specs.meaning.Tried.{holds}
use Rattle.entry_check.specs.Once.{ends_from, ends_right}
use Rattle.entry_check.proofs.tried.wrong_end.Given as goal

abbrev pub invariant-loop-at : goal.invariant-loop-at
invariant-loop-at l = record {
  rest : ends_from (holds l.stored) l.request.failed (drop l.over l.lists) (drop l.at l.calls) ≡ ends_right (holds l.stored) l.request;
  within : l.over ≤ l.at;
}
