use Rattle.std.proofs.Common.{◌≡◌, ◌++◌, drop}
use Rattle.run_clauses.specs.meaning.EntryEvents.{stored_at}
use Rattle.entry_events.specs.Commits.{commits_as, all_stored}
use Rattle.entry_events.proofs.stored.stored_at.Given as goal

abbrev pub invariant-loop-at : goal.invariant-loop-at
invariant-loop-at l = all_stored l.all.items ++ stored_at (drop l.at l.entries) (commits_as (drop l.at l.commits)) ≡ stored_at l.entries (commits_as l.commits)
