use Rattle.std.proofs.Common.{◌≡◌, ◌++◌, drop}
use Rattle.run_clauses.specs.meaning.EntryEvents.{run_commits}
use Rattle.entry_events.specs.Commits.{commits_as}
use Rattle.entry_events.proofs.commits.push_runs.Given as goal

abbrev pub invariant-loop-run : goal.invariant-loop-run
invariant-loop-run l = commits_as l.found.items ++ run_commits l.session l.event (drop l.run-index l.runs) ≡ commits_as l.initial.found.items ++ run_commits l.session l.event l.runs
