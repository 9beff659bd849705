use Rattle.std.proofs.Common.{◌≡◌, [], ◌++◌, drop}
use Rattle.run_clauses.specs.meaning.EntryEvents.{commits_from}
use Rattle.entry_events.specs.Commits.{commits_as}
use Rattle.report_moments.specs.Views.{moments_as}
use Rattle.entry_events.proofs.commits.commits_in.Given as goal

abbrev pub invariant-loop-moment : goal.invariant-loop-moment
invariant-loop-moment l = commits_as l.found.items ++ commits_from l.entries (commits_as l.found.items) (moments_as (drop l.moment-index l.moments)) ≡ commits_from l.entries [] (moments_as l.moments)
