use Rattle.std.proofs.Common.{◌+◌, ◌++◌, ◌∙◌, List, drop, sym, ap}
use Rattle.run_clauses.specs.meaning.EntryEvents.{Commit, commits_from}
use Rattle.report_moments.specs.declared.moments.Moment.{Moment}
use Rattle.report_moments.specs.Views.{moment_as, moments_as}
use Rattle.report_moments.proofs.Offered.{left_is}
use Rattle.entry_events.specs.Commits.{commits_as}
use Rattle.entry_events.proofs.CommitsAt.{commits_on}
use Rattle.entry_events.proofs.commits.commits_in.Goals as goal

pub loop-moment-preserved : goal.loop-moment-preserved
loop-moment-preserved c =
    let entries = c.args.entries.now in
    let moments = c.args.moments.now in
    let i = c.loop-moment.moment-index in
    let moment = c.moment-item.result in
    let front = commits_as c.loop-moment.found.items in
    let rest = moments_as (drop (i + 1) moments) in
    ap (λ (l : List Commit). l ++ commits_from entries l rest) c.in_ok-push_commits.ensures
    ∙ (commits_on entries front (moment_as moment) rest
    ∙ (ap (λ (l : List Moment). front ++ commits_from entries front (moments_as l)) (sym (left_is moments i moment c.loop-moment-test.true c.moment-item.is)) ∙ c.loop-moment.invariant))
