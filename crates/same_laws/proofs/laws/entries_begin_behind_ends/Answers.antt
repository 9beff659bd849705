use Rattle.same_laws.proofs.DrawRuns.{runs_start, whole_runs_start}
use Rattle.same_laws.proofs.laws.entries_begin_behind_ends.Goals as goal

pub returns : goal.returns
returns c =
    let start =
    runs_start c.runs_keep_invariant.ensures.reached c.calls_are_verified.ensures.reached c.answers_are_known.ensures.reached c.repeated_calls_redraw.ensures.reached c.transactions_begin_rightly.ensures c.commits_are_answered.ensures.reached c.committed_sendings_ran_last.ensures.reached in
    record { reached = start; run = whole_runs_start start }
