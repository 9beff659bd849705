use Rattle.same_laws.proofs.DrawRuns.{runs_draw, whole_runs_draw}
use Rattle.same_laws.proofs.laws.entries_draw_as_shown.Goals as goal

pub returns : goal.returns
returns c =
    let draw =
    runs_draw c.runs_keep_invariant.ensures.reached c.calls_are_verified.ensures.reached c.answers_are_known.ensures.reached c.repeated_calls_redraw.ensures.reached c.replies_are_shown.ensures.reached c.calls_end_fittingly.ensures.reached c.lone_commits_are_stored.ensures.reached
    c.committed_sendings_ran_last.ensures.reached in
    record { reached = draw; run = whole_runs_draw draw }
