use Rattle.same_laws.proofs.DrawRuns.{runs_know_entries, whole_runs_know_entries}
use Rattle.same_laws.proofs.laws.entries_are_as_known.Goals as goal

pub returns : goal.returns
returns c =
    let know =
    runs_know_entries c.entries_follow_scripts.ensures.reached c.entries_go_on.ensures.reached c.entries_draw_as_shown.ensures.reached c.entries_begin_behind_ends.ensures.reached c.parts_make_entries.ensures in
    record { reached = know; run = whole_runs_know_entries know }
