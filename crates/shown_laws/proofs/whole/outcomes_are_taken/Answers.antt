use Rattle.shown_laws.proofs.shown.ShowingsHold.{outcomes_taken}
use Rattle.shown_laws.proofs.whole.outcomes_are_taken.Goals as goal

pub returns : goal.returns
returns c = outcomes_taken c.runs_keep_invariant.ensures.finishing c.steps_are_told.ensures.finishing
