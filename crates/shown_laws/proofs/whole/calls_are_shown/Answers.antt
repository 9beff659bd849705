use Rattle.shown_laws.proofs.shown.ShowingsHold.{calls_shown}
use Rattle.shown_laws.proofs.whole.calls_are_shown.Goals as goal

pub returns : goal.returns
returns c = calls_shown c.runs_keep_invariant.ensures.finishing c.steps_are_told.ensures.finishing
