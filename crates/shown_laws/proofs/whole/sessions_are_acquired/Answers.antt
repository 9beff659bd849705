use Rattle.shown_laws.proofs.shown.PartsHold.{sessions_acquired}
use Rattle.shown_laws.proofs.whole.sessions_are_acquired.Goals as goal

pub returns : goal.returns
returns c = sessions_acquired c.runs_keep_invariant.ensures.finishing c.steps_are_told.ensures.finishing
