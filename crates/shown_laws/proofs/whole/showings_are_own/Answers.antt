use Rattle.shown_laws.proofs.shown.OwnShown.{own_shown}
use Rattle.shown_laws.proofs.whole.showings_are_own.Goals as goal

pub returns : goal.returns
returns c = own_shown c.runs_keep_invariant.ensures.finishing c.steps_are_told.ensures.finishing
