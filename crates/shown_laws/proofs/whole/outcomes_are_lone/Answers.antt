use Rattle.shown_laws.proofs.shown.CallsServed.{outcomes_are_lone}
use Rattle.shown_laws.proofs.whole.outcomes_are_lone.Goals as goal

pub returns : goal.returns
returns c = outcomes_are_lone c.runs_keep_invariant.ensures.finishing c.steps_are_told.ensures.finishing
