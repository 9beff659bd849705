use Rattle.shown_laws.proofs.judged.CausedRuns.{runs_are_caused}
use Rattle.shown_laws.proofs.laws.runs_are_caused.Goals as goal

pub returns : goal.returns
returns c = runs_are_caused c.steps_are_told.ensures.finishing c.runs_keep_invariant.ensures.finishing
