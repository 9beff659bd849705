use Rattle.shown_laws.proofs.shown.AnswersTold.{calls_are_answered}
use Rattle.shown_laws.proofs.whole.calls_are_answered.Goals as goal

pub returns : goal.returns
returns c = calls_are_answered c.runs_keep_invariant.ensures.finishing c.steps_are_told.ensures.finishing
