use Rattle.shown_laws.proofs.shown.CallsServed.{calls_are_served}
use Rattle.shown_laws.proofs.whole.calls_are_served.Goals as goal

pub returns : goal.returns
returns c = calls_are_served c.calls_are_answered.ensures c.outcomes_are_lone.ensures
