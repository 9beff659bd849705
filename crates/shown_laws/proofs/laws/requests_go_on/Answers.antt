use Rattle.shown_laws.proofs.steps.RequestsGrow.{requests_grow}
use Rattle.shown_laws.proofs.links.Standing.{all_stand}
use Rattle.shown_laws.proofs.laws.requests_go_on.Goals as goal

pub returns : goal.returns
returns c = requests_grow c.runs_keep_invariant.ensures.reached all_stand
