use Rattle.legal_laws.proofs.MarksBrought.{marks_told}
use Rattle.legal_laws.proofs.laws.told_replays_bring_draws.Goals as goal

pub returns : goal.returns
returns c = marks_told c.runs_keep_invariant.ensures.reached c.replays_repeat_in_order.ensures
