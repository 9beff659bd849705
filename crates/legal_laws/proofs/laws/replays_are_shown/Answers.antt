use Rattle.legal_laws.proofs.ReplaysShown.{replays_shown}
use Rattle.legal_laws.proofs.laws.replays_are_shown.Goals as goal

pub returns : goal.returns
returns c = replays_shown c.runs_keep_invariant.ensures.reached c.runs_keep_invariant.ensures.finishing c.replays_repeat_in_order.ensures c.events_are_told.ensures.grow c.requests_go_on.ensures c.steps_are_told.ensures.finishing
