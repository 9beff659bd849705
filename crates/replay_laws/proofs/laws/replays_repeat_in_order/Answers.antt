use Rattle.replay_laws.proofs.ReplayOrder.{runs_repeat_in_order}
use Rattle.replay_laws.proofs.laws.replays_repeat_in_order.Goals as goal

pub returns : goal.returns
returns c = runs_repeat_in_order c.runs_keep_invariant.ensures.reached c.replays_repeat_shown_calls.ensures.each
