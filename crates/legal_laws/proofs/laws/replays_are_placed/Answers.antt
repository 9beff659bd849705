use Rattle.legal_laws.proofs.ReplaysPlaced.{replays_placed}
use Rattle.legal_laws.proofs.laws.replays_are_placed.Goals as goal

pub returns : goal.returns
returns c = replays_placed c.runs_keep_invariant.ensures.reached c.marked_calls_meet_no_block.ensures.reached c.connections_are_told.ensures.reached c.turns_are_told.ensures.reached c.turns_are_of_acquirers.ensures.reached
