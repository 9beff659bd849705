use Rattle.shown_laws.proofs.owners.HeldTurns.{runs_right, finishes_right}
use Rattle.shown_laws.proofs.turns.held_turns_are_right.Goals as goal

pub returns : goal.returns
returns c = record {
  reached = runs_right c.runs_keep_invariant.ensures.reached c.marked_calls_meet_no_block.ensures.reached c.requests_begin_once.ensures.reached c.requests_send_near.ensures;
  finishing = finishes_right c.runs_keep_invariant.ensures.reached c.marked_calls_meet_no_block.ensures.reached c.requests_begin_once.ensures.reached c.requests_send_near.ensures;
}
