use Rattle.shown_laws.proofs.links.Standing.{all_stand}
use Rattle.shown_laws.proofs.owners.TurnsRightRuns.{runs_tell_right, finishes_tell_right}
use Rattle.shown_laws.proofs.turns.told_turns_are_right.Goals as goal

pub returns : goal.returns
returns c = record {
  reached = runs_tell_right c.runs_keep_invariant.ensures.reached all_stand c.marked_calls_meet_no_block.ensures.reached c.requests_begin_once.ensures.reached c.requests_send_near.ensures;
  finishing = finishes_tell_right c.runs_keep_invariant.ensures.reached all_stand c.marked_calls_meet_no_block.ensures.reached c.requests_begin_once.ensures.reached c.requests_send_near.ensures c.runs_keep_invariant.ensures.finishing;
}
