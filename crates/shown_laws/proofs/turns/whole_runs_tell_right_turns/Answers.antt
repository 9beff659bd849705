use Rattle.shown_laws.proofs.owners.AllTurnsRight.{whole_runs_tell_right}
use Rattle.shown_laws.proofs.links.Standing.{all_stand}
use Rattle.shown_laws.proofs.turns.whole_runs_tell_right_turns.Goals as goal

pub returns : goal.returns
returns c = whole_runs_tell_right c.runs_keep_invariant.ensures.reached c.runs_keep_invariant.ensures.finishing all_stand c.told_turns_are_right.ensures.finishing
