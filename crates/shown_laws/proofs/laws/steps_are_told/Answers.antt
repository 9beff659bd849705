use Rattle.shown_laws.proofs.steps.ClientsTold.{runs_tell_steps, finishes_tell_steps}
use Rattle.shown_laws.proofs.links.Standing.{all_stand}
use Rattle.shown_laws.proofs.laws.steps_are_told.Goals as goal

pub returns : goal.returns
returns c = record {
  reached = runs_tell_steps c.runs_keep_invariant.ensures.reached all_stand;
  finishing = finishes_tell_steps c.runs_keep_invariant.ensures.reached c.runs_keep_invariant.ensures.finishing all_stand;
}
