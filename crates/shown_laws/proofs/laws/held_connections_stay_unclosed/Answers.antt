use Rattle.shown_laws.proofs.links.Standing.{all_stand}
use Rattle.shown_laws.proofs.links.UnclosedRuns.{runs_unclosed, finishes_unclosed}
use Rattle.shown_laws.proofs.laws.held_connections_stay_unclosed.Goals as goal

pub returns : goal.returns
returns c = record {
  reached = runs_unclosed c.runs_keep_invariant.ensures.reached all_stand;
  finishing = finishes_unclosed c.runs_keep_invariant.ensures.reached c.runs_keep_invariant.ensures.finishing all_stand;
}
