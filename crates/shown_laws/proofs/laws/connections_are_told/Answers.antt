use Rattle.shown_laws.proofs.links.LinksTold.{runs_told, finishes_told}
use Rattle.shown_laws.proofs.links.Standing.{all_stand}
use Rattle.shown_laws.proofs.laws.connections_are_told.Goals as goal

pub returns : goal.returns
returns c = record {
  reached = runs_told c.runs_keep_invariant.ensures.reached all_stand;
  finishing = finishes_told c.runs_keep_invariant.ensures.reached c.runs_keep_invariant.ensures.finishing all_stand;
}
