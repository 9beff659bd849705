use Rattle.shown_laws.proofs.links.Standing.{all_stand}
use Rattle.shown_laws.proofs.owners.TurnsInRuns.{reached_over, finishing_over}
use Rattle.shown_laws.proofs.turns.turns_before_are_told.Goals as goal

pub returns : goal.returns
returns c = record {
  reached = reached_over c.runs_keep_invariant.ensures.reached all_stand;
  finishing = finishing_over c.runs_keep_invariant.ensures.reached all_stand c.runs_keep_invariant.ensures.finishing;
}
