use Rattle.shown_laws.proofs.links.Standing.{all_stand}
use Rattle.shown_laws.proofs.owners.TurnsInRuns.{reached_turns, finishing_turns}
use Rattle.shown_laws.proofs.laws.turns_are_told.Goals as goal

pub returns : goal.returns
returns c = record {
  reached = reached_turns c.runs_keep_invariant.ensures.reached all_stand;
  finishing = finishing_turns c.runs_keep_invariant.ensures.reached all_stand c.runs_keep_invariant.ensures.finishing;
}
