use Rattle.shown_laws.proofs.owners.OwnTurns.{own_right}
use Rattle.shown_laws.proofs.links.WireFronts.{on_wire}
use Rattle.shown_laws.proofs.turns.own_turns_are_right.Goals as goal

pub returns : goal.returns
returns c = record { right = own_right; wire = on_wire }
