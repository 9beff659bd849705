use Rattle.shown_laws.proofs.owners.TurnSent.{one_owner}
use Rattle.shown_laws.proofs.turns.turns_have_one_owner.Goals as goal

pub returns : goal.returns
returns c = one_owner
