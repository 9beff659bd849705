use Rattle.shown_laws.proofs.owners.TurnOwner.{has_all_calls}
use Rattle.shown_laws.proofs.turns.turns_have_all_calls.Goals as goal

pub returns : goal.returns
returns c = has_all_calls
