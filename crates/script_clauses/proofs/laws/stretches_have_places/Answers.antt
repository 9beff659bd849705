use Rattle.script_clauses.proofs.Places.{have_places}
use Rattle.script_clauses.proofs.laws.stretches_have_places.Goals as goal

pub returns : goal.returns
returns c = have_places
