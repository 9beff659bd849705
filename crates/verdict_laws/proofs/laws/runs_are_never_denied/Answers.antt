use Rattle.verdict_laws.proofs.Pairing.{runs_undenied}
use Rattle.verdict_laws.proofs.laws.runs_are_never_denied.Goals as goal

pub returns : goal.returns
returns c = runs_undenied c.nothing_else_is_read.ensures c.runs_are_right.ensures
