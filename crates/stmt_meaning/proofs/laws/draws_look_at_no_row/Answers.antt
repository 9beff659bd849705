use Rattle.stmt_meaning.proofs.MeanLocal.{mean1-draws, mean1-places}
use Rattle.stmt_meaning.proofs.laws.draws_look_at_no_row.Goals as goal

pub returns-clause-draws : goal.returns-clause-draws
returns-clause-draws c = mean1-draws

pub returns-clause-places : goal.returns-clause-places
returns-clause-places c = mean1-places
