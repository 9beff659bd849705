use Rattle.stmt_meaning.proofs.MeanLocal.{mean1-place, mean1-same, mean-same}
use Rattle.stmt_meaning.proofs.laws.statements_are_local.Goals as goal

pub returns-clause-one_place : goal.returns-clause-one_place
returns-clause-one_place c = mean1-place

pub returns-clause-statements : goal.returns-clause-statements
returns-clause-statements c = mean1-same

pub returns-clause-calls : goal.returns-clause-calls
returns-clause-calls c = mean-same
