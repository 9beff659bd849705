use Rattle.stmt_meaning.proofs.AnswersTell.{answers_tell}
use Rattle.stmt_meaning.proofs.AskedExactly.{mean-exact}
use Rattle.stmt_meaning.proofs.laws.answers_tell_draws.Goals as goal

pub returns-clause-exact : goal.returns-clause-exact
returns-clause-exact c = mean-exact

pub returns-clause-same : goal.returns-clause-same
returns-clause-same c = answers_tell
