use Rattle.stmt_meaning.proofs.Commits.{commits_last}
use Rattle.stmt_meaning.proofs.laws.commits_come_last.Goals as goal

pub returns : goal.returns
returns c = commits_last
