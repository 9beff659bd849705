use Rattle.std.proofs.Common.{rules}
use Rattle.commit_log.proofs.recorded.Recorded.add.Goals as goal

pub returns-in-Commit : goal.returns-in-Commit
returns-in-Commit c = search rules

pub returns-in-Horizon : goal.returns-in-Horizon
returns-in-Horizon c = search rules
