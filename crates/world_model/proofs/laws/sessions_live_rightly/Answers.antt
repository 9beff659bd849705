use Rattle.world_model.proofs.basic.KeptTests.{commits_law, life_law, now_law}
use Rattle.world_model.proofs.laws.sessions_live_rightly.Goals as goal

pub returns-clause-commits : goal.returns-clause-commits
returns-clause-commits c = commits_law

pub returns-clause-life : goal.returns-clause-life
returns-clause-life c = life_law

pub returns-clause-now : goal.returns-clause-now
returns-clause-now c = now_law
