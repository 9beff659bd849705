use Rattle.world_model.proofs.basic.KeptTests.{ended_law, down_law}
use Rattle.world_model.proofs.laws.connections_end_rightly.Goals as goal

pub returns-clause-ended : goal.returns-clause-ended
returns-clause-ended c = ended_law

pub returns-clause-down : goal.returns-clause-down
returns-clause-down c = down_law
