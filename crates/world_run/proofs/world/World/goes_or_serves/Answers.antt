use Rattle.std.proofs.Common.{length}
use Rattle.world_run.proofs.world.World.goes_or_serves.Goals as goal

pub returns-in-None-clause-allowed : goal.returns-in-None-clause-allowed
returns-in-None-clause-allowed g c = c.serves_or_ticks.ensures.allowed (length c.args.scripts.now)
