use Rattle.std.proofs.Common.{length}
use Rattle.world_run.proofs.world.World.next_event.Goals as goal

pub returns-in-Links-clause-allowed : goal.returns-in-Links-clause-allowed
returns-in-Links-clause-allowed g c = c.serves_or_ticks.ensures.allowed (length c.args.scripts.now)
