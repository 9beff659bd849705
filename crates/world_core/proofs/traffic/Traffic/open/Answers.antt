use Rattle.std.proofs.Common.{arith}
use Rattle.world_core.proofs.traffic.Traffic.open.Goals as goal

pub opened-requires : goal.opened-requires
opened-requires c = omega (arith, c.requires, c.in_ok-number.ensures.number)
