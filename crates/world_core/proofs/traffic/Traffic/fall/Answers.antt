use Rattle.world_core.proofs.Underway.{fallen_underway}
use Rattle.world_core.proofs.traffic.Traffic.fall.Goals as goal

pub returns : goal.returns
returns c = λ m is. fallen_underway c.args.self.now m c.fall.new.self c.leave.new.pool is (c.fall.ensures m.links is.links) (c.leave.ensures m.links is.links)
