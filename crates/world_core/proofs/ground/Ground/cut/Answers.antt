use Rattle.std.proofs.Common.{subst}
use Rattle.world_core.specs.declared.traffic.Traffic.{Traffic}
use Rattle.world_core.specs.CutBytes.{KeepsFirstAt}
use Rattle.world_core.proofs.Coupling.{cut_makes}
use Rattle.world_core.proofs.Bases.{one_base_kept}
use Rattle.world_core.proofs.ground.Ground.cut.Goals as goal

pub returns-clause-made : goal.returns-clause-made
returns-clause-made g c = cut_makes c.orderly_is_kept.ensures (g.S.Service.sees c.args.self.now.service) c.args.self.now.traffic c.cut.new.self c.args.connection c.args.up c.args.down c.cut.result (λ m is. c.cut.ensures.machine _ (c.begin.ensures.begun m is))

pub returns-clause-bytes : goal.returns-clause-bytes
returns-clause-bytes g c = subst (λ (traffic : Traffic). KeepsFirstAt c.args.connection c.args.up c.args.down traffic.connections.all.items c.cut.new.self.connections.all.items) c.begin.ensures.counted c.cut.ensures.bytes

pub returns-clause-base : goal.returns-clause-base
returns-clause-base g c = one_base_kept (g.S.Service.bytes c.args.self.now.service)
