use Rattle.world_core.proofs.Coupling.{ticks}
use Rattle.world_core.proofs.Readiness.{may_pass}
use Rattle.world_core.proofs.Bases.{one_base_kept}
use Rattle.world_core.proofs.ground.Ground.tick.Goals as goal

pub pass-requires : goal.pass-requires
pass-requires g c = rw c.begin.ensures.counted (may_pass (g.S.Service.sees c.args.self.now.service) c.args.self.now.traffic c.requires.there c.requires.events)

pub returns-clause-made : goal.returns-clause-made
returns-clause-made g c = ticks c.orderly_is_kept.ensures (g.S.Service.sees c.args.self.now.service) c.args.self.now.traffic c.pass.new.self (λ m is. c.pass.ensures _ (c.begin.ensures.begun m is))

pub returns-clause-base : goal.returns-clause-base
returns-clause-base g c = one_base_kept (g.S.Service.bytes c.args.self.now.service)
