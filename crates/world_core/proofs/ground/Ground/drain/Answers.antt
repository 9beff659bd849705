use Rattle.world_core.proofs.Draining.{closable_there, drains}
use Rattle.world_core.proofs.Bases.{one_base_kept}
use Rattle.world_core.proofs.ground.Ground.drain.Goals as goal

pub returns-clause-made : goal.returns-clause-made
returns-clause-made g c = drains c.orderly_is_kept.ensures (g.S.Service.sees c.args.self.now.service) c.args.self.now.traffic c.drain.new.self c.in_ok-closed.closed (λ m is. c.in_ok-closed.ensures _ (c.begin.ensures.begun m is))

pub drain-requires : goal.drain-requires
drain-requires g c = rw c.begin.ensures.counted (closable_there (g.S.Service.sees c.args.self.now.service) c.args.self.now.traffic c.requires.there)

pub returns-clause-base : goal.returns-clause-base
returns-clause-base g c = one_base_kept (g.S.Service.bytes c.args.self.now.service)
