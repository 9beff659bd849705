use Rattle.service_calls.specs.Kept.{HaveOneBase}
use Rattle.world_run.specs.Places.{place_of}
use Rattle.world_run.proofs.Ending.{Comes}
use Rattle.world_run.proofs.world.World.finish.Given as goal

abbrev pub invariant-loop : goal.invariant-loop
invariant-loop g l = Comes _ _ g.S.Service.sees (λ rule. g.R.BoundRule.rules rule) l.scripts (place_of l.place) l.counter l.fn.self l.self × HaveOneBase (g.S.Service.bytes l.fn.self.service) (g.S.Service.bytes l.self.service)
