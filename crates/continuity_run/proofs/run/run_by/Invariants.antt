use Rattle.std.proofs.Common.{take}
use Rattle.service_calls.specs.Kept.{HaveOneBase}
use Rattle.continuity_run.proofs.Schedule.{Comes}
use Rattle.continuity_run.proofs.run.run_by.Given as goal

abbrev pub invariant-loop-event : goal.invariant-loop-event
invariant-loop-event g l = Comes _ _ g.S.Service.sees (λ rule. g.R.BoundRule.rules rule) l.scripts (g.S.Service.sees l.fn.service) (g.R.BoundRule.rules l.fn.rule) l.of l.schedule l.fn.opened (take l.event-index l.schedule) l.world × HaveOneBase (g.S.Service.bytes l.fn.service) (g.S.Service.bytes l.world.service)
