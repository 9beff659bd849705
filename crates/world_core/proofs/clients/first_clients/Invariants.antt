use Rattle.driver_core.specs.Driving.{terms_of}
use Rattle.world_core.proofs.steps.EachClient.{FirstFew}
use Rattle.world_core.proofs.clients.first_clients.Given as goal

abbrev pub invariant-loop-script : goal.invariant-loop-script
invariant-loop-script g l = FirstFew _ (λ rule. g.R.BoundRule.rules rule) (terms_of (g.R.BoundRule.rules l.fn.rule) l.fn.limits l.fn.recorded) l.scripts l.script-index l.clients.items
