use Rattle.std.proofs.Common.{refl, subst}
use Rattle.world_run.proofs.Onward.{if_led, some_among, standing_in}
use Rattle.std.specs.Prelude.{OnOk}
use Rattle.service_calls.specs.Kept.{HaveOneBase}
use Rattle.world_run.specs.Running.{Parts}
use Rattle.world_run.proofs.world.World.go.Goals as goal

pub go_one-requires-clause-there : goal.go_one-requires-clause-there
go_one-requires-clause-there g c = some_among _ _ g.S.Service.sees (λ rule. g.R.BoundRule.rules rule) c.args.scripts.now _ (standing_in _ _ g.S.Service.sees (λ rule. g.R.BoundRule.rules rule) c.args.scripts.now _ _ c.self.view_is c.requires.there)

pub returns-clause-led : goal.returns-clause-led
returns-clause-led g c = if_led _ _ g.S.Service.sees (λ rule. g.R.BoundRule.rules rule) c.args.scripts.now _ _ _ c.args.number c.self.view_is c.go_one.result c.go_one.ensures.made (refl, refl, refl)

pub returns-clause-base : goal.returns-clause-base
returns-clause-base g c = subst (λ (parts : Parts g.row.S.Denot g.row.R.Denot). OnOk c.go_one.result (HaveOneBase (g.S.Service.bytes parts.service) (g.S.Service.bytes c.go_one.new.self.service))) c.self.view_is c.go_one.ensures.base
