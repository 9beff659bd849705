use Rattle.std.proofs.Common.{◌≡◌, None, sym, ap, ◌∙◌, subst}
use Rattle.server_model.specs.Seen.{ServiceState}
use Rattle.world_core.proofs.steps.ClientEvents.{some_standing, some_place, makes_alone, may_connect, makes_opening}
use Rattle.world_core.proofs.Readiness.{may_call, one_more}
use Rattle.world_core.proofs.Bases.{one_base_kept}
use Rattle.world_core.proofs.ground.Ground.go.Goals as goal

pub go-requires-clause-some : goal.go-requires-clause-some
go-requires-clause-some g c = some_standing _ (λ rule. g.R.BoundRule.rules rule) (g.S.Service.sees c.args.self.now.service) c.args.script.now c.args.number c.args.self.now.traffic c.begin.new.self c.args.client.now c.begin.ensures.begun c.requires.there

pub connect-requires-clause-live : goal.connect-requires-clause-live
connect-requires-clause-live g c = (may_call (g.S.Service.sees c.args.self.now.service) (g.S.Service.state c.args.self.now.service) c.args.self.now.traffic (some_place _ (λ rule. g.R.BoundRule.rules rule) (g.S.Service.sees c.args.self.now.service) c.args.script.now c.args.number c.args.self.now.traffic c.begin.new.self c.args.client.now c.begin.ensures.begun c.requires.there) c.requires.events (λ seen sees. (g.met.S.Service.honest c.args.self.now.service seen sees).state_is)).live

pub connect-requires-clause-few : goal.connect-requires-clause-few
connect-requires-clause-few g c = one_more (g.S.Service.state c.args.self.now.service) (may_call (g.S.Service.sees c.args.self.now.service) (g.S.Service.state c.args.self.now.service) c.args.self.now.traffic (some_place _ (λ rule. g.R.BoundRule.rules rule) (g.S.Service.sees c.args.self.now.service) c.args.script.now c.args.number c.args.self.now.traffic c.begin.new.self c.args.client.now c.begin.ensures.begun c.requires.there) c.requires.events (λ seen sees. (g.met.S.Service.honest c.args.self.now.service seen sees).state_is))

pub connect-requires-clause-new : goal.connect-requires-clause-new
connect-requires-clause-new g c =
    let may = may_connect _ (λ rule. g.R.BoundRule.rules rule) (g.S.Service.sees c.args.self.now.service) c.args.script.now c.args.number c.args.self.now.traffic c.begin.new.self c.args.client.now c.begin.ensures.begun c.is_up-is_up.result c.in_ok-did.did c.go.new.traffic c.go.new.self
    (λ seen sees. ap (λ (s : ServiceState). s.is_up) (g.met.S.Service.honest c.args.self.now.service seen sees).state_is ∙ sym c.is_up-is_up.ensures) c.in_ok-did.ensures c.in-Some.connection (sym c.opened_by.ensures ∙ c.in-Some.is) c.requires.there in
    subst (λ (s : ServiceState). s.living c.in-Some.connection ≡ None) (g.met.S.Service.honest c.args.self.now.service may.0 may.1.0).state_is may.1.1

pub returns-in_default-clause-made : goal.returns-in_default-clause-made
returns-in_default-clause-made g c = makes_alone _ (λ rule. g.R.BoundRule.rules rule) (g.S.Service.sees c.args.self.now.service) c.args.script.now c.args.number c.args.self.now.traffic c.begin.new.self c.args.client.now c.begin.ensures.begun c.is_up-is_up.result c.in_ok-did.did c.go.new.traffic c.go.new.self
    (λ seen sees. ap (λ (s : ServiceState). s.is_up) (g.met.S.Service.honest c.args.self.now.service seen sees).state_is ∙ sym c.is_up-is_up.ensures) c.in_ok-did.ensures c.orderly_is_kept.ensures (sym c.opened_by.ensures ∙ c.in_default.is)

pub returns-clause-made : goal.returns-clause-made
returns-clause-made g c = makes_opening _ (λ rule. g.R.BoundRule.rules rule) (g.S.Service.sees c.args.self.now.service) c.args.script.now c.args.number c.args.self.now.traffic c.begin.new.self c.args.client.now c.begin.ensures.begun c.is_up-is_up.result c.in_ok-did.did c.go.new.traffic c.go.new.self
    (λ seen sees. ap (λ (s : ServiceState). s.is_up) (g.met.S.Service.honest c.args.self.now.service seen sees).state_is ∙ sym c.is_up-is_up.ensures) c.in_ok-did.ensures c.orderly_is_kept.ensures
    (g.S.Service.sees c.connect.new.self) c.in-Some.connection c.in_ok-connect.field-0 (sym c.opened_by.ensures ∙ c.in-Some.is) (λ seen sees. (g.met.S.Service.honest c.connect.new.self seen sees).history) c.in_ok-connect.ensures.connected

pub returns-in_default-clause-base : goal.returns-in_default-clause-base
returns-in_default-clause-base g c = one_base_kept (g.S.Service.bytes c.args.self.now.service)
