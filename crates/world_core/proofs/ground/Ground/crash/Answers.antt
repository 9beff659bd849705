use Rattle.std.proofs.Common.{sym, ap, ◌∙◌, subst}
use Rattle.server_model.specs.Seen.{ServiceState}
use Rattle.world_core.proofs.Crashes.{crashes_none, crashes_served, few_between, may_fall}
use Rattle.world_core.proofs.Readiness.{may_call}
use Rattle.world_core.proofs.Bases.{one_base_kept, one_base_on}
use Rattle.world_core.proofs.ground.Ground.crash.Goals as goal

pub returns-then-not-is_up-clause-made : goal.returns-then-not-is_up-clause-made
returns-then-not-is_up-clause-made g c = crashes_none c.orderly_is_kept.ensures (g.S.Service.sees c.args.self.now.service) c.args.self.now.traffic c.begin.new.self c.args.connection c.args.after c.args.pick
    (λ seen sees. ap (λ (s : ServiceState). s.is_up) (g.met.S.Service.honest c.args.self.now.service seen sees).state_is ∙ sym c.if-not-is_up.ensures)
    c.begin.ensures.begun

pub returns-clause-made : goal.returns-clause-made
returns-clause-made g c = crashes_served c.orderly_is_kept.ensures (g.S.Service.sees c.args.self.now.service) (g.S.Service.sees c.serve_last.new.self.service) (g.S.Service.sees c.crash.new.self) (g.S.Service.leaves c.serve_last.new.self.service) c.args.self.now.traffic c.serve_last.new.self.traffic c.fall.new.self c.args.connection c.args.after c.args.pick _
    (λ seen sees. ap (λ (s : ServiceState). s.is_up) (g.met.S.Service.honest c.args.self.now.service seen sees).state_is ∙ sym c.if-not-is_up.ensures)
    (λ seen sees. (g.met.S.Service.honest c.crash.new.self seen sees).history)
    (λ seen sees. subst (λ (s : ServiceState). g.S.Service.leaves c.serve_last.new.self.service s.store) (sym (g.met.S.Service.honest c.crash.new.self seen sees).state_is) c.crash.ensures.left)
    c.in_ok-served.ensures.led
    c.crash.ensures.crashed
    c.fall.ensures

pub crash-requires-clause-live : goal.crash-requires-clause-live
crash-requires-clause-live g c = (may_fall (g.S.Service.sees c.args.self.now.service) (g.S.Service.sees c.serve_last.new.self.service) (g.S.Service.leaves c.serve_last.new.self.service) c.args.self.now.traffic c.serve_last.new.self.traffic c.args.connection c.args.after _ (g.S.Service.state c.args.self.now.service) (g.S.Service.state c.serve_last.new.self.service) c.requires.there (sym c.if-not-is_up.ensures) c.in_ok-served.ensures.led
    (λ seen sees. (g.met.S.Service.honest c.args.self.now.service seen sees).state_is) (λ seen sees. (g.met.S.Service.honest c.serve_last.new.self.service seen sees).state_is)).live

pub crash-requires-clause-few : goal.crash-requires-clause-few
crash-requires-clause-few g c = few_between (g.S.Service.state c.args.self.now.service).calls (g.S.Service.state c.serve_last.new.self.service).calls (may_fall (g.S.Service.sees c.args.self.now.service) (g.S.Service.sees c.serve_last.new.self.service) (g.S.Service.leaves c.serve_last.new.self.service) c.args.self.now.traffic c.serve_last.new.self.traffic c.args.connection c.args.after _ (g.S.Service.state c.args.self.now.service) (g.S.Service.state c.serve_last.new.self.service) c.requires.there (sym c.if-not-is_up.ensures) c.in_ok-served.ensures.led
    (λ seen sees. (g.met.S.Service.honest c.args.self.now.service seen sees).state_is) (λ seen sees. (g.met.S.Service.honest c.serve_last.new.self.service seen sees).state_is)).few
    (may_call (g.S.Service.sees c.args.self.now.service) (g.S.Service.state c.args.self.now.service) c.args.self.now.traffic c.requires.there c.requires.events (λ seen sees. (g.met.S.Service.honest c.args.self.now.service seen sees).state_is)).few

pub crash-requires-clause-may : goal.crash-requires-clause-may
crash-requires-clause-may g c = λ failover. (may_fall (g.S.Service.sees c.args.self.now.service) (g.S.Service.sees c.serve_last.new.self.service) (g.S.Service.leaves c.serve_last.new.self.service) c.args.self.now.traffic c.serve_last.new.self.traffic c.args.connection c.args.after _ (g.S.Service.state c.args.self.now.service) (g.S.Service.state c.serve_last.new.self.service) c.requires.there (sym c.if-not-is_up.ensures) c.in_ok-served.ensures.led
    (λ seen sees. (g.met.S.Service.honest c.args.self.now.service seen sees).state_is) (λ seen sees. (g.met.S.Service.honest c.serve_last.new.self.service seen sees).state_is)).opened

pub returns-then-not-is_up-clause-base : goal.returns-then-not-is_up-clause-base
returns-then-not-is_up-clause-base g c = one_base_kept (g.S.Service.bytes c.args.self.now.service)

pub returns-clause-base : goal.returns-clause-base
returns-clause-base g c =
    let led = c.in_ok-served.ensures.led c.requires.there.0 c.requires.there.1.0 c.requires.there.1.1 in
    one_base_on _ _ _ _ (g.met.S.Service.honest c.serve_last.new.self.service led.0 led.1.1.0).pictures c.in_ok-served.ensures.base c.crash.ensures.base
