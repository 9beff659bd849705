use Rattle.std.proofs.Common.{sym, ap, ◌∙◌, subst, Err}
use Rattle.server_model.specs.Seen.{ServiceState}
use Rattle.world_core.proofs.Opening.{ups_none, ups_some}
use Rattle.world_core.proofs.Readiness.{opening_never_stops}
use Rattle.server_model.specs.declared.fault.ServeFault.{ServeFault}
use Rattle.server_model.specs.ServiceCalls.{Opened, StoppedOpening}
use Rattle.service_calls.specs.Answers.{Ends}
use Rattle.service_calls.specs.Kept.{Goes}
use Rattle.world_core.proofs.Readiness.{may_call, one_more}
use Rattle.world_core.proofs.Bases.{one_base_kept}
use Rattle.world_core.proofs.ground.Ground.up.Goals as goal

pub returns-then-is_up-clause-made : goal.returns-then-is_up-clause-made
returns-then-is_up-clause-made g c = ups_none c.orderly_is_kept.ensures (g.S.Service.sees c.args.self.now.service) c.args.self.now.traffic c.begin.new.self
    (λ seen sees. ap (λ (s : ServiceState). s.is_up) (g.met.S.Service.honest c.args.self.now.service seen sees).state_is ∙ sym c.if-is_up.ensures)
    c.begin.ensures.begun c.args.horizon

pub returns-clause-made : goal.returns-clause-made
returns-clause-made g c = ups_some c.orderly_is_kept.ensures (g.S.Service.sees c.args.self.now.service) (g.S.Service.sees c.up.new.self) c.args.self.now.traffic c.begin.new.self c.args.horizon c.incarnation-incarnation.result
    (λ seen sees. ap (λ (s : ServiceState). s.is_up) (g.met.S.Service.honest c.args.self.now.service seen sees).state_is ∙ sym c.if-is_up.ensures)
    (λ seen sees. (g.met.S.Service.honest c.up.new.self seen sees).history)
    (λ seen sees up.
    let is = (g.met.S.Service.honest c.up.new.self seen sees).state_is in
    c.incarnation-incarnation.ensures (ap (λ (s : ServiceState). s.is_up) (sym is) ∙ up) ∙ ap (λ (s : ServiceState). s.store.incarnation) (sym is))
    c.in-Ok.ensures.opened
    c.begin.ensures.begun

-- it is stopped in no call
pub unreachable-requires : goal.unreachable-requires
unreachable-requires g c = opening_never_stops (g.S.Service.sees c.args.self.now.service) (g.S.Service.sees c.up.new.self) (g.S.Service.leaves c.up.new.self) c.args.self.now.traffic c.args.horizon c.requires.there
    (subst (λ (e : ServeFault). Ends (Err e) (λ done. Goes (g.S.Service.sees c.args.self.now.service) (g.S.Service.sees c.up.new.self) (λ old new. Opened old c.args.horizon new)) (Goes (g.S.Service.sees c.args.self.now.service) (g.S.Service.sees c.up.new.self) (λ old new. StoppedOpening old c.args.horizon (g.S.Service.leaves c.up.new.self) new)))
    c.in-Err-Stopped.field-0-is c.in-Err-Stopped.ensures.opened)

pub up-requires-clause-live : goal.up-requires-clause-live
up-requires-clause-live g c = (may_call (g.S.Service.sees c.args.self.now.service) (g.S.Service.state c.args.self.now.service) c.args.self.now.traffic c.requires.there c.requires.events (λ seen sees. (g.met.S.Service.honest c.args.self.now.service seen sees).state_is)).live

pub up-requires-clause-few : goal.up-requires-clause-few
up-requires-clause-few g c = one_more (g.S.Service.state c.args.self.now.service) (may_call (g.S.Service.sees c.args.self.now.service) (g.S.Service.state c.args.self.now.service) c.args.self.now.traffic c.requires.there c.requires.events (λ seen sees. (g.met.S.Service.honest c.args.self.now.service seen sees).state_is))

pub up-requires-clause-down : goal.up-requires-clause-down
up-requires-clause-down g c = (sym c.if-is_up.ensures, (may_call (g.S.Service.sees c.args.self.now.service) (g.S.Service.state c.args.self.now.service) c.args.self.now.traffic c.requires.there c.requires.events (λ seen sees. (g.met.S.Service.honest c.args.self.now.service seen sees).state_is)).settled (sym c.if-is_up.ensures))

pub returns-then-is_up-clause-base : goal.returns-then-is_up-clause-base
returns-then-is_up-clause-base g c = one_base_kept (g.S.Service.bytes c.args.self.now.service)
