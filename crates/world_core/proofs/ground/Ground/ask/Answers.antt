use Rattle.std.proofs.Common.{sym, ap, ◌∙◌, subst, Err}
use Rattle.server_model.specs.Seen.{ServiceState}
use Rattle.world_core.proofs.Questions.{asks_none, asks_some}
use Rattle.world_core.proofs.Readiness.{ask_never_stops}
use Rattle.server_model.specs.declared.fault.ServeFault.{ServeFault}
use Rattle.server_model.specs.ServiceCalls.{AskedOne, StoppedAsk}
use Rattle.service_calls.specs.Answers.{Ends}
use Rattle.service_calls.specs.Kept.{Goes}
use Rattle.world_core.proofs.Readiness.{may_call, one_more}
use Rattle.world_core.proofs.Bases.{one_base_kept}
use Rattle.world_core.proofs.ground.Ground.ask.Goals as goal

pub returns-then-not-is_up-clause-made : goal.returns-then-not-is_up-clause-made
returns-then-not-is_up-clause-made g c = asks_none c.orderly_is_kept.ensures (g.S.Service.sees c.args.self.now.service) c.args.self.now.traffic c.begin.new.self c.args.ltxid c.compares_exactly.ensures.exact
    (λ seen sees. ap (λ (s : ServiceState). s.is_up) (g.met.S.Service.honest c.args.self.now.service seen sees).state_is ∙ sym c.if-not-is_up.ensures)
    c.begin.ensures.begun

pub returns-clause-made : goal.returns-clause-made
returns-clause-made g c = rw c.result_of.ensures (asks_some c.orderly_is_kept.ensures (g.S.Service.sees c.args.self.now.service) (g.S.Service.sees c.ask.new.self) c.args.self.now.traffic c.begin.new.self c.args.ltxid c.in-Ok.verdict c.compares_exactly.ensures.exact
    (λ seen sees. ap (λ (s : ServiceState). s.is_up) (g.met.S.Service.honest c.args.self.now.service seen sees).state_is ∙ sym c.if-not-is_up.ensures)
    (λ seen sees. (g.met.S.Service.honest c.ask.new.self seen sees).history)
    c.in-Ok.ensures.asked
    c.begin.ensures.begun)

-- it is stopped in no call
pub unreachable-requires : goal.unreachable-requires
unreachable-requires g c = ask_never_stops (g.S.Service.sees c.args.self.now.service) (g.S.Service.sees c.ask.new.self) (g.S.Service.leaves c.ask.new.self) c.args.self.now.traffic c.args.ltxid c.requires.there
    (subst (λ (e : ServeFault). Ends (Err e) (λ told. Goes (g.S.Service.sees c.args.self.now.service) (g.S.Service.sees c.ask.new.self) (λ old new. AskedOne old c.args.ltxid told new)) (Goes (g.S.Service.sees c.args.self.now.service) (g.S.Service.sees c.ask.new.self) (λ old new. StoppedAsk old c.args.ltxid (g.S.Service.leaves c.ask.new.self) new)))
    c.in-Err-Stopped.field-0-is c.in-Err-Stopped.ensures.asked)

pub ask-requires-clause-live : goal.ask-requires-clause-live
ask-requires-clause-live g c = (may_call (g.S.Service.sees c.args.self.now.service) (g.S.Service.state c.args.self.now.service) c.args.self.now.traffic c.requires.there c.requires.events (λ seen sees. (g.met.S.Service.honest c.args.self.now.service seen sees).state_is)).live

pub ask-requires-clause-few : goal.ask-requires-clause-few
ask-requires-clause-few g c = one_more (g.S.Service.state c.args.self.now.service) (may_call (g.S.Service.sees c.args.self.now.service) (g.S.Service.state c.args.self.now.service) c.args.self.now.traffic c.requires.there c.requires.events (λ seen sees. (g.met.S.Service.honest c.args.self.now.service seen sees).state_is))

pub returns-then-not-is_up-clause-base : goal.returns-then-not-is_up-clause-base
returns-then-not-is_up-clause-base g c = one_base_kept (g.S.Service.bytes c.args.self.now.service)
