use Rattle.world_core.proofs.Reaping.{reaps_none, reaps_one}
use Rattle.world_core.proofs.Readiness.{may_call, one_more}
use Rattle.world_core.proofs.Bases.{one_base_kept}
use Rattle.world_core.proofs.ground.Ground.reap.Goals as goal

pub returns-then-not-reap-clause-made : goal.returns-then-not-reap-clause-made
returns-then-not-reap-clause-made g c = reaps_none c.orderly_is_kept.ensures (g.S.Service.sees c.args.self.now.service) c.args.self.now.traffic c.reap.new.self c.args.connection (λ m is. c.if-not-reap.ensures _ (c.begin.ensures.begun m is))

pub returns-clause-made : goal.returns-clause-made
returns-clause-made g c = reaps_one c.orderly_is_kept.ensures (g.S.Service.sees c.args.self.now.service) (g.S.Service.sees c.reap-2.new.self) c.args.self.now.traffic c.reap.new.self c.args.connection
    (λ seen sees. (g.met.S.Service.honest c.reap-2.new.self seen sees).history) c.reap-2.ensures.reaped (λ m is. c.if-not-reap.ensures _ (c.begin.ensures.begun m is))

pub reap-requires-2-clause-live : goal.reap-requires-2-clause-live
reap-requires-2-clause-live g c = (may_call (g.S.Service.sees c.args.self.now.service) (g.S.Service.state c.args.self.now.service) c.args.self.now.traffic c.requires.there c.requires.events (λ seen sees. (g.met.S.Service.honest c.args.self.now.service seen sees).state_is)).live

pub reap-requires-2-clause-few : goal.reap-requires-2-clause-few
reap-requires-2-clause-few g c = one_more (g.S.Service.state c.args.self.now.service) (may_call (g.S.Service.sees c.args.self.now.service) (g.S.Service.state c.args.self.now.service) c.args.self.now.traffic c.requires.there c.requires.events (λ seen sees. (g.met.S.Service.honest c.args.self.now.service seen sees).state_is))

pub returns-then-not-reap-clause-base : goal.returns-then-not-reap-clause-base
returns-then-not-reap-clause-base g c = one_base_kept (g.S.Service.bytes c.args.self.now.service)
