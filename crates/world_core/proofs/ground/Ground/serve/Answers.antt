use Rattle.std.proofs.Common.{subst, Err}
use Rattle.world_model.specs.meaning.Serving.{front_at}
use Rattle.world_core.specs.Underway.{FrontOf}
use Rattle.world_core.proofs.Coupling.{begun}
use Rattle.world_core.proofs.frames.ServedFrames.{serves_none, serves_some, lives_there, frame_made}
use Rattle.world_core.proofs.Readiness.{frame_never_stops}
use Rattle.server_model.specs.declared.fault.ServeFault.{ServeFault}
use Rattle.server_model.specs.ServiceCalls.{ServedOne}
use Rattle.service_calls.specs.Answers.{IfTold}
use Rattle.service_calls.specs.Kept.{Goes}
use Rattle.world_core.proofs.Readiness.{may_call, one_more}
use Rattle.world_core.proofs.Bases.{one_base_kept}
use Rattle.world_core.proofs.ground.Ground.serve.Goals as goal

pub returns-in_default-clause-made : goal.returns-in_default-clause-made
returns-in_default-clause-made g c = serves_none c.orderly_is_kept.ensures (g.S.Service.sees c.args.self.now.service) c.args.self.now.traffic c.first_up.new.self c.args.connection (λ m is. subst (λ frame. FrontOf (begun m) c.args.connection (front_at m.links c.args.connection) frame c.first_up.new.self) c.in_default.is (c.in_ok-first.ensures _ (c.begin.ensures.begun m is)))

pub serve-requires-clause-lives : goal.serve-requires-clause-lives
serve-requires-clause-lives g c =
    let seen = c.requires.there.0 in
    let is = c.requires.there.1.1 in
    let m = c.requires.there.1.0.machine in
    lives_there (g.S.Service.state c.args.self.now.service) seen c.requires.there.1.0 c.args.connection c.in-Some.frame c.first_up.new.self (g.met.S.Service.honest c.args.self.now.service seen is.seen_so).state_is is.coupled (subst (λ frame. FrontOf (begun m) c.args.connection (front_at m.links c.args.connection) frame c.first_up.new.self) c.in-Some.is (c.in_ok-first.ensures _ (c.begin.ensures.begun m is.underway)))

pub serve-requires-clause-made : goal.serve-requires-clause-made
serve-requires-clause-made g c =
    let is = c.requires.there.1.1 in
    let m = c.requires.there.1.0.machine in
    frame_made c.requires.there.1.0.machine c.args.connection c.in-Some.frame c.args.self.now.traffic c.first_up.new.self is.underway (subst (λ frame. FrontOf (begun m) c.args.connection (front_at m.links c.args.connection) frame c.first_up.new.self) c.in-Some.is (c.in_ok-first.ensures _ (c.begin.ensures.begun m is.underway)))

pub returns-clause-made : goal.returns-clause-made
returns-clause-made g c = rw c.frame_name-name.ensures (serves_some c.orderly_is_kept.ensures (g.S.Service.sees c.args.self.now.service) (g.S.Service.sees c.serve.new.self) (g.S.Service.leaves c.serve.new.self) c.args.self.now.traffic c.first_up.new.self c.answer.new.self c.args.connection c.in-Some.frame c.in-Ok.reply c.in_ok-served.served c.compares_exactly.ensures.exact
    (λ seen sees. (g.met.S.Service.honest c.serve.new.self seen sees).history) c.in-Ok.ensures.served (λ m is. subst (λ frame. FrontOf (begun m) c.args.connection (front_at m.links c.args.connection) frame c.first_up.new.self) c.in-Some.is (c.in_ok-first.ensures _ (c.begin.ensures.begun m is))) c.in_ok-served.ensures)

-- it is stopped in no call
pub unreachable-requires : goal.unreachable-requires
unreachable-requires g c = frame_never_stops (g.S.Service.sees c.args.self.now.service) (g.S.Service.sees c.serve.new.self) (g.S.Service.leaves c.serve.new.self) c.args.self.now.traffic c.args.connection c.first_up.new.self.tick c.in-Some.frame (c.requires.there.0, (c.requires.there.1.0, c.requires.there.1.1))
    (subst (λ (e : ServeFault). IfTold (Err e) (λ told. Goes (g.S.Service.sees c.args.self.now.service) (g.S.Service.sees c.serve.new.self) (λ old new. ServedOne old c.args.connection c.first_up.new.self.tick c.in-Some.frame told (g.S.Service.leaves c.serve.new.self) new)))
    c.in-Err-Stopped.field-0-is c.in-Err-Stopped.ensures.served)

pub serve-requires-clause-live : goal.serve-requires-clause-live
serve-requires-clause-live g c = (may_call (g.S.Service.sees c.args.self.now.service) (g.S.Service.state c.args.self.now.service) c.args.self.now.traffic c.requires.there c.requires.events (λ seen sees. (g.met.S.Service.honest c.args.self.now.service seen sees).state_is)).live

pub serve-requires-clause-few : goal.serve-requires-clause-few
serve-requires-clause-few g c = one_more (g.S.Service.state c.args.self.now.service) (may_call (g.S.Service.sees c.args.self.now.service) (g.S.Service.state c.args.self.now.service) c.args.self.now.traffic c.requires.there c.requires.events (λ seen sees. (g.met.S.Service.honest c.args.self.now.service seen sees).state_is))

pub returns-in_default-clause-base : goal.returns-in_default-clause-base
returns-in_default-clause-base g c = one_base_kept (g.S.Service.bytes c.args.self.now.service)

pub first_up-requires : goal.first_up-requires
first_up-requires g c =
    let m = c.requires.there.1.0.machine in
    (begun m, c.begin.ensures.begun m c.requires.there.1.1.underway)
