use Rattle.std.proofs.Common.{ap, ◌∙◌, subst, Err}
use Rattle.server_model.specs.declared.fault.ServeFault.{ServeFault}
use Rattle.server_model.specs.Seen.{ServiceState}
use Rattle.server_model.specs.ServiceCalls.{ServedOne}
use Rattle.service_calls.specs.Answers.{IfTold}
use Rattle.service_calls.specs.Kept.{Goes}
use Rattle.world_model.specs.meaning.Serving.{front_at}
use Rattle.world_core.specs.Underway.{FrontOf}
use Rattle.world_core.proofs.Coupling.{begun}
use Rattle.world_core.proofs.frames.ServedFrames.{lives_there, frame_made}
use Rattle.world_core.proofs.frames.Lasting.{leads_none, leads_answered, leads_stopped, set_coupled}
use Rattle.world_core.proofs.Bases.{one_base_on, one_base_stopped}
use Rattle.world_core.proofs.ground.Ground.serve_last.Goals as goal

pub returns-in_default-clause-led : goal.returns-in_default-clause-led
returns-in_default-clause-led g c = leads_none (g.S.Service.sees c.args.self.now.service) (g.S.Service.sees c.stop_after.new.self) (g.S.Service.leaves c.stop_after.new.self) c.args.self.now.traffic c.first_up.new.self c.args.connection c.args.after
    (λ seen sees. ap (λ (s : ServiceState). s.is_up) (g.met.S.Service.honest c.args.self.now.service seen sees).state_is ∙ c.requires.up)
    c.stop_after.ensures.stop
    (λ m is. subst (λ frame. FrontOf (begun m) c.args.connection (front_at m.links c.args.connection) frame c.first_up.new.self) c.in_default.is (c.in_ok-first.ensures _ (c.begin.ensures.begun m is)))

pub serve-requires-clause-lives : goal.serve-requires-clause-lives
serve-requires-clause-lives g c =
    let seen = c.requires.there.0 in
    let t = c.requires.there.1.0 in
    let m = t.machine in
    let is = c.requires.there.1.1 in
    let set = c.stop_after.ensures.stop seen is.seen_so in
    lives_there (g.S.Service.state c.stop_after.new.self) set.0 t c.args.connection c.in-Some.frame c.first_up.new.self (g.met.S.Service.honest c.stop_after.new.self set.0 set.1.0).state_is (set_coupled seen set.0 t c.args.after set.1.1 is.coupled)
    (subst (λ frame. FrontOf (begun m) c.args.connection (front_at m.links c.args.connection) frame c.first_up.new.self) c.in-Some.is (c.in_ok-first.ensures _ (c.begin.ensures.begun m is.underway)))

pub serve-requires-clause-made : goal.serve-requires-clause-made
serve-requires-clause-made g c =
    let m = c.requires.there.1.0.machine in
    let is = c.requires.there.1.1 in
    frame_made m c.args.connection c.in-Some.frame c.args.self.now.traffic c.first_up.new.self is.underway (subst (λ frame. FrontOf (begun m) c.args.connection (front_at m.links c.args.connection) frame c.first_up.new.self) c.in-Some.is (c.in_ok-first.ensures _ (c.begin.ensures.begun m is.underway)))

pub returns-in_ok-served-in-Ok-clause-led : goal.returns-in_ok-served-in-Ok-clause-led
returns-in_ok-served-in-Ok-clause-led g c = leads_answered (g.S.Service.sees c.args.self.now.service) (g.S.Service.sees c.stop_after.new.self) (g.S.Service.sees c.serve.new.self) (g.S.Service.leaves c.serve.new.self) c.args.self.now.traffic c.first_up.new.self c.answer.new.self c.args.connection c.args.after c.in-Some.frame c.in-Ok.reply c.in_ok-served-in-Ok.served c.compares_exactly.ensures.exact
    (λ seen sees. ap (λ (s : ServiceState). s.is_up) (g.met.S.Service.honest c.args.self.now.service seen sees).state_is ∙ c.requires.up)
    (λ seen sees. (g.met.S.Service.honest c.serve.new.self seen sees).history)
    c.stop_after.ensures.stop c.in-Ok.ensures.served
    (λ m is. subst (λ frame. FrontOf (begun m) c.args.connection (front_at m.links c.args.connection) frame c.first_up.new.self) c.in-Some.is (c.in_ok-first.ensures _ (c.begin.ensures.begun m is)))
    c.in_ok-served-in-Ok.ensures

pub returns-in_ok-served-in-Err-Stopped-clause-led : goal.returns-in_ok-served-in-Err-Stopped-clause-led
returns-in_ok-served-in-Err-Stopped-clause-led g c = leads_stopped (g.S.Service.sees c.args.self.now.service) (g.S.Service.sees c.stop_after.new.self) (g.S.Service.sees c.serve.new.self) (g.S.Service.leaves c.serve.new.self) c.args.self.now.traffic c.first_up.new.self c.stop.new.self c.args.connection c.args.after c.in-Some.frame c.in_ok-served-in-Err-Stopped.served c.compares_exactly.ensures.exact
    (λ seen sees. ap (λ (s : ServiceState). s.is_up) (g.met.S.Service.honest c.args.self.now.service seen sees).state_is ∙ c.requires.up)
    c.stop_after.ensures.stop
    (subst (λ (e : ServeFault). IfTold (Err e) (λ told. Goes (g.S.Service.sees c.stop_after.new.self) (g.S.Service.sees c.serve.new.self) (λ old new. ServedOne old c.args.connection c.first_up.new.self.tick c.in-Some.frame told (g.S.Service.leaves c.serve.new.self) new))) c.in-Err-Stopped.field-0-is c.in-Err-Stopped.ensures.served)
    (λ m is. subst (λ frame. FrontOf (begun m) c.args.connection (front_at m.links c.args.connection) frame c.first_up.new.self) c.in-Some.is (c.in_ok-first.ensures _ (c.begin.ensures.begun m is)))
    c.in_ok-served-in-Err-Stopped.ensures

pub returns-in_ok-served-in-Ok-clause-base : goal.returns-in_ok-served-in-Ok-clause-base
returns-in_ok-served-in-Ok-clause-base g c =
    let set = c.stop_after.ensures.stop c.requires.there.0 c.requires.there.1.1.seen_so in
    one_base_on _ _ _ _ (g.met.S.Service.honest c.stop_after.new.self set.0 set.1.0).pictures c.stop_after.ensures.base c.in-Ok.ensures.base

pub returns-in_ok-served-in-Err-Stopped-clause-base : goal.returns-in_ok-served-in-Err-Stopped-clause-base
returns-in_ok-served-in-Err-Stopped-clause-base g c =
    let set = c.stop_after.ensures.stop c.requires.there.0 c.requires.there.1.1.seen_so in
    one_base_on _ _ _ _ (g.met.S.Service.honest c.stop_after.new.self set.0 set.1.0).pictures c.stop_after.ensures.base (one_base_stopped _ _ _ _ c.in-Err-Stopped.field-0-is c.in-Err-Stopped.ensures.base)

pub first_up-requires : goal.first_up-requires
first_up-requires g c =
    let m = c.requires.there.1.0.machine in
    (begun m, c.begin.ensures.begun m c.requires.there.1.1.underway)
