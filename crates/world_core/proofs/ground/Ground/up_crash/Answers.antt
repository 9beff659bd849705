use Rattle.std.proofs.Common.{sym, ap, ◌∙◌, subst}
use Rattle.server_model.specs.Seen.{ServiceState}
use Rattle.world_core.specs.Underway.{IsUnderway}
use Rattle.world_core.proofs.Coupling.{begun}
use Rattle.world_core.proofs.StoppedUps.{crashes_no_opening, crashes_opening}
use Rattle.world_core.proofs.Bases.{one_base_kept, one_base_on}
use Rattle.world_core.proofs.ground.Ground.up_crash.Goals as goal

pub returns-then-is_up-clause-made : goal.returns-then-is_up-clause-made
returns-then-is_up-clause-made g c = crashes_no_opening c.orderly_is_kept.ensures (g.S.Service.sees c.args.self.now.service) c.args.self.now.traffic c.begin.new.self c.args.after c.args.pick
    (λ seen sees. ap (λ (s : ServiceState). s.is_up) (g.met.S.Service.honest c.args.self.now.service seen sees).state_is ∙ sym c.if-is_up.ensures)
    c.begin.ensures.begun c.args.horizon

pub returns-clause-made : goal.returns-clause-made
returns-clause-made g c = crashes_opening c.orderly_is_kept.ensures (g.S.Service.sees c.args.self.now.service) (g.S.Service.sees c.begin_opening.new.self.service) (g.S.Service.sees c.crash.new.self) (g.S.Service.leaves c.begin_opening.new.self.service) c.args.self.now.traffic c.begin_opening.new.self.traffic c.args.horizon c.args.after c.args.pick
    c.requires.one_store
    (λ seen sees. ap (λ (s : ServiceState). s.is_up) (g.met.S.Service.honest c.args.self.now.service seen sees).state_is ∙ sym c.if-is_up.ensures)
    (λ seen sees. (g.met.S.Service.honest c.crash.new.self seen sees).history)
    (λ seen sees. subst (λ (s : ServiceState). g.S.Service.leaves c.begin_opening.new.self.service s.store) (sym (g.met.S.Service.honest c.crash.new.self seen sees).state_is) c.crash.ensures.left)
    c.in_ok-begin_opening.ensures.begun
    c.crash.ensures.crashed
    (λ m is. subst (λ traffic. IsUnderway traffic (begun m)) (sym c.begin_opening.ensures.traffic) (c.begin.ensures.begun m is))

pub returns-then-is_up-clause-base : goal.returns-then-is_up-clause-base
returns-then-is_up-clause-base g c = one_base_kept (g.S.Service.bytes c.args.self.now.service)

pub returns-clause-base : goal.returns-clause-base
returns-clause-base g c =
    let begun = c.in_ok-begin_opening.ensures.begun c.requires.there.0 c.requires.there.1.1.seen_so in
    one_base_on _ _ _ _ (g.met.S.Service.honest c.begin_opening.new.self.service begun.0 begun.1.0).pictures c.in_ok-begin_opening.ensures.base c.crash.ensures.base
