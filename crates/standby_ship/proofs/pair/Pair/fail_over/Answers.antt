use Rattle.std.proofs.Common.{◌∙◌, ap, subst}
use Rattle.std.specs.Option.{option_map}
use Rattle.server_model.specs.ServiceCalls.{Crashed}
use Rattle.service_calls.specs.Kept.{Goes, HaveOneBase}
use Rattle.standby_ship.specs.Seeing.{SeesPair, bytes_in}
use Rattle.standby_ship.specs.Twins.{Twin}
use Rattle.standby_ship.proofs.FailingOver.{base_over, failed_soundly, failed_with, fails_over}
use Rattle.standby_ship.proofs.TakingOver.{may_take_over}
use Rattle.standby_ship.proofs.pair.Pair.fail_over.Goals as goal

pub take_over-requires-clause-may : goal.take_over-requires-clause-may
take_over-requires-clause-may g c =
    let old : Twin = record { primary = c.self.inside.primary; second = c.self.inside.second; lost = option_map g.D.Disk.state c.self.inside.lost; is_opened = c.self.inside.is_opened; is_spent = c.self.inside.is_spent } in
    let live = ap (λ (p : Twin). p.is_spent) c.self.view_is ∙ c.requires.live in
    may_take_over old (c.self.invariant live) (ap (λ (p : Twin). p.is_opened) c.self.view_is ∙ c.requires.opened)

pub returns-clause-crashed : goal.returns-clause-crashed
returns-clause-crashed g c =
    let old : Twin = record { primary = c.self.inside.primary; second = c.self.inside.second; lost = option_map g.D.Disk.state c.self.inside.lost; is_opened = c.self.inside.is_opened; is_spent = c.self.inside.is_spent } in
    let lost = option_map g.D.Disk.state c.take_over.new.lost in
    let live = ap (λ (p : Twin). p.is_spent) c.self.view_is ∙ c.requires.live in
    let kept = c.self.invariant live in
    let opened = ap (λ (p : Twin). p.is_opened) c.self.view_is ∙ c.requires.opened in
    let sound = failed_soundly old c.take_over.new.primary c.fall.new.self c.take_over.new.second lost c.take_over.ensures c.fall.ensures.fell c.keeps_to_it.ensures in
    subst (λ (p : Twin). Goes (SeesPair p) (SeesPair (failed_with old c.fall.new.self c.take_over.new.second lost)) (λ before next. Crashed before c.args.pick next)) {x = old} c.self.view_is
    (fails_over old live opened kept c.take_over.new.primary c.fall.new.self c.take_over.new.second lost c.take_over.ensures c.args.pick c.requires.over c.fall.ensures.fell sound c.fall.ensures.crashed)

pub returns-clause-base : goal.returns-clause-base
returns-clause-base g c =
    let old : Twin = record { primary = c.self.inside.primary; second = c.self.inside.second; lost = option_map g.D.Disk.state c.self.inside.lost; is_opened = c.self.inside.is_opened; is_spent = c.self.inside.is_spent } in
    let lost = option_map g.D.Disk.state c.take_over.new.lost in
    let live = ap (λ (p : Twin). p.is_spent) c.self.view_is ∙ c.requires.live in
    let kept = c.self.invariant live in
    let opened = ap (λ (p : Twin). p.is_opened) c.self.view_is ∙ c.requires.opened in
    subst (λ (p : Twin). HaveOneBase (bytes_in p) c.fall.new.self.disk.now.seen) {x = old} c.self.view_is
    (base_over old live opened kept c.take_over.new.primary c.fall.new.self c.take_over.new.second lost c.take_over.ensures c.fall.ensures.base)
