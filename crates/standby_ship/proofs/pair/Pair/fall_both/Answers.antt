use Rattle.std.proofs.Common.{◌∙◌, ap, subst}
use Rattle.std.specs.Option.{option_map}
use Rattle.server_model.specs.ServiceCalls.{Crashed}
use Rattle.service_calls.specs.Kept.{Goes}
use Rattle.standby_ship.specs.Seeing.{SeesPair}
use Rattle.standby_ship.specs.Twins.{Twin}
use Rattle.standby_ship.proofs.Crashing.{falls, falls_soundly, fallen_with, fell_counts}
use Rattle.standby_ship.proofs.pair.Pair.fall_both.Goals as goal

pub invariant_of-self : goal.invariant_of-self
invariant_of-self g c live =
    let old : Twin = record { primary = c.self.inside.primary; second = c.self.inside.second; lost = option_map g.D.Disk.state c.self.inside.lost; is_opened = c.self.inside.is_opened; is_spent = c.self.inside.is_spent } in
    falls_soundly old c.fall.new.self c.fall_second.new.second c.fall.ensures.fell c.fall_second.ensures c.keeps_to_it.ensures (c.self.invariant live)

pub returns-clause-crashed : goal.returns-clause-crashed
returns-clause-crashed g c =
    let old : Twin = record { primary = c.self.inside.primary; second = c.self.inside.second; lost = option_map g.D.Disk.state c.self.inside.lost; is_opened = c.self.inside.is_opened; is_spent = c.self.inside.is_spent } in
    let live = ap (λ (p : Twin). p.is_spent) c.self.view_is ∙ c.requires.live in
    let sound = falls_soundly old c.fall.new.self c.fall_second.new.second c.fall.ensures.fell c.fall_second.ensures c.keeps_to_it.ensures (c.self.invariant live) in
    subst (λ (p : Twin). Goes (SeesPair p) (SeesPair (fallen_with old c.fall.new.self c.fall_second.new.second)) (λ before next. Crashed before c.args.pick next)) {x = old} c.self.view_is
    (falls old c.fall.new.self c.fall_second.new.second c.args.pick live c.requires.both (fell_counts old.second c.fall_second.new.second c.fall_second.ensures) sound c.fall.ensures.crashed)
