use Rattle.std.proofs.Common.{◌∙◌, ◌<◌, ◌^◌, ap, subst, sym}
use Rattle.std.specs.Prelude.{option_map}
use Rattle.server_model.specs.ServiceCalls.{Reaped}
use Rattle.service_calls.specs.Kept.{Goes}
use Rattle.standby_ship.specs.Seeing.{SeesPair}
use Rattle.standby_ship.specs.Twins.{Twin, state_in}
use Rattle.standby_ship.proofs.Staying.{reaps, stays_leaves, stays_soundly, with_primary}
use Rattle.standby_ship.proofs.pair.Pair.end.Goals as goal

pub end-requires-clause-live : goal.end-requires-clause-live
end-requires-clause-live g c = (c.self.invariant (ap (λ (t : Twin). t.is_spent) c.self.view_is ∙ c.requires.live)).live

pub end-requires-clause-few : goal.end-requires-clause-few
end-requires-clause-few g c = subst (λ (t : Twin). (state_in t).calls < 2 ^ 48) (sym c.self.view_is) c.requires.few

pub invariant_of-self : goal.invariant_of-self
invariant_of-self g c live =
    let old : Twin = record { primary = c.self.inside.primary; second = c.self.inside.second; lost = option_map g.D.Disk.state c.self.inside.lost; is_opened = c.self.inside.is_opened; is_spent = c.self.inside.is_spent } in
    let leaves = stays_leaves old.primary c.end.new.self c.end.ensures.stays in
    stays_soundly old c.end.new.self leaves (c.keeps_to_it.ensures leaves.live) (c.self.invariant live)

pub returns-clause-reaped : goal.returns-clause-reaped
returns-clause-reaped g c =
    let old : Twin = record { primary = c.self.inside.primary; second = c.self.inside.second; lost = option_map g.D.Disk.state c.self.inside.lost; is_opened = c.self.inside.is_opened; is_spent = c.self.inside.is_spent } in
    let live = ap (λ (t : Twin). t.is_spent) c.self.view_is ∙ c.requires.live in
    let leaves = stays_leaves old.primary c.end.new.self c.end.ensures.stays in
    subst (λ (t : Twin). Goes (SeesPair t) (SeesPair (with_primary old c.end.new.self)) (λ before after. Reaped before c.args.connection after)) {x = old} c.self.view_is
    (reaps old c.end.new.self live leaves (c.keeps_to_it.ensures leaves.live) (c.self.invariant live) c.args.connection c.end.ensures.reaped)
