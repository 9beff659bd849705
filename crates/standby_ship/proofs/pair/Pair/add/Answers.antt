use Rattle.std.proofs.Common.{◌≡◌, ◌∙◌, ◌<◌, ◌^◌, None, ap, subst, sym}
use Rattle.std.specs.Prelude.{option_map}
use Rattle.server_model.specs.ServiceCalls.{Connected}
use Rattle.service_calls.specs.Kept.{Goes}
use Rattle.standby_ship.specs.Seeing.{SeesPair}
use Rattle.standby_ship.specs.Twins.{Twin, state_in}
use Rattle.standby_ship.proofs.Staying.{connects, stays_leaves, stays_soundly, with_primary}
use Rattle.standby_ship.proofs.pair.Pair.add.Goals as goal

pub add-requires-clause-live : goal.add-requires-clause-live
add-requires-clause-live g c = (c.self.invariant (ap (λ (t : Twin). t.is_spent) c.self.view_is ∙ c.requires.live)).live

pub add-requires-clause-few : goal.add-requires-clause-few
add-requires-clause-few g c = subst (λ (t : Twin). (state_in t).calls < 2 ^ 48) (sym c.self.view_is) c.requires.few

pub add-requires-clause-new : goal.add-requires-clause-new
add-requires-clause-new g c = subst (λ (t : Twin). (state_in t).living c.args.connection ≡ None) (sym c.self.view_is) c.requires.new

pub invariant_of-self : goal.invariant_of-self
invariant_of-self g c live =
    let old : Twin = record { primary = c.self.inside.primary; second = c.self.inside.second; lost = option_map g.D.Disk.state c.self.inside.lost; is_opened = c.self.inside.is_opened; is_spent = c.self.inside.is_spent } in
    let leaves = stays_leaves old.primary c.add.new.self c.in-Ok.ensures.stays in
    stays_soundly old c.add.new.self leaves (c.keeps_to_it.ensures leaves.live) (c.self.invariant live)

pub returns-in-Ok-clause-connected : goal.returns-in-Ok-clause-connected
returns-in-Ok-clause-connected g c =
    let old : Twin = record { primary = c.self.inside.primary; second = c.self.inside.second; lost = option_map g.D.Disk.state c.self.inside.lost; is_opened = c.self.inside.is_opened; is_spent = c.self.inside.is_spent } in
    let live = ap (λ (t : Twin). t.is_spent) c.self.view_is ∙ c.requires.live in
    let leaves = stays_leaves old.primary c.add.new.self c.in-Ok.ensures.stays in
    subst (λ (t : Twin). Goes (SeesPair t) (SeesPair (with_primary old c.add.new.self)) (λ before after. Connected before c.args.connection c.in-Ok.up after)) {x = old} c.self.view_is
    (connects old c.add.new.self live leaves (c.keeps_to_it.ensures leaves.live) (c.self.invariant live) c.args.connection c.in-Ok.up c.in-Ok.ensures.connected)
