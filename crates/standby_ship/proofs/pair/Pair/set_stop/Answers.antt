use Rattle.std.proofs.Common.{◌≡◌, ◌∙◌, ◌<◌, ◌^◌, ap, subst, sym}
use Rattle.std.specs.Prelude.{option_map}
use Rattle.server_model.specs.ServiceCalls.{with_stop}
use Rattle.service_calls.specs.Kept.{Goes}
use Rattle.standby_ship.specs.Seeing.{SeesPair}
use Rattle.standby_ship.specs.Twins.{Twin, state_in}
use Rattle.standby_ship.proofs.Staying.{sets_leaves, sets_stop, stays_soundly, with_primary}
use Rattle.standby_ship.proofs.pair.Pair.set_stop.Goals as goal

pub set_stop-requires-clause-live : goal.set_stop-requires-clause-live
set_stop-requires-clause-live g c = (c.self.invariant (ap (λ (t : Twin). t.is_spent) c.self.view_is ∙ c.requires.live)).live

pub set_stop-requires-clause-few : goal.set_stop-requires-clause-few
set_stop-requires-clause-few g c = subst (λ (t : Twin). (state_in t).calls < 2 ^ 48) (sym c.self.view_is) c.requires.few

pub invariant_of-self : goal.invariant_of-self
invariant_of-self g c live =
    let old : Twin = record { primary = c.self.inside.primary; second = c.self.inside.second; lost = option_map g.D.Disk.state c.self.inside.lost; is_opened = c.self.inside.is_opened; is_spent = c.self.inside.is_spent } in
    let leaves = sets_leaves c.args.calls old.primary c.set_stop.new.self c.set_stop.ensures.sets in
    stays_soundly old c.set_stop.new.self leaves (c.keeps_to_it.ensures leaves.live) (c.self.invariant live)

pub returns-clause-stop : goal.returns-clause-stop
returns-clause-stop g c =
    let old : Twin = record { primary = c.self.inside.primary; second = c.self.inside.second; lost = option_map g.D.Disk.state c.self.inside.lost; is_opened = c.self.inside.is_opened; is_spent = c.self.inside.is_spent } in
    let live = ap (λ (t : Twin). t.is_spent) c.self.view_is ∙ c.requires.live in
    let leaves = sets_leaves c.args.calls old.primary c.set_stop.new.self c.set_stop.ensures.sets in
    subst (λ (t : Twin). Goes (SeesPair t) (SeesPair (with_primary old c.set_stop.new.self)) (λ before after. after ≡ with_stop before c.args.calls)) {x = old} c.self.view_is
    (sets_stop old c.set_stop.new.self live leaves (c.keeps_to_it.ensures leaves.live) (c.self.invariant live) c.args.calls c.set_stop.ensures.stop)
