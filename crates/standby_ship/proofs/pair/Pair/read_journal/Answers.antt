use Rattle.std.proofs.Common.{◌∙◌, ◌<◌, ◌^◌, ap, subst, sym}
use Rattle.std.specs.Prelude.{option_map}
use Rattle.server_model.specs.ServiceCalls.{Looked, StoppedLook}
use Rattle.service_calls.specs.Kept.{Goes}
use Rattle.standby_ship.specs.Seeing.{SeesPair}
use Rattle.standby_ship.specs.Twins.{Twin, state_in}
use Rattle.standby_ship.proofs.Staying.{looks, looks_leaves, loses, stays_soundly, with_primary}
use Rattle.standby_ship.proofs.Stopped.{at_stop}
use Rattle.standby_ship.proofs.pair.Pair.read_journal.Goals as goal

pub read_journal-requires-clause-live : goal.read_journal-requires-clause-live
read_journal-requires-clause-live g c = (c.self.invariant (ap (λ (t : Twin). t.is_spent) c.self.view_is ∙ c.requires.live)).live

pub read_journal-requires-clause-few : goal.read_journal-requires-clause-few
read_journal-requires-clause-few g c = subst (λ (t : Twin). (state_in t).calls < 2 ^ 48) (sym c.self.view_is) c.requires.few

pub invariant_of-self : goal.invariant_of-self
invariant_of-self g c live =
    let old : Twin = record { primary = c.self.inside.primary; second = c.self.inside.second; lost = option_map g.D.Disk.state c.self.inside.lost; is_opened = c.self.inside.is_opened; is_spent = c.self.inside.is_spent } in
    let leaves = looks_leaves _ old.primary c.read_journal.new.self c.in-Ok.ensures.looks in
    stays_soundly old c.read_journal.new.self leaves (c.keeps_to_it.ensures leaves.live) (c.self.invariant live)

pub returns-in-Ok-clause-looked : goal.returns-in-Ok-clause-looked
returns-in-Ok-clause-looked g c =
    let old : Twin = record { primary = c.self.inside.primary; second = c.self.inside.second; lost = option_map g.D.Disk.state c.self.inside.lost; is_opened = c.self.inside.is_opened; is_spent = c.self.inside.is_spent } in
    let live = ap (λ (t : Twin). t.is_spent) c.self.view_is ∙ c.requires.live in
    let leaves = looks_leaves _ old.primary c.read_journal.new.self c.in-Ok.ensures.looks in
    subst (λ (t : Twin). Goes (SeesPair t) (SeesPair (with_primary old c.read_journal.new.self)) Looked) {x = old} c.self.view_is
    (looks old c.read_journal.new.self live leaves (c.keeps_to_it.ensures leaves.live) (c.self.invariant live) c.in-Ok.ensures.looked)

pub invariant_of-self-in-Err-Stopped : goal.invariant_of-self-in-Err-Stopped
invariant_of-self-in-Err-Stopped g c live =
    let old : Twin = record { primary = c.self.inside.primary; second = c.self.inside.second; lost = option_map g.D.Disk.state c.self.inside.lost; is_opened = c.self.inside.is_opened; is_spent = c.self.inside.is_spent } in
    let leaves = looks_leaves _ old.primary c.read_journal.new.self (at_stop _ c.in-Err-Stopped.field-0-is _ _ c.in-Err-Stopped.ensures.looks) in
    stays_soundly old c.read_journal.new.self leaves (c.keeps_to_it-in-Err-Stopped.ensures leaves.live) (c.self.invariant live)

pub returns-in-Err-Stopped-clause-looked : goal.returns-in-Err-Stopped-clause-looked
returns-in-Err-Stopped-clause-looked g c =
    let old : Twin = record { primary = c.self.inside.primary; second = c.self.inside.second; lost = option_map g.D.Disk.state c.self.inside.lost; is_opened = c.self.inside.is_opened; is_spent = c.self.inside.is_spent } in
    let live = ap (λ (t : Twin). t.is_spent) c.self.view_is ∙ c.requires.live in
    let leaves = looks_leaves _ old.primary c.read_journal.new.self (at_stop _ c.in-Err-Stopped.field-0-is _ _ c.in-Err-Stopped.ensures.looks) in
    subst (λ (t : Twin). Goes (SeesPair t) (SeesPair (with_primary old c.read_journal.new.self)) StoppedLook) {x = old} c.self.view_is
    (loses old c.read_journal.new.self live leaves (c.keeps_to_it-in-Err-Stopped.ensures leaves.live) (c.self.invariant live) (at_stop _ c.in-Err-Stopped.field-0-is _ _ c.in-Err-Stopped.ensures.looked))
