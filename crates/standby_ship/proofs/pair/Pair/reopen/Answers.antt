use Rattle.std.proofs.Common.{◌≡◌, ◌∙◌, ◌<◌, ◌^◌, true, false, sym, ap, subst}
use Rattle.std.specs.Prelude.{is_some, Err}
use Rattle.std.specs.Option.{option_map}
use Rattle.server_model.specs.declared.fault.ServeFault.{ServeFault}
use Rattle.service_core.specs.Seeing.{LeavesIn, SeesIn}
use Rattle.service_core.specs.Unanswered.{MayHalt}
use Rattle.server_model.specs.ServiceCalls.{Opened, StoppedOpening}
use Rattle.service_calls.specs.Kept.{Goes, HaveOneBase}
use Rattle.standby_ship.specs.Seeing.{LeavesPair, SeesPair, bytes_in}
use Rattle.standby_ship.specs.Twins.{Twin, state_in}
use Rattle.standby_ship.proofs.Answering.{with_both}
use Rattle.standby_ship.proofs.Leaving.{base_broken}
use Rattle.standby_ship.proofs.OpeningBreaks.{opening_stops, shipping_stops, stops_own_soundly, stops_shipping_soundly}
use Rattle.standby_ship.proofs.Stopped.{at_stop}
use Rattle.standby_ship.proofs.OpeningBoth.{base_along, lags_settled, opened_with, opens, opens_soundly}
use Rattle.standby_ship.proofs.pair.Pair.reopen.Goals as goal

pub bring_up-requires : goal.bring_up-requires
bring_up-requires g c =
    let old : Twin = record { primary = c.self.inside.primary; second = c.self.inside.second; lost = option_map g.D.Disk.state c.self.inside.lost; is_opened = c.self.inside.is_opened; is_spent = c.self.inside.is_spent } in
    let live = ap (λ (p : Twin). p.is_spent) c.self.view_is ∙ c.requires.live in
    let kept = c.self.invariant live in
    let few = subst (λ n. n < 2 ^ 48) (sym (ap (λ (p : Twin). (state_in p).calls) c.self.view_is)) c.requires.few in
    let off : is_some old.primary.core ≡ false = ap (λ (p : Twin). (state_in p).is_up) c.self.view_is ∙ c.requires.down.0 in
    let settled : old.primary.notes.is_settled ≡ true = ap (λ (p : Twin). (state_in p).is_settled) c.self.view_is ∙ c.requires.down.1 in
    lags_settled old off settled kept c.reopen.new.self few c.in-Ok.ensures.grew

pub invariant_of-self : goal.invariant_of-self
invariant_of-self g c live =
    let old : Twin = record { primary = c.self.inside.primary; second = c.self.inside.second; lost = option_map g.D.Disk.state c.self.inside.lost; is_opened = c.self.inside.is_opened; is_spent = c.self.inside.is_spent } in
    let off : is_some old.primary.core ≡ false = ap (λ (p : Twin). (state_in p).is_up) c.self.view_is ∙ c.requires.down.0 in
    let settled : old.primary.notes.is_settled ≡ true = ap (λ (p : Twin). (state_in p).is_settled) c.self.view_is ∙ c.requires.down.1 in
    opens_soundly old off settled (c.self.invariant live) c.reopen.new.self c.bring_up.new.primary c.bring_up.new.second c.in-Ok.ensures.grew c.in-Ok-bring_up.ensures.kept c.in-Ok-bring_up.ensures.caught_up

pub returns-in-Ok-bring_up-clause-opened : goal.returns-in-Ok-bring_up-clause-opened
returns-in-Ok-bring_up-clause-opened g c =
    let old : Twin = record { primary = c.self.inside.primary; second = c.self.inside.second; lost = option_map g.D.Disk.state c.self.inside.lost; is_opened = c.self.inside.is_opened; is_spent = c.self.inside.is_spent } in
    let live = ap (λ (p : Twin). p.is_spent) c.self.view_is ∙ c.requires.live in
    let kept = c.self.invariant live in
    let off : is_some old.primary.core ≡ false = ap (λ (p : Twin). (state_in p).is_up) c.self.view_is ∙ c.requires.down.0 in
    let settled : old.primary.notes.is_settled ≡ true = ap (λ (p : Twin). (state_in p).is_settled) c.self.view_is ∙ c.requires.down.1 in
    let caught = c.in-Ok-bring_up.ensures.caught_up in
    let sound = opens_soundly old off settled kept c.reopen.new.self c.bring_up.new.primary c.bring_up.new.second c.in-Ok.ensures.grew c.in-Ok-bring_up.ensures.kept caught in
    subst (λ (p : Twin). Goes (SeesPair p) (SeesPair (opened_with old c.bring_up.new.primary c.bring_up.new.second)) (λ before next. Opened before c.args.horizon next)) {x = old} c.self.view_is
    (opens old live c.reopen.new.self c.args.horizon c.bring_up.new.primary c.bring_up.new.second caught c.in-Ok.ensures.grew.settled sound c.in-Ok.ensures.opened)

pub returns-in-Ok-bring_up-clause-base : goal.returns-in-Ok-bring_up-clause-base
returns-in-Ok-bring_up-clause-base g c =
    let old : Twin = record { primary = c.self.inside.primary; second = c.self.inside.second; lost = option_map g.D.Disk.state c.self.inside.lost; is_opened = c.self.inside.is_opened; is_spent = c.self.inside.is_spent } in
    subst (λ (p : Twin). HaveOneBase (bytes_in p) c.bring_up.new.primary.disk.now.seen) {x = old} c.self.view_is
    (base_along c.reopen.new.self c.bring_up.new.primary old.second c.bring_up.new.second old.primary.disk.now.seen c.in-Ok-bring_up.ensures.caught_up c.in-Ok.ensures.base)

pub invariant_of-self-in-Err-Stopped-bring_up : goal.invariant_of-self-in-Err-Stopped-bring_up
invariant_of-self-in-Err-Stopped-bring_up g c live =
    let old : Twin = record { primary = c.self.inside.primary; second = c.self.inside.second; lost = option_map g.D.Disk.state c.self.inside.lost; is_opened = c.self.inside.is_opened; is_spent = c.self.inside.is_spent } in
    let kept = c.self.invariant live in
    let off : is_some old.primary.core ≡ false = ap (λ (p : Twin). (state_in p).is_up) c.self.view_is ∙ c.requires.down.0 in
    let settled : old.primary.notes.is_settled ≡ true = ap (λ (p : Twin). (state_in p).is_settled) c.self.view_is ∙ c.requires.down.1 in
    let mid = c.reopen.new.self in
    let new = c.bring_up.new.primary in
    let after = c.bring_up.new.second in
    let grew = c.in-Ok.ensures.grew in
    let broken = c.in-Err-Stopped-bring_up.ensures.broken (ap Err c.in-Err-Stopped-bring_up.field-0-is) in
    let sound_mid = c.keeps_to_it.ensures grew.counts.live in
    stops_shipping_soundly old live off settled kept mid grew sound_mid _ new after broken c.in-Err-Stopped-bring_up.ensures.kept

pub returns-in-Err-Stopped-bring_up-clause-opened :
    goal.returns-in-Err-Stopped-bring_up-clause-opened
returns-in-Err-Stopped-bring_up-clause-opened g c =
    let old : Twin = record { primary = c.self.inside.primary; second = c.self.inside.second; lost = option_map g.D.Disk.state c.self.inside.lost; is_opened = c.self.inside.is_opened; is_spent = c.self.inside.is_spent } in
    let live = ap (λ (p : Twin). p.is_spent) c.self.view_is ∙ c.requires.live in
    let kept = c.self.invariant live in
    let off : is_some old.primary.core ≡ false = ap (λ (p : Twin). (state_in p).is_up) c.self.view_is ∙ c.requires.down.0 in
    let settled : old.primary.notes.is_settled ≡ true = ap (λ (p : Twin). (state_in p).is_settled) c.self.view_is ∙ c.requires.down.1 in
    let mid = c.reopen.new.self in
    let new = c.bring_up.new.primary in
    let after = c.bring_up.new.second in
    let grew = c.in-Ok.ensures.grew in
    let broken = c.in-Err-Stopped-bring_up.ensures.broken (ap Err c.in-Err-Stopped-bring_up.field-0-is) in
    let sound_mid = c.keeps_to_it.ensures grew.counts.live in
    subst (λ (p : Twin). Goes (SeesPair p) (SeesPair (with_both old new after)) (λ before next. StoppedOpening before c.args.horizon (LeavesPair (with_both old new after)) next)) {x = old} c.self.view_is
    (shipping_stops old live off settled kept mid grew sound_mid _ new after broken c.in-Err-Stopped-bring_up.ensures.kept c.args.horizon c.in-Ok.ensures.opened c.in-Ok.ensures.halted)

pub returns-in-Err-Stopped-bring_up-clause-base : goal.returns-in-Err-Stopped-bring_up-clause-base
returns-in-Err-Stopped-bring_up-clause-base g c =
    let old : Twin = record { primary = c.self.inside.primary; second = c.self.inside.second; lost = option_map g.D.Disk.state c.self.inside.lost; is_opened = c.self.inside.is_opened; is_spent = c.self.inside.is_spent } in
    subst (λ (p : Twin). HaveOneBase (bytes_in p) c.bring_up.new.primary.disk.now.seen) {x = old} c.self.view_is
    (base_broken _ c.reopen.new.self c.bring_up.new.primary old.second c.bring_up.new.second old.primary.disk.now.seen (c.in-Err-Stopped-bring_up.ensures.broken (ap Err c.in-Err-Stopped-bring_up.field-0-is)) c.in-Ok.ensures.base)

pub invariant_of-self-in-Err-Stopped : goal.invariant_of-self-in-Err-Stopped
invariant_of-self-in-Err-Stopped g c live =
    let old : Twin = record { primary = c.self.inside.primary; second = c.self.inside.second; lost = option_map g.D.Disk.state c.self.inside.lost; is_opened = c.self.inside.is_opened; is_spent = c.self.inside.is_spent } in
    let kept = c.self.invariant live in
    let few = subst (λ n. n < 2 ^ 48) (sym (ap (λ (p : Twin). (state_in p).calls) c.self.view_is)) c.requires.few in
    let off : is_some old.primary.core ≡ false = ap (λ (p : Twin). (state_in p).is_up) c.self.view_is ∙ c.requires.down.0 in
    let settled : old.primary.notes.is_settled ≡ true = ap (λ (p : Twin). (state_in p).is_settled) c.self.view_is ∙ c.requires.down.1 in
    let new = c.reopen.new.self in
    let broke = c.in-Err-Stopped.ensures.broke (ap Err c.in-Err-Stopped.field-0-is) in
    stops_own_soundly old live off settled kept new few broke c.keeps_to_it-in-Err-Stopped.ensures

pub returns-in-Err-Stopped-clause-opened : goal.returns-in-Err-Stopped-clause-opened
returns-in-Err-Stopped-clause-opened g c =
    let old : Twin = record { primary = c.self.inside.primary; second = c.self.inside.second; lost = option_map g.D.Disk.state c.self.inside.lost; is_opened = c.self.inside.is_opened; is_spent = c.self.inside.is_spent } in
    let live = ap (λ (p : Twin). p.is_spent) c.self.view_is ∙ c.requires.live in
    let kept = c.self.invariant live in
    let few = subst (λ n. n < 2 ^ 48) (sym (ap (λ (p : Twin). (state_in p).calls) c.self.view_is)) c.requires.few in
    let off : is_some old.primary.core ≡ false = ap (λ (p : Twin). (state_in p).is_up) c.self.view_is ∙ c.requires.down.0 in
    let settled : old.primary.notes.is_settled ≡ true = ap (λ (p : Twin). (state_in p).is_settled) c.self.view_is ∙ c.requires.down.1 in
    let new = c.reopen.new.self in
    let broke = c.in-Err-Stopped.ensures.broke (ap Err c.in-Err-Stopped.field-0-is) in
    let told = at_stop c.in-Err-Stopped.field-0 c.in-Err-Stopped.field-0-is (λ done. Goes (SeesIn old.primary) (SeesIn new) (λ before next. Opened before c.args.horizon next)) (Goes (SeesIn old.primary) (SeesIn new) (λ before next. StoppedOpening before c.args.horizon (LeavesIn new) next)) c.in-Err-Stopped.ensures.opened in
    let none = c.in-Err-Stopped.ensures.halted (subst (λ (f : ServeFault). MayHalt {A = Unit {0}} (Err f) old.primary new) (sym c.in-Err-Stopped.field-0-is) tt) in
    subst (λ (p : Twin). Goes (SeesPair p) (SeesPair (with_both old new old.second)) (λ before next. StoppedOpening before c.args.horizon (LeavesPair (with_both old new old.second)) next)) {x = old} c.self.view_is
    (opening_stops old live off settled kept new few broke c.keeps_to_it-in-Err-Stopped.ensures c.args.horizon told none)
