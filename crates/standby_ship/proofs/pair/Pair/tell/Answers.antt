use Rattle.std.proofs.Common.{◌≡◌, ◌∙◌, ◌<◌, ◌^◌, sym, ap, subst, true}
use Rattle.std.specs.Prelude.{is_some, Err}
use Rattle.std.specs.Option.{option_map}
use Rattle.service_calls.specs.Kept.{Goes, HaveOneBase}
use Rattle.standby_ship.specs.Seeing.{LeavesPair, SeesPair, bytes_in}
use Rattle.standby_ship.specs.Twins.{Twin, state_in}
use Rattle.standby_ship.proofs.Answering.{lags_open, with_both}
use Rattle.standby_ship.proofs.Leaving.{base_broken, base_shipped, keeps_broken, keeps_shipped, keeps_stopped, sound_broken, sound_shipped}
use Rattle.ltxid_book.specs.declared.verdict.Verdict.{Verdict}
use Rattle.server_model.specs.ServiceCalls.{AskedOne, StoppedAsk}
use Rattle.service_calls.specs.Answers.{Ends}
use Rattle.standby_ship.proofs.Askings.{asks, asks_own, asks_shipping}
use Rattle.server_model.specs.declared.fault.ServeFault.{ServeFault}
use Rattle.service_core.specs.Seeing.{LeavesIn, SeesIn}
use Rattle.service_core.specs.Unanswered.{MayHalt}
use Rattle.standby_ship.proofs.Breaking.{some_more}
use Rattle.standby_ship.proofs.pair.Pair.tell.Goals as goal

pub ship_behind-requires : goal.ship_behind-requires
ship_behind-requires g c =
    let old : Twin = record { primary = c.self.inside.primary; second = c.self.inside.second; lost = option_map g.D.Disk.state c.self.inside.lost; is_opened = c.self.inside.is_opened; is_spent = c.self.inside.is_spent } in
    let live = ap (λ (p : Twin). p.is_spent) c.self.view_is ∙ c.requires.live in
    let kept = c.self.invariant live in
    let few = subst (λ n. n < 2 ^ 48) (sym (ap (λ (p : Twin). (state_in p).calls) c.self.view_is)) c.requires.few in
    let is_up : is_some old.primary.core ≡ true = ap (λ (p : Twin). (state_in p).is_up) c.self.view_is ∙ c.requires.up in
    lags_open old c.tell.new.self kept is_up few c.in-Ok.ensures.grew

pub invariant_of-self : goal.invariant_of-self
invariant_of-self g c live =
    let old : Twin = record { primary = c.self.inside.primary; second = c.self.inside.second; lost = option_map g.D.Disk.state c.self.inside.lost; is_opened = c.self.inside.is_opened; is_spent = c.self.inside.is_spent } in
    let kept = c.self.invariant live in
    let is_up : is_some old.primary.core ≡ true = ap (λ (p : Twin). (state_in p).is_up) c.self.view_is ∙ c.requires.up in
    keeps_shipped old live kept is_up c.tell.new.self c.ship_behind.new.primary c.ship_behind.new.second c.in-Ok.ensures.grew c.in-Ok-ship_behind.ensures.shipped c.in-Ok-ship_behind.ensures.kept

pub returns-in-Ok-ship_behind-clause-asked : goal.returns-in-Ok-ship_behind-clause-asked
returns-in-Ok-ship_behind-clause-asked g c =
    let old : Twin = record { primary = c.self.inside.primary; second = c.self.inside.second; lost = option_map g.D.Disk.state c.self.inside.lost; is_opened = c.self.inside.is_opened; is_spent = c.self.inside.is_spent } in
    let live = ap (λ (p : Twin). p.is_spent) c.self.view_is ∙ c.requires.live in
    let kept = c.self.invariant live in
    let is_up : is_some old.primary.core ≡ true = ap (λ (p : Twin). (state_in p).is_up) c.self.view_is ∙ c.requires.up in
    let sound = sound_shipped old.primary c.tell.new.self c.ship_behind.new.primary old.second c.ship_behind.new.second c.in-Ok.ensures.grew c.in-Ok-ship_behind.ensures.shipped c.in-Ok-ship_behind.ensures.kept in
    subst (λ (p : Twin). Goes (SeesPair p) (SeesPair (with_both old c.ship_behind.new.primary c.ship_behind.new.second)) (λ before next. AskedOne before c.args.x.now c.in-Ok.told next)) {x = old} c.self.view_is
    (asks old live kept is_up c.args.x.now c.in-Ok.told c.tell.new.self c.in-Ok.ensures.grew c.ship_behind.new.primary c.ship_behind.new.second sound c.in-Ok-ship_behind.ensures.shipped c.in-Ok.ensures.asked)

pub returns-in-Ok-ship_behind-clause-base : goal.returns-in-Ok-ship_behind-clause-base
returns-in-Ok-ship_behind-clause-base g c =
    let old : Twin = record { primary = c.self.inside.primary; second = c.self.inside.second; lost = option_map g.D.Disk.state c.self.inside.lost; is_opened = c.self.inside.is_opened; is_spent = c.self.inside.is_spent } in
    subst (λ (p : Twin). HaveOneBase (bytes_in p) c.ship_behind.new.primary.disk.now.seen) {x = old} c.self.view_is
    (base_shipped c.tell.new.self c.ship_behind.new.primary old.second c.ship_behind.new.second old.primary.disk.now.seen c.in-Ok-ship_behind.ensures.shipped c.in-Ok.ensures.base)

pub invariant_of-self-in-Err-Stopped-ship_behind : goal.invariant_of-self-in-Err-Stopped-ship_behind
invariant_of-self-in-Err-Stopped-ship_behind g c live =
    let old : Twin = record { primary = c.self.inside.primary; second = c.self.inside.second; lost = option_map g.D.Disk.state c.self.inside.lost; is_opened = c.self.inside.is_opened; is_spent = c.self.inside.is_spent } in
    let kept = c.self.invariant live in
    let is_up : is_some old.primary.core ≡ true = ap (λ (p : Twin). (state_in p).is_up) c.self.view_is ∙ c.requires.up in
    keeps_broken old live kept is_up c.tell.new.self c.ship_behind.new.primary c.ship_behind.new.second c.in-Ok.ensures.grew c.keeps_to_it.ensures (c.in-Err-Stopped-ship_behind.ensures.broken (ap Err c.in-Err-Stopped-ship_behind.field-0-is)) c.in-Err-Stopped-ship_behind.ensures.kept

pub returns-in-Err-Stopped-ship_behind-clause-asked : goal.returns-in-Err-Stopped-ship_behind-clause-asked
returns-in-Err-Stopped-ship_behind-clause-asked g c =
    let old : Twin = record { primary = c.self.inside.primary; second = c.self.inside.second; lost = option_map g.D.Disk.state c.self.inside.lost; is_opened = c.self.inside.is_opened; is_spent = c.self.inside.is_spent } in
    let live = ap (λ (p : Twin). p.is_spent) c.self.view_is ∙ c.requires.live in
    let kept = c.self.invariant live in
    let is_up : is_some old.primary.core ≡ true = ap (λ (p : Twin). (state_in p).is_up) c.self.view_is ∙ c.requires.up in
    let broken = c.in-Err-Stopped-ship_behind.ensures.broken (ap Err c.in-Err-Stopped-ship_behind.field-0-is) in
    let sound_mid = c.keeps_to_it.ensures c.in-Ok.ensures.grew.counts.live in
    let sound = sound_broken _ old.primary c.tell.new.self c.ship_behind.new.primary old.second c.ship_behind.new.second c.in-Ok.ensures.grew broken c.in-Err-Stopped-ship_behind.ensures.kept in
    subst (λ (p : Twin). Goes (SeesPair p) (SeesPair (with_both old c.ship_behind.new.primary c.ship_behind.new.second)) (λ before next. StoppedAsk before c.args.x.now (LeavesPair (with_both old c.ship_behind.new.primary c.ship_behind.new.second)) next)) {x = old} c.self.view_is
    (asks_shipping old live kept is_up c.args.x.now c.in-Ok.told c.tell.new.self c.in-Ok.ensures.grew sound_mid c.ship_behind.new.primary c.ship_behind.new.second broken sound c.in-Ok.ensures.asked (c.in-Ok.ensures.halted (some_more old c.tell.new.self c.in-Ok.ensures.grew is_up kept sound_mid c.ship_behind.new.primary sound c.ship_behind.new.second broken)))

pub returns-in-Err-Stopped-ship_behind-clause-base : goal.returns-in-Err-Stopped-ship_behind-clause-base
returns-in-Err-Stopped-ship_behind-clause-base g c =
    let old : Twin = record { primary = c.self.inside.primary; second = c.self.inside.second; lost = option_map g.D.Disk.state c.self.inside.lost; is_opened = c.self.inside.is_opened; is_spent = c.self.inside.is_spent } in
    subst (λ (p : Twin). HaveOneBase (bytes_in p) c.ship_behind.new.primary.disk.now.seen) {x = old} c.self.view_is
    (base_broken _ c.tell.new.self c.ship_behind.new.primary old.second c.ship_behind.new.second old.primary.disk.now.seen (c.in-Err-Stopped-ship_behind.ensures.broken (ap Err c.in-Err-Stopped-ship_behind.field-0-is)) c.in-Ok.ensures.base)

pub invariant_of-self-in-Err-Stopped : goal.invariant_of-self-in-Err-Stopped
invariant_of-self-in-Err-Stopped g c live =
    let old : Twin = record { primary = c.self.inside.primary; second = c.self.inside.second; lost = option_map g.D.Disk.state c.self.inside.lost; is_opened = c.self.inside.is_opened; is_spent = c.self.inside.is_spent } in
    let kept = c.self.invariant live in
    let few = subst (λ n. n < 2 ^ 48) (sym (ap (λ (p : Twin). (state_in p).calls) c.self.view_is)) c.requires.few in
    let is_up : is_some old.primary.core ≡ true = ap (λ (p : Twin). (state_in p).is_up) c.self.view_is ∙ c.requires.up in
    keeps_stopped old live kept is_up c.tell.new.self few (c.in-Err-Stopped.ensures.broke (ap Err c.in-Err-Stopped.field-0-is)) c.keeps_to_it-in-Err-Stopped.ensures

pub returns-in-Err-Stopped-clause-asked : goal.returns-in-Err-Stopped-clause-asked
returns-in-Err-Stopped-clause-asked g c =
    let old : Twin = record { primary = c.self.inside.primary; second = c.self.inside.second; lost = option_map g.D.Disk.state c.self.inside.lost; is_opened = c.self.inside.is_opened; is_spent = c.self.inside.is_spent } in
    let live = ap (λ (p : Twin). p.is_spent) c.self.view_is ∙ c.requires.live in
    let kept = c.self.invariant live in
    let few = subst (λ n. n < 2 ^ 48) (sym (ap (λ (p : Twin). (state_in p).calls) c.self.view_is)) c.requires.few in
    let is_up : is_some old.primary.core ≡ true = ap (λ (p : Twin). (state_in p).is_up) c.self.view_is ∙ c.requires.up in
    let broke = c.in-Err-Stopped.ensures.broke (ap Err c.in-Err-Stopped.field-0-is) in
    let sound = c.keeps_to_it-in-Err-Stopped.ensures broke.counts.live in
    let told = subst (λ (f : ServeFault). Ends {A = Verdict} (Err f) (λ told. Goes (SeesIn old.primary) (SeesIn c.tell.new.self) (λ before next. AskedOne before c.args.x.now told next)) (Goes (SeesIn old.primary) (SeesIn c.tell.new.self) (λ before next. StoppedAsk before c.args.x.now (LeavesIn c.tell.new.self) next))) c.in-Err-Stopped.field-0-is c.in-Err-Stopped.ensures.asked in
    let none = c.in-Err-Stopped.ensures.halted (subst (λ (f : ServeFault). MayHalt {A = Verdict} (Err f) old.primary c.tell.new.self) (sym c.in-Err-Stopped.field-0-is) tt) in
    subst (λ (p : Twin). Goes (SeesPair p) (SeesPair (with_both old c.tell.new.self old.second)) (λ before next. StoppedAsk before c.args.x.now (LeavesPair (with_both old c.tell.new.self old.second)) next)) {x = old} c.self.view_is
    (asks_own old live kept is_up c.args.x.now few c.tell.new.self broke sound told none)
