use Rattle.std.proofs.Common.{◌≡◌, ◌∙◌, ◌<◌, ◌^◌, Bool, true, false, refl, sym, ap, subst}
use Rattle.std.specs.Prelude.{Err, is_some}
use Rattle.server_model.specs.declared.fault.ServeFault.{ServeFault}
use Rattle.server_model.specs.declared.fault.ServeFault.TheVariants as fault
use Rattle.server_model.specs.ServiceCalls.{MayForget, Opened, StoppedOpening}
use Rattle.service_calls.specs.Kept.{Goes, HaveOneBase}
use Rattle.service_core.specs.Seeing.{LeavesIn, SeesIn, bytes_in, state_in}
use Rattle.service_core.specs.Opening.{stop_of}
use Rattle.service_core.specs.Shipping.{Broke, GrewBy}
use Rattle.service_core.specs.Unanswered.{HaltedOpening, IsHaltedAs, StandsBetween}
use Rattle.service_core.specs.Within.{Within}
use Rattle.service_core.proofs.Growths.{opened_grew, opening_broke}
use Rattle.service_core.proofs.Opened.{down_of, is_opening, opened_from, opens_soundly, opens}
use Rattle.service_core.proofs.halts.Halted.{is_halted, halted_from, halts_soundly, halts_on_base, halts}
use Rattle.service_core.proofs.Faulty.{none_counted}
use Rattle.service_core.proofs.halts.OpeningHalts.{opened_halts, stopped_opening_halts}
use Rattle.service_core.proofs.one.OneService.reopen.Goals as goal
use Rattle.service_core.proofs.Indexing.{still_fit}

pub open-requires-clause-resting : goal.open-requires-clause-resting
open-requires-clause-resting g c =
    let old : Within = record { grants = c.self.inside.grants; disk = g.D.Disk.state c.self.inside.disk; core = c.self.inside.core; held = c.self.inside.held; notes = c.self.inside.notes } in
    let live = ap (λ (w : Within). w.notes.is_spent) c.self.view_is ∙ c.requires.live in
    let off : is_some old.core ≡ false = ap (λ (w : Within). is_some w.core) c.self.view_is ∙ c.requires.down.0 in
    c.self.invariant.at_rest live off

pub invariant_of-self : goal.invariant_of-self
invariant_of-self g c = record {
  kept = λ live.
      let old : Within = record { grants = c.self.inside.grants; disk = g.D.Disk.state c.self.inside.disk; core = c.self.inside.core; held = c.self.inside.held; notes = c.self.inside.notes } in
      let new = g.D.Disk.state c.open.new.disk in
      let opening = is_opening c.args.horizon old new c.in-Ok.core c.in-Ok.ensures.opened c.in-Ok.ensures.cause in
      let off : is_some old.core ≡ false = ap (λ (w : Within). is_some w.core) c.self.view_is ∙ c.requires.down.0 in
      let settled : old.notes.is_settled ≡ true = ap (λ (w : Within). w.notes.is_settled) c.self.view_is ∙ c.requires.down.1 in
      opens_soundly old new c.in-Ok.core c.left-self-inside.result c.args.horizon c.keeps_journal.ensures.keeps off settled (c.self.invariant.kept live) opening;
  at_rest = λ live down. absurd (let clash : ◌≡◌ {A = Bool} true false = down in cc);
}

pub returns-in-Ok-clause-opened : goal.returns-in-Ok-clause-opened
returns-in-Ok-clause-opened g c =
    let old : Within = record { grants = c.self.inside.grants; disk = g.D.Disk.state c.self.inside.disk; core = c.self.inside.core; held = c.self.inside.held; notes = c.self.inside.notes } in
    let new = g.D.Disk.state c.open.new.disk in
    let opening = is_opening c.args.horizon old new c.in-Ok.core c.in-Ok.ensures.opened c.in-Ok.ensures.cause in
    let live = ap (λ (w : Within). w.notes.is_spent) c.self.view_is ∙ c.requires.live in
    let off : is_some old.core ≡ false = ap (λ (w : Within). is_some w.core) c.self.view_is ∙ c.requires.down.0 in
    let settled : old.notes.is_settled ≡ true = ap (λ (w : Within). w.notes.is_settled) c.self.view_is ∙ c.requires.down.1 in
    let may = subst (λ (w : Within). MayForget (state_in w) c.args.horizon) (sym c.self.view_is) c.requires.may in
    subst (λ (w : Within). Goes (SeesIn w) (SeesIn (opened_from old new c.in-Ok.core c.left-self-inside.result)) (λ before after. Opened before c.args.horizon after)) {x = old} c.self.view_is
    (opens old new c.in-Ok.core c.left-self-inside.result c.args.horizon c.left-self-inside.ensures c.keeps_journal.ensures.keeps live off settled (c.self.invariant.kept live) may opening)

pub invariant_of-self-in-Err-Stopped : goal.invariant_of-self-in-Err-Stopped
invariant_of-self-in-Err-Stopped g c = record {
  kept = λ live.
      let old : Within = record { grants = c.self.inside.grants; disk = g.D.Disk.state c.self.inside.disk; core = c.self.inside.core; held = c.self.inside.held; notes = c.self.inside.notes } in
      let new = g.D.Disk.state c.open.new.disk in
      let said = c.in-Err-Stopped.ensures in
      let halted = is_halted (Err c.in-Err-Stopped.field-0) c.args.horizon (stop_of c.args.horizon old.disk.now.seen) old.disk new (ap Err c.in-Err-Stopped.field-0-is) (g.met.D.Disk.reads_now c.open.new.disk) said.any_moment said.stop said.cause in
      let off : is_some old.core ≡ false = ap (λ (w : Within). is_some w.core) c.self.view_is ∙ c.requires.down.0 in
      let settled : old.notes.is_settled ≡ true = ap (λ (w : Within). w.notes.is_settled) c.self.view_is ∙ c.requires.down.1 in
      halts_soundly old new c.left-self-inside.result c.args.horizon (stop_of c.args.horizon old.disk.now.seen) c.raises_horizon.ensures off settled (c.self.invariant.kept live) halted;
  at_rest = λ live down. c.in-Err-Stopped.ensures.kept (ap Err c.in-Err-Stopped.field-0-is);
}

pub returns-in-Err-Stopped-clause-opened : goal.returns-in-Err-Stopped-clause-opened
returns-in-Err-Stopped-clause-opened g c =
    let old : Within = record { grants = c.self.inside.grants; disk = g.D.Disk.state c.self.inside.disk; core = c.self.inside.core; held = c.self.inside.held; notes = c.self.inside.notes } in
    let new = g.D.Disk.state c.open.new.disk in
    let said = c.in-Err-Stopped.ensures in
    let halted = is_halted (Err c.in-Err-Stopped.field-0) c.args.horizon (stop_of c.args.horizon old.disk.now.seen) old.disk new (ap Err c.in-Err-Stopped.field-0-is) (g.met.D.Disk.reads_now c.open.new.disk) said.any_moment said.stop said.cause in
    let live = ap (λ (w : Within). w.notes.is_spent) c.self.view_is ∙ c.requires.live in
    let few = subst (λ n. n < 2 ^ 48) (sym (ap (λ (w : Within). w.notes.calls) c.self.view_is)) c.requires.few in
    let off : is_some old.core ≡ false = ap (λ (w : Within). is_some w.core) c.self.view_is ∙ c.requires.down.0 in
    let settled : old.notes.is_settled ≡ true = ap (λ (w : Within). w.notes.is_settled) c.self.view_is ∙ c.requires.down.1 in
    let may = subst (λ (w : Within). MayForget (state_in w) c.args.horizon) (sym c.self.view_is) c.requires.may in
    let after = halted_from old new c.left-self-inside.result in
    subst (λ (w : Within). Goes (SeesIn w) (SeesIn after) (λ before seen. StoppedOpening before c.args.horizon (LeavesIn after) seen)) {x = old} c.self.view_is
    (halts old new c.left-self-inside.result c.args.horizon (stop_of c.args.horizon old.disk.now.seen) c.left-self-inside.ensures c.raises_horizon.ensures live few off settled (c.self.invariant.kept live) may halted)

pub returns-in-Err-Stopped-clause-base : goal.returns-in-Err-Stopped-clause-base
returns-in-Err-Stopped-clause-base g c =
    let old : Within = record { grants = c.self.inside.grants; disk = g.D.Disk.state c.self.inside.disk; core = c.self.inside.core; held = c.self.inside.held; notes = c.self.inside.notes } in
    let new = g.D.Disk.state c.open.new.disk in
    let said = c.in-Err-Stopped.ensures in
    let halted = is_halted (Err c.in-Err-Stopped.field-0) c.args.horizon (stop_of c.args.horizon old.disk.now.seen) old.disk new (ap Err c.in-Err-Stopped.field-0-is) (g.met.D.Disk.reads_now c.open.new.disk) said.any_moment said.stop said.cause in
    let live = ap (λ (w : Within). w.notes.is_spent) c.self.view_is ∙ c.requires.live in
    let off : is_some old.core ≡ false = ap (λ (w : Within). is_some w.core) c.self.view_is ∙ c.requires.down.0 in
    let settled : old.notes.is_settled ≡ true = ap (λ (w : Within). w.notes.is_settled) c.self.view_is ∙ c.requires.down.1 in
    subst (λ (w : Within). HaveOneBase (bytes_in w) new.now.seen) {x = old} c.self.view_is
    (halts_on_base old new c.left-self-inside.result c.args.horizon (stop_of c.args.horizon old.disk.now.seen) c.raises_horizon.ensures off settled (c.self.invariant.kept live) halted)

pub returns-in-Err-NoMemory-clause-uncounted : goal.returns-in-Err-NoMemory-clause-uncounted
returns-in-Err-NoMemory-clause-uncounted g c lacked =
    let old : Within = record { grants = c.self.inside.grants; disk = g.D.Disk.state c.self.inside.disk; core = c.self.inside.core; held = c.self.inside.held; notes = c.self.inside.notes } in
    let other = λ (same : ◌≡◌ {A = ServeFault} fault.NoMemory fault.Stopped). absurd (cc) in
    none_counted _ fault.NoMemory fault.Stopped old.disk (g.D.Disk.state c.open.new.disk) c.in-Err-NoMemory.field-0-is other c.in-Err-NoMemory.ensures.cause ∙ ap (λ (w : Within). w.disk.faults) c.self.view_is

pub returns-in-Ok-clause-halted : goal.returns-in-Ok-clause-halted
returns-in-Ok-clause-halted g c grown =
    let old : Within = record { grants = c.self.inside.grants; disk = g.D.Disk.state c.self.inside.disk; core = c.self.inside.core; held = c.self.inside.held; notes = c.self.inside.notes } in
    let new = opened_from old (g.D.Disk.state c.open.new.disk) c.in-Ok.core c.left-self-inside.result in
    let live = ap (λ (w : Within). w.notes.is_spent) c.self.view_is ∙ c.requires.live in
    let few = subst (λ n. n < 2 ^ 48) (sym (ap (λ (w : Within). w.notes.calls) c.self.view_is)) c.requires.few in
    let off : is_some old.core ≡ false = ap (λ (w : Within). is_some w.core) c.self.view_is ∙ c.requires.down.0 in
    let settled : old.notes.is_settled ≡ true = ap (λ (w : Within). w.notes.is_settled) c.self.view_is ∙ c.requires.down.1 in
    let may = subst (λ (w : Within). MayForget (state_in w) c.args.horizon) (sym c.self.view_is) c.requires.may in
    subst (λ (w : Within). Goes (SeesIn w) (IsHaltedAs w new) (λ before after. HaltedOpening before c.args.horizon (StandsBetween w new) after)) {x = old} c.self.view_is
    (opened_halts old c.args.horizon c.raises_horizon.ensures few off settled (c.self.invariant.kept live) may new live refl c.in-Ok.core c.in-Ok.ensures.opened)

pub returns-in-Err-Stopped-clause-halted : goal.returns-in-Err-Stopped-clause-halted
returns-in-Err-Stopped-clause-halted g c none =
    let old : Within = record { grants = c.self.inside.grants; disk = g.D.Disk.state c.self.inside.disk; core = c.self.inside.core; held = c.self.inside.held; notes = c.self.inside.notes } in
    let end = g.D.Disk.state c.open.new.disk in
    let new = halted_from old end c.left-self-inside.result in
    let said = c.in-Err-Stopped.ensures in
    let halted = is_halted (Err c.in-Err-Stopped.field-0) c.args.horizon (stop_of c.args.horizon old.disk.now.seen) old.disk end (ap Err c.in-Err-Stopped.field-0-is) (g.met.D.Disk.reads_now c.open.new.disk) said.any_moment said.stop said.cause in
    let live = ap (λ (w : Within). w.notes.is_spent) c.self.view_is ∙ c.requires.live in
    let few = subst (λ n. n < 2 ^ 48) (sym (ap (λ (w : Within). w.notes.calls) c.self.view_is)) c.requires.few in
    let off : is_some old.core ≡ false = ap (λ (w : Within). is_some w.core) c.self.view_is ∙ c.requires.down.0 in
    let settled : old.notes.is_settled ≡ true = ap (λ (w : Within). w.notes.is_settled) c.self.view_is ∙ c.requires.down.1 in
    let may = subst (λ (w : Within). MayForget (state_in w) c.args.horizon) (sym c.self.view_is) c.requires.may in
    subst (λ (w : Within). Goes (SeesIn w) (IsHaltedAs w new) (λ before after. HaltedOpening before c.args.horizon (StandsBetween w new) after)) {x = old} c.self.view_is
    (stopped_opening_halts old c.args.horizon c.raises_horizon.ensures few off settled (c.self.invariant.kept live) may new live refl (stop_of c.args.horizon old.disk.now.seen) halted)

pub returns-in-Ok-clause-grew : goal.returns-in-Ok-clause-grew
returns-in-Ok-clause-grew g c =
    let old : Within = record { grants = c.self.inside.grants; disk = g.D.Disk.state c.self.inside.disk; core = c.self.inside.core; held = c.self.inside.held; notes = c.self.inside.notes } in
    let new = opened_from old (g.D.Disk.state c.open.new.disk) c.in-Ok.core c.left-self-inside.result in
    let live = ap (λ (w : Within). w.notes.is_spent) c.self.view_is ∙ c.requires.live in
    let off : is_some old.core ≡ false = ap (λ (w : Within). is_some w.core) c.self.view_is ∙ c.requires.down.0 in
    let settled : old.notes.is_settled ≡ true = ap (λ (w : Within). w.notes.is_settled) c.self.view_is ∙ c.requires.down.1 in
    let end = g.D.Disk.state c.open.new.disk in
    let down = down_of old off (c.self.invariant.kept live) in
    let read = down.leaves old.disk.now.seen down.reads_now in
    subst (λ (w : Within). GrewBy w new) {x = old} c.self.view_is
    (opened_grew old new (record { calls = refl; reads = refl; live = live; grants = refl }) c.args.horizon c.in-Ok.core read.journal read.reads (is_opening c.args.horizon old end c.in-Ok.core c.in-Ok.ensures.opened c.in-Ok.ensures.cause) c.in-Ok.ensures.cause.same_pick c.in-Ok.ensures.any_moment refl settled)

pub returns-in-Err-Stopped-clause-broke : goal.returns-in-Err-Stopped-clause-broke
returns-in-Err-Stopped-clause-broke g c none =
    let old : Within = record { grants = c.self.inside.grants; disk = g.D.Disk.state c.self.inside.disk; core = c.self.inside.core; held = c.self.inside.held; notes = c.self.inside.notes } in
    let end = g.D.Disk.state c.open.new.disk in
    let new = halted_from old end c.left-self-inside.result in
    let said = c.in-Err-Stopped.ensures in
    let halted = is_halted (Err c.in-Err-Stopped.field-0) c.args.horizon (stop_of c.args.horizon old.disk.now.seen) old.disk end (ap Err c.in-Err-Stopped.field-0-is) (g.met.D.Disk.reads_now c.open.new.disk) said.any_moment said.stop said.cause in
    let live = ap (λ (w : Within). w.notes.is_spent) c.self.view_is ∙ c.requires.live in
    let off : is_some old.core ≡ false = ap (λ (w : Within). is_some w.core) c.self.view_is ∙ c.requires.down.0 in
    let settled : old.notes.is_settled ≡ true = ap (λ (w : Within). w.notes.is_settled) c.self.view_is ∙ c.requires.down.1 in
    let down = down_of old off (c.self.invariant.kept live) in
    subst (λ (w : Within). Broke w new) {x = old} c.self.view_is
    (opening_broke old new (record { calls = refl; reads = refl; live = live; grants = refl }) c.args.horizon (stop_of c.args.horizon old.disk.now.seen) (down.settled settled) halted off refl)

pub invariant_of-self-inside-in-Err-Stopped : goal.invariant_of-self-inside-in-Err-Stopped
invariant_of-self-inside-in-Err-Stopped g c =
    let old : Within = record { grants = c.self.inside.grants; disk = g.D.Disk.state c.self.inside.disk; core = c.self.inside.core; held = c.self.inside.held; notes = c.self.inside.notes } in
    let new = g.D.Disk.state c.open.new.disk in
    let said = c.in-Err-Stopped.ensures in
    let halted = is_halted (Err c.in-Err-Stopped.field-0) c.args.horizon (stop_of c.args.horizon old.disk.now.seen) old.disk new (ap Err c.in-Err-Stopped.field-0-is) (g.met.D.Disk.reads_now c.open.new.disk) said.any_moment said.stop said.cause in
    let off : is_some old.core ≡ false = ap (λ (w : Within). is_some w.core) c.self.view_is ∙ c.requires.down.0 in
    let settled : old.notes.is_settled ≡ true = ap (λ (w : Within). w.notes.is_settled) c.self.view_is ∙ c.requires.down.1 in
    (c.self.inside.spent, (λ live. still_fit old c.self.inside.indexes.items new.now.seen (c.self.invariant.kept live) (halts_on_base old new c.left-self-inside.result c.args.horizon (stop_of c.args.horizon old.disk.now.seen) c.raises_horizon.ensures off settled (c.self.invariant.kept live) halted) (c.self.inside.fitting live), tt))
