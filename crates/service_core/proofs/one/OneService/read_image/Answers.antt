use Rattle.std.proofs.Common.{◌≡◌, ◌∙◌, ◌<◌, ◌^◌, sym, ap, subst}
use Rattle.std.specs.Prelude.{Err}
use Rattle.server_model.specs.declared.fault.ServeFault.{ServeFault}
use Rattle.server_model.specs.declared.fault.ServeFault.TheVariants as fault
use Rattle.server_model.specs.ServiceCalls.{Looked, StoppedLook}
use Rattle.service_calls.specs.Kept.{Goes}
use Rattle.service_core.specs.Held.{Held}
use Rattle.service_core.specs.Seeing.{SeesIn, called}
use Rattle.service_core.specs.Sound.{IsDown}
use Rattle.service_core.specs.Within.{Within}
use Rattle.service_core.proofs.Rested.{still_rests}
use Rattle.service_core.proofs.Read.{answered_same, looked_from, looks, looks_soundly, is_lost, lost_from, loses_soundly, loses}
use Rattle.service_core.proofs.Faulty.{none_counted}
use Rattle.service_core.proofs.one.OneService.read_image.Goals as goal

pub invariant_of-self : goal.invariant_of-self
invariant_of-self g c = record {
  kept = λ live.
      let old : Within = record { grants = c.self.inside.grants; disk = g.D.Disk.state c.self.inside.disk; core = c.self.inside.core; held = c.self.inside.held; notes = c.self.inside.notes } in
      let new = g.D.Disk.state c.bytes_of.new.disk in
      looks_soundly old new (answered_same c.in-Ok.image _ old.disk new c.in-Ok.ensures.only_reads) (c.self.invariant.kept live);
  at_rest = λ live down. still_rests c.self.inside.grants (g.D.Disk.state c.self.inside.disk) (g.D.Disk.state c.bytes_of.new.disk) c.self.inside.resting (c.in-Ok.ensures.only_reads.same.now) (c.self.invariant.at_rest live down);
}

pub returns-in-Ok-clause-looked : goal.returns-in-Ok-clause-looked
returns-in-Ok-clause-looked g c =
    let old : Within = record { grants = c.self.inside.grants; disk = g.D.Disk.state c.self.inside.disk; core = c.self.inside.core; held = c.self.inside.held; notes = c.self.inside.notes } in
    let new = g.D.Disk.state c.bytes_of.new.disk in
    let live = ap (λ (w : Within). w.notes.is_spent) c.self.view_is ∙ c.requires.live in
    subst (λ (w : Within). Goes (SeesIn w) (SeesIn (looked_from old new)) Looked) {x = old} c.self.view_is
    (looks old new (answered_same c.in-Ok.image _ old.disk new c.in-Ok.ensures.only_reads) live (c.self.invariant.kept live))

pub invariant_of-self-in-Err-Stopped : goal.invariant_of-self-in-Err-Stopped
invariant_of-self-in-Err-Stopped g c = record {
  kept = λ live.
      let old : Within = record { grants = c.self.inside.grants; disk = g.D.Disk.state c.self.inside.disk; core = c.self.inside.core; held = c.self.inside.held; notes = c.self.inside.notes } in
      let new = g.D.Disk.state c.bytes_of.new.disk in
      let lost = is_lost _ old.disk new (ap Err c.in-Err-Stopped.field-0-is) c.in-Err-Stopped.ensures.only_reads (g.met.D.Disk.reads_now c.bytes_of.new.disk) in
      subst (λ (h : Held). IsDown new h (called old.notes)) (sym c.clear.ensures) (loses_soundly old new (c.self.invariant.kept live) lost);
  at_rest = λ live down. tt;
}

pub returns-in-Err-Stopped-clause-looked : goal.returns-in-Err-Stopped-clause-looked
returns-in-Err-Stopped-clause-looked g c =
    let old : Within = record { grants = c.self.inside.grants; disk = g.D.Disk.state c.self.inside.disk; core = c.self.inside.core; held = c.self.inside.held; notes = c.self.inside.notes } in
    let new = g.D.Disk.state c.bytes_of.new.disk in
    let lost = is_lost _ old.disk new (ap Err c.in-Err-Stopped.field-0-is) c.in-Err-Stopped.ensures.only_reads (g.met.D.Disk.reads_now c.bytes_of.new.disk) in
    let live = ap (λ (w : Within). w.notes.is_spent) c.self.view_is ∙ c.requires.live in
    let few = subst (λ n. n < 2 ^ 48) (sym (ap (λ (w : Within). w.notes.calls) c.self.view_is)) c.requires.few in
    subst (λ (w : Within). Goes (SeesIn w) (SeesIn (record (lost_from old new) { held = c.clear.new.self })) StoppedLook) {x = old} c.self.view_is
    (subst (λ (h : Held). Goes (SeesIn old) (SeesIn (record (lost_from old new) { held = h })) StoppedLook) (sym c.clear.ensures) (loses old new live few (c.self.invariant.kept live) lost))

pub returns-in-Err-NoMemory-clause-uncounted : goal.returns-in-Err-NoMemory-clause-uncounted
returns-in-Err-NoMemory-clause-uncounted g c lacked =
    let old : Within = record { grants = c.self.inside.grants; disk = g.D.Disk.state c.self.inside.disk; core = c.self.inside.core; held = c.self.inside.held; notes = c.self.inside.notes } in
    let other = λ (same : ◌≡◌ {A = ServeFault} fault.NoMemory fault.Stopped). absurd (cc) in
    none_counted _ fault.NoMemory fault.Stopped old.disk (g.D.Disk.state c.bytes_of.new.disk) c.in-Err-NoMemory.field-0-is other c.in-Err-NoMemory.ensures.only_reads.cause ∙ ap (λ (w : Within). w.disk.faults) c.self.view_is
