use Rattle.std.proofs.Common.{◌≡◌, ◌∙◌, ap, subst, sym, Option}
use Rattle.std.specs.Prelude.{IfSome, Result, Err}
use Rattle.redo_store.specs.declared.fault.RedoFault.{RedoFault}
use Rattle.redo_store.specs.declared.fault.RedoFault.TheVariants as log_fault
use Rattle.server_model.specs.declared.fault.ServeFault.{ServeFault}
use Rattle.server_model.specs.declared.fault.ServeFault.TheVariants as fault
use Rattle.service_calls.specs.declared.ended.Ended.{Ended}
use Rattle.service_core.specs.declared.resting.Resting.{Resting}
use Rattle.service_core.specs.Keeping.{Rests}
use Rattle.service_core.specs.Within.{Within}
use Rattle.service_core.proofs.AtEnd.{reads_now, rests_now}
use Rattle.service_core.proofs.Faulty.{none_counted}
use Rattle.service_core.proofs.one.OneService.read_at_end.Goals as goal

pub ended_of-requires-clause-resting : goal.ended_of-requires-clause-resting
ended_of-requires-clause-resting g c =
    let old : Within = record { grants = c.self.inside.grants; disk = g.D.Disk.state c.self.inside.disk; core = c.self.inside.core; held = c.self.inside.held; notes = c.self.inside.notes } in
    let live = ap (λ (w : Within). w.notes.is_spent) c.self.view_is ∙ c.requires.live in
    subst (λ (o : Option Resting). IfSome o (Rests old.disk.now.seen)) (sym c.put_to_rest.ensures.rests) (rests_now old c.self.inside.resting c.self.invariant live (g.met.D.Disk.reads_now c.self.inside.disk))

pub ended_of-requires-clause-journal : goal.ended_of-requires-clause-journal
ended_of-requires-clause-journal g c =
    let old : Within = record { grants = c.self.inside.grants; disk = g.D.Disk.state c.self.inside.disk; core = c.self.inside.core; held = c.self.inside.held; notes = c.self.inside.notes } in
    let live = ap (λ (w : Within). w.notes.is_spent) c.self.view_is ∙ c.requires.live in
    reads_now old c.self.inside.resting c.self.invariant live (g.met.D.Disk.reads_now c.self.inside.disk)

pub returns-in-Err-NoMemory-clause-uncounted : goal.returns-in-Err-NoMemory-clause-uncounted
returns-in-Err-NoMemory-clause-uncounted g c lacked =
    let other = λ (same : ◌≡◌ {A = RedoFault} log_fault.NoMemory log_fault.Stopped). absurd (cc) in
    none_counted _ log_fault.NoMemory log_fault.Stopped (g.D.Disk.state c.self.inside.disk) (g.D.Disk.state c.ended_of.new.disk) c.in-Err-NoMemory.field-0-is other c.in-Err-NoMemory.ensures.only_reads.cause ∙ ap (λ (w : Within). w.disk.faults) c.self.view_is

pub returns-in-Err-Stopped-clause-uncounted : goal.returns-in-Err-Stopped-clause-uncounted
returns-in-Err-Stopped-clause-uncounted g c lacked = absurd (let clash : ◌≡◌ {A = Result Ended ServeFault} (Err fault.Stopped) (Err fault.NoMemory) = lacked in cc)

pub returns-in-Err-NoMemory-clause-cause : goal.returns-in-Err-NoMemory-clause-cause
returns-in-Err-NoMemory-clause-cause g c told = absurd (let clash : ◌≡◌ {A = Result Ended ServeFault} (Err fault.NoMemory) (Err fault.Stopped) = told in cc)
