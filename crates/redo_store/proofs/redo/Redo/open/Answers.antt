use Rattle.std.proofs.Common.{◌≡◌, ℕ, List, [], map, Vec, Global, sym, ◌∙◌, ap, subst, Ok, Err, rules}
use Rattle.std.specs.Prelude.{Result, IsErrOf}
use Rattle.disk_model.specs.Moment.{DiskMoment, MayLeave}
use Rattle.disk_model.proofs.Offered.{reads_then, reads_for}
use Rattle.redo_store.specs.meaning.Records.{records_of}
use Rattle.redo_store.specs.Walk.{HasRead}
use Rattle.redo_store.specs.declared.fault.RedoFault.TheVariants.{Stopped}
use Rattle.redo_store.proofs.redo.Redo.open.Goals as goal

pub returns-in_err-records-clause-damaged : goal.returns-in_err-records-clause-damaged
returns-in_err-records-clause-damaged g c place is =
    let same = c.begin.ensures.only_reads.same.now in
    let read : HasRead c.in_ok-walk.walk [] (g.D.Disk.state c.begin.new.disk).now.seen = subst (λ (m : DiskMoment). HasRead c.in_ok-walk.walk [] m.seen) (sym same) c.in_ok-walk.ensures.begun in
    ap (λ (m : DiskMoment). records_of m.seen) (sym same) ∙ c.in_err-records.ensures.damaged place (search rules) [] read

no_fault : {T E : Type 0} (r : Result T E) (value : T) (fault : E) → r ≡ Ok value → IsErrOf r fault → ⊥
no_fault r value fault is failed = absurd (let no : ◌≡◌ {A = Result _ _} (Ok value) (Err fault) = sym is ∙ failed in cc)

pub returns-in_err-records-clause-only_reads : goal.returns-in_err-records-clause-only_reads
returns-in_err-records-clause-only_reads g c =
    let s = g.D.Disk.state c.args.disk.now in
    let t = g.D.Disk.state c.begin.new.disk in
    let u = g.D.Disk.state c.rest.new.disk in
    reads_then (IsErrOf c.begin.result Stopped) _ s t u (no_fault c.begin.result c.in_ok-walk.walk Stopped c.in_ok-walk.was) c.begin.ensures.only_reads
    (reads_for (IsErrOf c.rest.result Stopped) _ t u (λ e. search rules) (λ e. search rules) c.rest.ensures.only_reads)

pub returns-clause-ready : goal.returns-clause-ready
returns-clause-ready g c settled =
    let u = g.D.Disk.state c.rest.new.disk in
    let done = map (λ (v : Vec ℕ Global). v.items) c.in_ok-records.records.items in
    let before = c.begin.ensures.only_reads.same.now in
    let last = c.rest.ensures.only_reads.same.now in
    let read : HasRead c.in_ok-walk.walk [] (g.D.Disk.state c.begin.new.disk).now.seen = subst (λ (m : DiskMoment). HasRead c.in_ok-walk.walk [] m.seen) (sym before) c.in_ok-walk.ensures.begun in
    c.finish-redo.ensures.ready u done
    (subst (λ (m : DiskMoment). HasRead c.rest.new.self done m.seen) (sym last) (c.in_ok-records.ensures.read [] read))
    (ap (λ (m : DiskMoment). records_of m.seen) last ∙ c.in_ok-records.ensures.records [] read)
    (subst (λ (m : DiskMoment). (image : List ℕ) → MayLeave m image → image ≡ m.seen) (sym (last ∙ before)) settled)
