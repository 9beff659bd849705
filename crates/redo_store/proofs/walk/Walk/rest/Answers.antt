use Rattle.std.proofs.Common.{◌++◌, ℕ, map, Vec, Global, sym, ◌∙◌, ap, subst, rules}
use Rattle.disk_model.specs.Moment.{DiskMoment}
use Rattle.redo_store.specs.meaning.Records.{records_of}
use Rattle.redo_store.specs.Walk.{HasRead}
use Rattle.redo_store.proofs.walk.Walk.rest.Goals as goal

pub returns-in_err-payload-clause-damaged : goal.returns-in_err-payload-clause-damaged
returns-in_err-payload-clause-damaged g c at is done read =
    let walk = c.loop-payloads.self in
    let same = c.loop-payloads.invariant.only_reads.same.now in
    let over = done ++ map (λ (v : Vec ℕ Global). v.items) c.loop-payloads.payloads.items in
    let here : HasRead walk over (g.D.Disk.state c.loop-payloads.disk).now.seen = subst (λ (m : DiskMoment). HasRead walk over m.seen) (sym same) (c.loop-payloads.invariant.read done read) in
    ap (λ (m : DiskMoment). records_of m.seen) (sym same) ∙ (c.in_err-payload.ensures.damage at (search rules) over here).0
