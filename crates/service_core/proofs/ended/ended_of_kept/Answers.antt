use Rattle.std.proofs.Common.{subst}
use Rattle.disk_model.specs.Moment.{DiskMoment}
use Rattle.service_core.proofs.AtEnd.{IsRecordedOf, leaves}
use Rattle.service_core.proofs.ended.ended_of_kept.Goals as goal

pub returns-clause-told : goal.returns-clause-told
returns-clause-told g c =
    let recorded = c.in_ok-recorded.recorded in
    leaves (g.D.Disk.state c.args.disk.now).now.seen recorded c.in_ok-tables.tables c.in_ok-tables.ensures.tables
    (subst (λ (m : DiskMoment). IsRecordedOf m.seen recorded) c.in_ok-tables.ensures.only_reads.same.now c.in_ok-recorded.ensures.told)
