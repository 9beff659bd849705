use Rattle.std.proofs.Common.{Bool, ap, refl, subst, sym}
use Rattle.commit_log.specs.meaning.Journals.{journal_in}
use Rattle.service_core.specs.Keeping.{RestsBy}
use Rattle.service_core.proofs.GoingOn.{goes_on}
use Rattle.service_core.proofs.Renewing.{rests_whole}
use Rattle.service_core.proofs.one.OneService.known.Goals as goal

pub resting_of-requires-clause-journal : goal.resting_of-requires-clause-journal
resting_of-requires-clause-journal g c =
    goes_on (g.D.Disk.state c.args.disk).now.seen c.args.found.journal c.keeps_journal.ensures.keeps (ap journal_in c.requires.found.so_far) (g.met.D.Disk.bounded c.args.disk)

pub resting_on-service-requires-clause-resting : goal.resting_on-service-requires-clause-resting
resting_on-service-requires-clause-resting g c =
    let disk = g.D.Disk.state c.args.disk in
    let resting = c.in_ok-resting.resting in
    subst (λ (b : Bool). RestsBy c.args.grants disk (record { core = resting.core; has_horizon = b })) (sym c.in_ok-resting.ensures.horizon)
    (rests_whole c.args.grants disk disk c.args.found resting.core c.args.found.is_opened c.keeps_journal.ensures.keeps c.requires.begins.settled c.requires.found.so_far c.requires.found.log refl c.in_ok-resting.ensures.core)
