use Rattle.std.proofs.Common.{Bool, ap, subst, sym}
use Rattle.commit_log.specs.meaning.Journals.{journal_in}
use Rattle.service_core.specs.Keeping.{RestsBy}
use Rattle.service_core.proofs.GoingOn.{goes_on}
use Rattle.service_core.proofs.Renewing.{rests_whole}
use Rattle.service_core.proofs.opening.read_whole.Goals as goal

pub resting_of-requires-clause-journal : goal.resting_of-requires-clause-journal
resting_of-requires-clause-journal g c =
    goes_on (g.D.Disk.state c.args.disk.now).now.seen c.in-Ok.found.journal c.keeps_journal.ensures.keeps (ap journal_in c.in-Ok.ensures.found) (g.met.D.Disk.bounded c.args.disk.now)

pub returns-in_ok-resting_of-in-Ok-clause-rests : goal.returns-in_ok-resting_of-in-Ok-clause-rests
returns-in_ok-resting_of-in-Ok-clause-rests g c =
    let disk = g.D.Disk.state c.args.disk.now in
    let found = c.in-Ok.found in
    let resting = c.in_ok-resting_of-in-Ok.field-0 in
    subst (λ (b : Bool). RestsBy c.args.grants disk (record { core = resting.core; has_horizon = b })) (sym c.in_ok-resting_of-in-Ok.ensures.horizon)
    (rests_whole c.args.grants disk (g.D.Disk.state c.find.new.disk) found resting.core found.is_opened c.keeps_journal.ensures.keeps c.requires.settled c.in-Ok.ensures.found
    (c.in-Ok.ensures.ready c.requires.settled) c.in-Ok.ensures.only_reads.same.now c.in_ok-resting_of-in-Ok.ensures.core)
