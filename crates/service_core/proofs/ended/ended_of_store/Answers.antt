use Rattle.service_core.proofs.ended.ended_of_store.Goals as goal

pub ended_of_journal-requires-clause-fitting : goal.ended_of_journal-requires-clause-fitting
ended_of_journal-requires-clause-fitting g c =
    (c.keeps_journal.ensures.keeps (g.D.Disk.state c.args.disk.now).now.seen c.in_ok-journal.journal c.in_ok-journal.ensures.journal).commits.fitting
