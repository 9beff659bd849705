use Rattle.commit_log.proofs.KeepingJournals.{each_keeps}
use Rattle.commit_log.proofs.Fronts.{fronts_are_journals}
use Rattle.commit_log.proofs.laws.keeps_journal.Goals as goal

pub returns : goal.returns
returns c = record { keeps = each_keeps; fronts = fronts_are_journals }
