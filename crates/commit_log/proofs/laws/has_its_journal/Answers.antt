use Rattle.std.proofs.Common.{ap}
use Rattle.commit_log.specs.meaning.Journals.{journal_in}
use Rattle.commit_log.proofs.laws.has_its_journal.Goals as goal

pub returns : goal.returns
returns c log disk ready = (ap journal_in ready.so_far, ready.append.counted)
