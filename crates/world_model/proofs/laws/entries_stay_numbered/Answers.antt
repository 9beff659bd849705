use Rattle.world_model.proofs.number.KeptEntries.{entries_law, unblocked_law}
use Rattle.world_model.proofs.laws.entries_stay_numbered.Goals as goal

pub returns : goal.returns
returns c = record { numbered = entries_law c.keeps_journal.ensures.keeps; unblocked = unblocked_law c.keeps_journal.ensures.keeps }
