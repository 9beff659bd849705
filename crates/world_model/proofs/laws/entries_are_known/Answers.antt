use Rattle.world_model.proofs.number.KnownSessions.{known_law}
use Rattle.world_model.proofs.laws.entries_are_known.Goals as goal

pub returns : goal.returns
returns c = known_law c.keeps_journal.ensures.keeps
