use Rattle.run_laws.proofs.BlockedApart.{blocks_apart}
use Rattle.run_laws.proofs.stored_laws.blocks_stay_apart.Goals as goal

pub returns : goal.returns
returns c = blocks_apart c.keeps_journal.ensures.keeps c.runs_number.ensures.numbers c.runs_number.ensures.stand
