use Rattle.world_model.proofs.finish.FinishUp.{finish_begins, finish_goes_on as goes_on_law}
use Rattle.world_model.proofs.laws.finish_goes_on.Goals as goal

pub returns : goal.returns
returns c = record { start = finish_begins; event = goes_on_law c.keeps_journal.ensures.keeps c.runs_number.ensures.numbers }
