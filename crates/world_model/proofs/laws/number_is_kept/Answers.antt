use Rattle.world_model.proofs.number.WholeNumber.{number_begins, number_is_kept}
use Rattle.world_model.proofs.laws.number_is_kept.Goals as goal

pub returns : goal.returns
returns c = record { start = number_begins c.keeps_journal.ensures.keeps; event = number_is_kept c.keeps_journal.ensures.keeps c.runs_number.ensures.numbers }
