use Rattle.world_model.proofs.events.WholeOrderly.{orderly_is_kept as orderly_law}
use Rattle.world_model.proofs.laws.orderly_is_kept.Goals as goal

pub returns : goal.returns
returns c = orderly_law c.keeps_journal.ensures.keeps c.runs_number.ensures.numbers
