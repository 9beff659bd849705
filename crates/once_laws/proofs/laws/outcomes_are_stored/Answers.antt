use Rattle.once_laws.proofs.calls.OutcomesStored.{outcomes_stored_law}
use Rattle.once_laws.proofs.laws.outcomes_are_stored.Goals as goal

pub returns : goal.returns
returns c = outcomes_stored_law c.orderly_is_kept.ensures c.blocks_stay_apart.ensures c.answers_are_right.ensures
