use Rattle.world_model.proofs.hold.WholeHold.{hold_begins, hold_is_kept}
use Rattle.world_model.proofs.laws.hold_is_kept.Goals as goal

pub returns-clause-start : goal.returns-clause-start
returns-clause-start c = hold_begins

pub returns-clause-event : goal.returns-clause-event
returns-clause-event c = hold_is_kept
