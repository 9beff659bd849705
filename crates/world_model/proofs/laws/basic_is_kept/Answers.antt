use Rattle.world_model.proofs.basic.KeptBasic.{basic_begins, basic_is_kept}
use Rattle.world_model.proofs.laws.basic_is_kept.Goals as goal

pub returns-clause-start : goal.returns-clause-start
returns-clause-start c = basic_begins

pub returns-clause-event : goal.returns-clause-event
returns-clause-event c = basic_is_kept
