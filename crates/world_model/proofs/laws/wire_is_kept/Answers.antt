use Rattle.world_model.proofs.wire.KeptWire.{wire_begins, wire_is_kept}
use Rattle.world_model.proofs.laws.wire_is_kept.Goals as goal

pub returns-clause-start : goal.returns-clause-start
returns-clause-start c = wire_begins

pub returns-clause-event : goal.returns-clause-event
returns-clause-event c = wire_is_kept
