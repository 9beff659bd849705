use Rattle.world_model.proofs.basic.KeptTests.{items_law}
use Rattle.world_model.proofs.basic.KeptSessions.{one_item_law}
use Rattle.world_model.proofs.laws.items_stay_in_order.Goals as goal

pub returns-clause-rise : goal.returns-clause-rise
returns-clause-rise c = items_law

pub returns-clause-one_item : goal.returns-clause-one_item
returns-clause-one_item c = one_item_law
