use Rattle.world_model.proofs.wire.KeptWire.{sent_law, replies_law, order_law, left_law}
use Rattle.world_model.proofs.laws.frames_stay_in_order.Goals as goal

pub returns-clause-sent : goal.returns-clause-sent
returns-clause-sent c = sent_law

pub returns-clause-replies : goal.returns-clause-replies
returns-clause-replies c = replies_law

pub returns-clause-answered : goal.returns-clause-answered
returns-clause-answered c = order_law

pub returns-clause-left : goal.returns-clause-left
returns-clause-left c = left_law
