use Rattle.run_laws.proofs.BlocksTold.{blocks_answered_law, blocks_order_law}
use Rattle.run_laws.proofs.stored_laws.blocks_are_answered.Goals as goal

pub returns-clause-answered : goal.returns-clause-answered
returns-clause-answered c = blocks_answered_law

pub returns-clause-order : goal.returns-clause-order
returns-clause-order c = blocks_order_law
