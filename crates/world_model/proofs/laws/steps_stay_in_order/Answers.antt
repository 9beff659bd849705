use Rattle.world_model.proofs.basic.KeptSteps.{steps_law, ticks_law}
use Rattle.world_model.proofs.laws.steps_stay_in_order.Goals as goal

pub returns-clause-rise : goal.returns-clause-rise
returns-clause-rise c = steps_law

pub returns-clause-ticks : goal.returns-clause-ticks
returns-clause-ticks c = ticks_law
