use Rattle.world_core.proofs.steps.PoolAsks.{some_asked, goes_waiting, some_offered, goes_lent, some_opening, goes_opening}
use Rattle.client_model.specs.declared.input.Wants.TheVariants as wants
use Rattle.world_core.proofs.Standing.{if_ok}
use Rattle.world_core.proofs.client.Client.ask_pool.Goals as goal

pub wait-requires : goal.wait-requires
wait-requires g c = some_asked _ (λ rule. g.R.BoundRule.rules rule) c.args.script.now c.args.number c.args.traffic.now c.ask_pool.new.self c.args.self.now c.in_ok-take.take c.in_ok-take.ensures c.requires.traced c.requires.client c.requires.doing c.requires.turn

pub take_lent-requires : goal.take_lent-requires
take_lent-requires g c = some_offered _ (λ rule. g.R.BoundRule.rules rule) c.args.script.now c.args.number c.args.traffic.now c.ask_pool.new.self c.args.self.now c.in_ok-take.take c.in_ok-take.ensures c.requires.traced c.requires.client c.requires.doing c.requires.turn c.in-Lent.connection c.in-Lent.is

pub try_connection-requires : goal.try_connection-requires
try_connection-requires g c = some_opening _ (λ rule. g.R.BoundRule.rules rule) c.args.script.now c.args.number c.args.traffic.now c.ask_pool.new.self c.args.self.now c.in_ok-take.take c.in_ok-take.ensures c.requires.traced c.requires.client c.requires.doing c.requires.turn c.in-Open.is

pub returns-in-Waiting : goal.returns-in-Waiting
returns-in-Waiting g c = if_ok c.wait.result (λ note follows t client doing turn up. goes_waiting _ (λ rule. g.R.BoundRule.rules rule) c.args.script.now c.args.number c.args.traffic.now c.ask_pool.new.self c.args.self.now c.in_ok-take.take c.in_ok-take.ensures t client doing turn note c.wait.new.traffic c.wait.new.self c.in-Waiting.is follows) c.wait.ensures

pub returns-in-Lent : goal.returns-in-Lent
returns-in-Lent g c = if_ok c.take_lent.result (λ note takes t client doing turn up. goes_lent _ (λ rule. g.R.BoundRule.rules rule) c.args.script.now c.args.number c.args.traffic.now c.ask_pool.new.self c.args.self.now c.in_ok-take.take c.in_ok-take.ensures t client doing turn c.in-Lent.connection c.in-Lent.is note c.take_lent.new.traffic c.take_lent.new.self takes) c.take_lent.ensures

pub returns-in-Open : goal.returns-in-Open
returns-in-Open g c = if_ok c.try_connection.result (λ note follows t client doing turn up. goes_opening _ (λ rule. g.R.BoundRule.rules rule) c.args.script.now c.args.number c.args.traffic.now c.ask_pool.new.self c.args.self.now c.in_ok-take.take c.in_ok-take.ensures t client doing turn c.args.is_up note c.try_connection.new.traffic c.try_connection.new.self c.in-Open.is up (follows wants.Slot)) c.try_connection.ensures
