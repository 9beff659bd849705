use Rattle.std.proofs.Common.{true, false, Some, None, refl}
use Rattle.world_core.specs.Stepping.{at_next}
use Rattle.world_core.proofs.steps.Looking.{none_awaits, none_goes, some_awaits, some_ltxids, some_goes}
use Rattle.world_core.proofs.Standing.{if_ok}
use Rattle.world_core.proofs.client.Client.look.Goals as goal

pub find_none-requires : goal.find_none-requires
find_none-requires g c = none_awaits _ (λ rule. g.R.BoundRule.rules rule) c.args.script.now c.args.number c.args.traffic.now c.take.new.self c.args.self.now c.connection-connection.result c.ended-ended.result c.in_ok-got.got c.connection-connection.ensures c.ended-ended.ensures c.in_ok-got.ensures c.requires.traced c.requires.client c.requires.doing c.requires.turn c.in_default.is

pub hear_open-requires-clause-awaits : goal.hear_open-requires-clause-awaits
hear_open-requires-clause-awaits g c = some_awaits _ (λ rule. g.R.BoundRule.rules rule) c.args.script.now c.args.number c.args.traffic.now c.take.new.self c.args.self.now c.connection-connection.result c.ended-ended.result c.in_ok-got.got c.connection-connection.ensures c.ended-ended.ensures c.in_ok-got.ensures c.requires.traced c.requires.client c.requires.doing c.requires.turn c.in-Some.frame c.in-Some.is None c.in-None.is

pub hear_open-requires-clause-ltxids : goal.hear_open-requires-clause-ltxids
hear_open-requires-clause-ltxids g c = some_ltxids _ (λ rule. g.R.BoundRule.rules rule) c.args.script.now c.args.number c.args.traffic.now c.take.new.self c.args.self.now c.connection-connection.result c.ended-ended.result c.in_ok-got.got c.connection-connection.ensures c.ended-ended.ensures c.in_ok-got.ensures c.requires.traced c.requires.client c.requires.doing c.requires.turn c.in-Some.frame c.in-Some.is true

pub hear_ended-requires-clause-awaits : goal.hear_ended-requires-clause-awaits
hear_ended-requires-clause-awaits g c = some_awaits _ (λ rule. g.R.BoundRule.rules rule) c.args.script.now c.args.number c.args.traffic.now c.take.new.self c.args.self.now c.connection-connection.result c.ended-ended.result c.in_ok-got.got c.connection-connection.ensures c.ended-ended.ensures c.in_ok-got.ensures c.requires.traced c.requires.client c.requires.doing c.requires.turn c.in-Some.frame c.in-Some.is (Some c.in-Some-ended.event) c.in-Some-ended.is

pub hear_ended-requires-clause-ltxids : goal.hear_ended-requires-clause-ltxids
hear_ended-requires-clause-ltxids g c = some_ltxids _ (λ rule. g.R.BoundRule.rules rule) c.args.script.now c.args.number c.args.traffic.now c.take.new.self c.args.self.now c.connection-connection.result c.ended-ended.result c.in_ok-got.got c.connection-connection.ensures c.ended-ended.ensures c.in_ok-got.ensures c.requires.traced c.requires.client c.requires.doing c.requires.turn c.in-Some.frame c.in-Some.is false

pub returns-in_default : goal.returns-in_default
returns-in_default g c = if_ok c.find_none.result (λ note finds t client doing turn. none_goes _ (λ rule. g.R.BoundRule.rules rule) c.args.script.now c.args.number c.args.traffic.now c.take.new.self c.args.self.now c.connection-connection.result c.ended-ended.result c.in_ok-got.got c.connection-connection.ensures c.ended-ended.ensures c.in_ok-got.ensures t client doing turn note c.find_none.new.traffic c.find_none.new.self c.in_default.is finds) c.find_none.ensures

pub returns-in-None : goal.returns-in-None
returns-in-None g c = if_ok c.hear_open.result (λ note hears t client doing turn. some_goes _ (λ rule. g.R.BoundRule.rules rule) c.args.script.now c.args.number c.args.traffic.now c.take.new.self c.args.self.now c.connection-connection.result c.ended-ended.result c.in_ok-got.got c.connection-connection.ensures c.ended-ended.ensures c.in_ok-got.ensures t client doing turn c.in-Some.frame c.in-Some.is true None note c.hear_open.new.traffic c.hear_open.new.self c.in-None.is refl hears) c.hear_open.ensures

pub returns-in-Some-ended : goal.returns-in-Some-ended
returns-in-Some-ended g c = if_ok c.hear_ended.result (λ note hears t client doing turn. some_goes _ (λ rule. g.R.BoundRule.rules rule) c.args.script.now c.args.number c.args.traffic.now c.take.new.self c.args.self.now c.connection-connection.result c.ended-ended.result c.in_ok-got.got c.connection-connection.ensures c.ended-ended.ensures c.in_ok-got.ensures t client doing turn c.in-Some.frame c.in-Some.is false (Some c.in-Some-ended.event) note c.hear_ended.new.traffic c.hear_ended.new.self c.in-Some-ended.is refl hears) c.hear_ended.ensures

pub take-requires : goal.take-requires
take-requires g c = (at_next c.requires.traced, c.requires.turn.placed.underway)
