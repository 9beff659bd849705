use Rattle.std.proofs.Common.{refl}
use Rattle.client_model.specs.declared.input.Wants.TheVariants as wants
use Rattle.world_model.specs.meaning.Going.{goes_by}
use Rattle.world_core.specs.Stepping.{at_next}
use Rattle.world_core.proofs.Standing.{if_ok}
use Rattle.world_core.proofs.steps.Wanting.{rests, goes_idle, turns, past_at, turn_as, some_turn, goes_so, never_none, some_trying, goes_try, goes_early}
use Rattle.world_core.proofs.client.Client.go.Goals as goal

pub begin-requires-clause-rests : goal.begin-requires-clause-rests
begin-requires-clause-rests g c = rests _ (λ rule. g.R.BoundRule.rules rule) c.args.script.now c.args.number c.args.traffic.now c.args.self.now c.args.self.now c.requires.some.traced c.requires.some.client c.requires.some.standing

pub returns-then-not-there : goal.returns-then-not-there
returns-then-not-there g c = λ t client standing up. goes_idle _ (λ rule. g.R.BoundRule.rules rule) c.args.script.now c.args.number c.args.traffic.now c.args.self.now c.begin.new.self t client standing c.in_ok-there.there c.if-not-there.true c.in_ok-there.ensures

pub wants-wanted-requires : goal.wants-wanted-requires
wants-wanted-requires g c = past_at _ (λ rule. g.R.BoundRule.rules rule) c.args.script.now c.args.number c.args.traffic.now c.args.self.now c.begin.new.self c.requires.some.traced c.requires.some.client c.requires.some.standing (turns _ (λ rule. g.R.BoundRule.rules rule) c.args.script.now c.args.number c.args.traffic.now c.args.self.now c.begin.new.self c.requires.some.traced c.requires.some.client c.requires.some.standing c.in_ok-there.there c.if-not-there.false c.in_ok-there.ensures)

pub ask_pool-requires : goal.ask_pool-requires
ask_pool-requires g c = some_turn _ (λ rule. g.R.BoundRule.rules rule) c.args.script.now c.args.number c.args.traffic.now c.args.self.now c.begin.new.self c.requires.some.traced c.requires.some.client c.requires.some.standing (turns _ (λ rule. g.R.BoundRule.rules rule) c.args.script.now c.args.number c.args.traffic.now c.args.self.now c.begin.new.self c.requires.some.traced c.requires.some.client c.requires.some.standing c.in_ok-there.there c.if-not-there.false c.in_ok-there.ensures) c.wants-wanted.result wants.Slot c.wants-wanted.ensures c.in-Slot.is

pub try_connection-requires : goal.try_connection-requires
try_connection-requires g c = some_trying _ (λ rule. g.R.BoundRule.rules rule) c.args.script.now c.args.number c.args.traffic.now c.args.self.now c.begin.new.self c.requires.some.traced c.requires.some.client c.requires.some.standing (turns _ (λ rule. g.R.BoundRule.rules rule) c.args.script.now c.args.number c.args.traffic.now c.args.self.now c.begin.new.self c.requires.some.traced c.requires.some.client c.requires.some.standing c.in_ok-there.there c.if-not-there.false c.in_ok-there.ensures) c.wants-wanted.result c.wants-wanted.ensures c.in-Try.is

pub look-requires : goal.look-requires
look-requires g c = some_turn _ (λ rule. g.R.BoundRule.rules rule) c.args.script.now c.args.number c.args.traffic.now c.args.self.now c.begin.new.self c.requires.some.traced c.requires.some.client c.requires.some.standing (turns _ (λ rule. g.R.BoundRule.rules rule) c.args.script.now c.args.number c.args.traffic.now c.args.self.now c.begin.new.self c.requires.some.traced c.requires.some.client c.requires.some.standing c.in_ok-there.there c.if-not-there.false c.in_ok-there.ensures) c.wants-wanted.result wants.Frame c.wants-wanted.ensures c.in-Frame.is

pub unreachable-requires : goal.unreachable-requires
unreachable-requires g c = (never_none _ (λ rule. g.R.BoundRule.rules rule) c.args.script.now c.args.number c.args.traffic.now c.args.self.now c.begin.new.self c.requires.some.traced c.requires.some.client c.requires.some.standing (turns _ (λ rule. g.R.BoundRule.rules rule) c.args.script.now c.args.number c.args.traffic.now c.args.self.now c.begin.new.self c.requires.some.traced c.requires.some.client c.requires.some.standing c.in_ok-there.there c.if-not-there.false c.in_ok-there.ensures) c.wants-wanted.result wants.Idle c.wants-wanted.ensures c.in-Idle.is).0 refl

pub unreachable-requires-in-Request : goal.unreachable-requires-in-Request
unreachable-requires-in-Request g c = (never_none _ (λ rule. g.R.BoundRule.rules rule) c.args.script.now c.args.number c.args.traffic.now c.args.self.now c.begin.new.self c.requires.some.traced c.requires.some.client c.requires.some.standing (turns _ (λ rule. g.R.BoundRule.rules rule) c.args.script.now c.args.number c.args.traffic.now c.args.self.now c.begin.new.self c.requires.some.traced c.requires.some.client c.requires.some.standing c.in_ok-there.there c.if-not-there.false c.in_ok-there.ensures) c.wants-wanted.result wants.Request c.wants-wanted.ensures c.in-Request.is).1 refl

pub returns-in-Slot : goal.returns-in-Slot
returns-in-Slot g c = if_ok c.ask_pool.result
    (λ note asks t client standing up.
    let mine = (turns _ (λ rule. g.R.BoundRule.rules rule) c.args.script.now c.args.number c.args.traffic.now c.args.self.now c.begin.new.self t client standing c.in_ok-there.there c.if-not-there.false c.in_ok-there.ensures) in
    goes_so _ (λ rule. g.R.BoundRule.rules rule) c.args.script.now c.args.number c.args.traffic.now c.args.self.now c.begin.new.self t client standing mine c.wants-wanted.result wants.Slot c.wants-wanted.ensures c.in-Slot.is note (goes_by t.setting (at_next t) c.args.number note mine.doing wants.Slot) c.ask_pool.new.traffic c.ask_pool.new.self refl
    (asks t client mine.doing (turn_as _ (λ rule. g.R.BoundRule.rules rule) c.args.script.now c.args.number c.args.traffic.now c.args.self.now c.begin.new.self t client standing mine c.wants-wanted.result wants.Slot c.wants-wanted.ensures c.in-Slot.is) up))
    c.ask_pool.ensures

pub returns-in-Try : goal.returns-in-Try
returns-in-Try g c = if_ok c.try_connection.result
    (λ note tries t client standing up.
    let mine = (turns _ (λ rule. g.R.BoundRule.rules rule) c.args.script.now c.args.number c.args.traffic.now c.args.self.now c.begin.new.self t client standing c.in_ok-there.there c.if-not-there.false c.in_ok-there.ensures) in
    goes_try _ (λ rule. g.R.BoundRule.rules rule) c.args.script.now c.args.number c.args.traffic.now c.args.self.now c.begin.new.self t client standing mine c.wants-wanted.result c.args.is_up note c.try_connection.new.traffic c.try_connection.new.self c.wants-wanted.ensures c.in-Try.is up
    (tries wants.Try t.setting (at_next t) client mine.doing (turn_as _ (λ rule. g.R.BoundRule.rules rule) c.args.script.now c.args.number c.args.traffic.now c.args.self.now c.begin.new.self t client standing mine c.wants-wanted.result wants.Try c.wants-wanted.ensures c.in-Try.is).placed))
    c.try_connection.ensures

pub returns-in-Early : goal.returns-in-Early
returns-in-Early g c = λ t client standing up. goes_early _ (λ rule. g.R.BoundRule.rules rule) c.args.script.now c.args.number c.args.traffic.now c.args.self.now c.begin.new.self t client standing (turns _ (λ rule. g.R.BoundRule.rules rule) c.args.script.now c.args.number c.args.traffic.now c.args.self.now c.begin.new.self t client standing c.in_ok-there.there c.if-not-there.false c.in_ok-there.ensures) c.wants-wanted.result c.wants-wanted.ensures c.in-Early.is

pub returns-in-Frame : goal.returns-in-Frame
returns-in-Frame g c = if_ok c.look.result
    (λ note looks t client standing up.
    let mine = (turns _ (λ rule. g.R.BoundRule.rules rule) c.args.script.now c.args.number c.args.traffic.now c.args.self.now c.begin.new.self t client standing c.in_ok-there.there c.if-not-there.false c.in_ok-there.ensures) in
    goes_so _ (λ rule. g.R.BoundRule.rules rule) c.args.script.now c.args.number c.args.traffic.now c.args.self.now c.begin.new.self t client standing mine c.wants-wanted.result wants.Frame c.wants-wanted.ensures c.in-Frame.is note (goes_by t.setting (at_next t) c.args.number note mine.doing wants.Frame) c.look.new.traffic c.look.new.self refl
    (looks t client mine.doing (turn_as _ (λ rule. g.R.BoundRule.rules rule) c.args.script.now c.args.number c.args.traffic.now c.args.self.now c.begin.new.self t client standing mine c.wants-wanted.result wants.Frame c.wants-wanted.ensures c.in-Frame.is)))
    c.look.ensures
