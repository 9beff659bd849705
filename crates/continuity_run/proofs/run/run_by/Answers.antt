use Rattle.std.proofs.Common.{arith, ◌≡◌, length}
use Rattle.world_core.proofs.Offered.{one_base_on}
use Rattle.continuity_run.proofs.Schedule.{base_if, room_of, fit_of, comes_first, comes_next, somewhere, few_notes, next_allowed, is_short, has_run_if}
use Rattle.continuity_run.proofs.run.run_by.Goals as goal

pub new-requires-clause-room : goal.new-requires-clause-room
new-requires-clause-room g c = room_of _ _ g.S.Service.sees (λ rule. g.R.BoundRule.rules rule) c.args.scripts.now (g.S.Service.sees c.args.service) (g.R.BoundRule.rules c.args.rule) c.args.of.now c.args.schedule.now c.args.opened c.requires.begins

pub loop-event-init : goal.loop-event-init
loop-event-init g c = (comes_first _ _ g.S.Service.sees (λ rule. g.R.BoundRule.rules rule) c.args.scripts.now (g.S.Service.sees c.args.service) (g.R.BoundRule.rules c.args.rule) c.args.of.now c.args.schedule.now c.args.opened c.in_ok-world.world c.in_ok-world.ensures.start, c.in_ok-world.ensures.base)

pub step-requires-clause-events : goal.step-requires-clause-events
step-requires-clause-events g c =
    let few = few_notes _ _ g.S.Service.sees (λ rule. g.R.BoundRule.rules rule) c.args.scripts.now (g.S.Service.sees c.args.service) (g.R.BoundRule.rules c.args.rule) c.args.of.now c.args.schedule.now c.args.opened c.requires.begins c.loop-event.event-index c.loop-event.world (let within = c.loop-event-test.true in omega (arith, within)) c.loop-event.invariant.0 in
    omega (arith, few)

pub step-requires-clause-there : goal.step-requires-clause-there
step-requires-clause-there g c = somewhere _ _ g.S.Service.sees (λ rule. g.R.BoundRule.rules rule) c.args.scripts.now (g.S.Service.sees c.args.service) (g.R.BoundRule.rules c.args.rule) c.args.of.now c.args.schedule.now c.args.opened _ c.loop-event.world c.loop-event.invariant.0 c.requires.begins

pub step-requires-clause-fit : goal.step-requires-clause-fit
step-requires-clause-fit g c = fit_of _ _ g.S.Service.sees (λ rule. g.R.BoundRule.rules rule) c.args.scripts.now (g.S.Service.sees c.args.service) (g.R.BoundRule.rules c.args.rule) c.args.of.now c.args.schedule.now c.args.opened c.requires.begins

pub step-requires-clause-allowed : goal.step-requires-clause-allowed
step-requires-clause-allowed g c = next_allowed _ _ g.S.Service.sees (λ rule. g.R.BoundRule.rules rule) c.args.scripts.now (g.S.Service.sees c.args.service) (g.R.BoundRule.rules c.args.rule) c.args.of.now c.args.schedule.now c.args.opened c.requires.begins c.loop-event.event-index c.event-item.result c.loop-event-test.true c.event-item.is

pub loop-event-preserved : goal.loop-event-preserved
loop-event-preserved g c =
    let there = somewhere _ _ g.S.Service.sees (λ rule. g.R.BoundRule.rules rule) c.args.scripts.now (g.S.Service.sees c.args.service) (g.R.BoundRule.rules c.args.rule) c.args.of.now c.args.schedule.now c.args.opened _ c.loop-event.world c.loop-event.invariant.0 c.requires.begins in (
      comes_next _ _ g.S.Service.sees (λ rule. g.R.BoundRule.rules rule) c.args.scripts.now (g.S.Service.sees c.args.service) (g.R.BoundRule.rules c.args.rule) c.args.of.now c.args.schedule.now c.args.opened c.loop-event.event-index c.event-item.result c.loop-event.world c.step.new.self c.loop-event-test.true c.event-item.is c.loop-event.invariant.0 c.in_ok-step.ensures.made,
      one_base_on _ _ _ _ (g.met.S.Service.honest c.loop-event.world.service there.seen there.stands.beside.place.seen_so).pictures c.loop-event.invariant.1 c.in_ok-step.ensures.base,
    )

pub finish-requires-clause-fit : goal.finish-requires-clause-fit
finish-requires-clause-fit g c = fit_of _ _ g.S.Service.sees (λ rule. g.R.BoundRule.rules rule) c.args.scripts.now (g.S.Service.sees c.args.service) (g.R.BoundRule.rules c.args.rule) c.args.of.now c.args.schedule.now c.args.opened c.requires.begins

pub finish-requires-clause-events : goal.finish-requires-clause-events
finish-requires-clause-events g c = few_notes _ _ g.S.Service.sees (λ rule. g.R.BoundRule.rules rule) c.args.scripts.now (g.S.Service.sees c.args.service) (g.R.BoundRule.rules c.args.rule) c.args.of.now c.args.schedule.now c.args.opened c.requires.begins c.loop-event.event-index c.loop-event.world c.loop-event.auto.event-index-end c.loop-event.invariant.0

pub finish-requires-clause-short : goal.finish-requires-clause-short
finish-requires-clause-short g c =
    let all : c.loop-event.event-index ≡ length c.args.schedule.now = omega (arith, c.loop-event-test.false, c.loop-event.auto.event-index-end) in
    is_short _ _ g.S.Service.sees (λ rule. g.R.BoundRule.rules rule) c.args.scripts.now (g.S.Service.sees c.args.service) (g.R.BoundRule.rules c.args.rule) c.args.of.now c.args.schedule.now c.args.opened c.loop-event.event-index c.loop-event.world all c.loop-event.invariant.0 c.finish_is_short.ensures c.requires.begins

pub returns-clause-ran : goal.returns-clause-ran
returns-clause-ran g c =
    let all : c.loop-event.event-index ≡ length c.args.schedule.now = omega (arith, c.loop-event-test.false, c.loop-event.auto.event-index-end) in
    has_run_if _ _ g.S.Service.sees (λ rule. g.R.BoundRule.rules rule) c.args.scripts.now (g.S.Service.sees c.args.service) (g.R.BoundRule.rules c.args.rule) c.args.of.now c.args.schedule.now c.args.opened c.loop-event.event-index c.loop-event.world all c.loop-event.invariant.0 c.finish.new.self c.into_ran.result c.in_ok-finish.ensures.finishes c.into_ran.ensures

pub returns-clause-base : goal.returns-clause-base
returns-clause-base g c =
    let there = somewhere _ _ g.S.Service.sees (λ rule. g.R.BoundRule.rules rule) c.args.scripts.now (g.S.Service.sees c.args.service) (g.R.BoundRule.rules c.args.rule) c.args.of.now c.args.schedule.now c.args.opened _ c.loop-event.world c.loop-event.invariant.0 c.requires.begins in
    base_if g.S.Service.bytes c.args.service c.finish.new.self.service _ c.into_ran.result
    (one_base_on _ _ _ _ (g.met.S.Service.honest c.loop-event.world.service there.seen there.stands.beside.place.seen_so).pictures c.loop-event.invariant.1 c.in_ok-finish.ensures.base) c.into_ran.ensures
