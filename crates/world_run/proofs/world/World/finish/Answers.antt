use Rattle.std.proofs.Common.{sym, ap, ◌∙◌, arith}
use Rattle.std.specs.Prelude.{option_map}
use Rattle.world_core.proofs.Offered.{one_base_kept, one_base_on}
use Rattle.world_run.specs.Places.{place_of, led_to}
use Rattle.world_run.proofs.Ending.{comes_first, comes_further, comes_to_end, somewhere, few_steps, few_notes, each_scripted}
use Rattle.world_run.proofs.world.World.finish.Goals as goal

pub loop-init : goal.loop-init
loop-init g c = (comes_first _ _ g.S.Service.sees (λ rule. g.R.BoundRule.rules rule) c.args.scripts.now c.finish_goes_on.ensures.start c.args.self.now c.requires.events, one_base_kept (g.S.Service.bytes c.args.self.now.service))

pub next_event-requires : goal.next_event-requires
next_event-requires g c = each_scripted _ _ g.S.Service.sees (λ rule. g.R.BoundRule.rules rule) c.args.scripts.now (place_of c.loop.place) c.loop.counter c.args.self.now c.loop.self c.loop.invariant.0 c.requires.short

pub returns-in_default-clause-finishes : goal.returns-in_default-clause-finishes
returns-in_default-clause-finishes g c = comes_to_end _ _ g.S.Service.sees (λ rule. g.R.BoundRule.rules rule) c.args.scripts.now (place_of c.loop.place) c.loop.counter c.args.self.now c.loop.self c.loop.invariant.0 (λ seen t is. sym (ap (option_map led_to) c.in_default.is) ∙ c.next_event.ensures.next seen t is)

pub step-requires-clause-events : goal.step-requires-clause-events
step-requires-clause-events g c = few_notes _ _ g.S.Service.sees (λ rule. g.R.BoundRule.rules rule) c.args.scripts.now (place_of c.loop.place) c.loop.counter c.args.self.now c.loop.self c.loop.invariant.0 c.requires.short

pub step-requires-clause-there : goal.step-requires-clause-there
step-requires-clause-there g c = somewhere _ _ g.S.Service.sees (λ rule. g.R.BoundRule.rules rule) c.args.scripts.now (place_of c.loop.place) c.loop.counter c.args.self.now c.loop.self c.loop.invariant.0 c.requires.short

pub loop-preserved : goal.loop-preserved
loop-preserved g c =
    let there = somewhere _ _ g.S.Service.sees (λ rule. g.R.BoundRule.rules rule) c.args.scripts.now (place_of c.loop.place) c.loop.counter c.args.self.now c.loop.self c.loop.invariant.0 c.requires.short in (
      comes_further _ _ g.S.Service.sees (λ rule. g.R.BoundRule.rules rule) c.args.scripts.now (place_of c.loop.place) c.loop.counter c.args.self.now c.loop.self c.loop.invariant.0 c.finish_falls.ensures c.finish_goes_on.ensures.event c.in-Some.event (place_of c.in-Some.next) c.step.new.self (λ seen t is. sym (ap (option_map led_to) c.in-Some.is) ∙ c.next_event.ensures.next seen t is) c.in_ok-step.ensures.made,
      one_base_on _ _ _ _ (g.met.S.Service.honest c.loop.self.service there.seen there.stands.beside.place.seen_so).pictures c.loop.invariant.1 c.in_ok-step.ensures.base,
    )

pub unreachable-requires : goal.unreachable-requires
unreachable-requires g c =
    let few = few_steps _ _ g.S.Service.sees (λ rule. g.R.BoundRule.rules rule) c.args.scripts.now (place_of c.loop.place) c.loop.counter c.args.self.now c.loop.self c.loop.invariant.0 c.requires.short in
    omega (arith, few, c.loop-test.false)
