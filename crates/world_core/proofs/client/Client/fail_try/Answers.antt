use Rattle.std.proofs.Common.{◌<◌, false, true, Some, refl, subst}
use Rattle.pool_core.specs.meaning.Slots.{Slots}
use Rattle.client_model.specs.declared.input.Input.TheVariants.{TryFailed}
use Rattle.world_model.specs.meaning.Acting.{steps}
use Rattle.world_core.specs.Coursing.{terms_in}
use Rattle.world_core.specs.Linked.{connection_at}
use Rattle.world_core.specs.Stepping.{connection_in}
use Rattle.world_core.proofs.steps.Placing.{may_hear, ticks_past, goes_by_step}
use Rattle.world_core.proofs.steps.Silence.{tried_release, tried_may, tried_going}
use Rattle.world_core.proofs.steps.Steps.{failed_wanted}
use Rattle.world_core.proofs.client.Client.fail_try.Goals as goal

pub act-requires-clause-wanted : goal.act-requires-clause-wanted
act-requires-clause-wanted g c = let t = c.requires in let s = t.some in may_hear _ (λ rule. g.R.BoundRule.rules rule) c.args.script.now c.args.number t.wanted false c.args.traffic.now c.args.self.now s.setting s.machine s.client s.doing TryFailed s.placed (failed_wanted t.wanted t.tries)

pub act-requires-clause-past : goal.act-requires-clause-past
act-requires-clause-past g c = let t = c.requires in let s = t.some in ticks_past _ (λ rule. g.R.BoundRule.rules rule) c.args.script.now c.args.number t.wanted false c.args.traffic.now c.args.self.now s.setting s.machine s.client s.doing s.placed

pub act-requires-clause-release : goal.act-requires-clause-release
act-requires-clause-release g c =
    let t = c.requires in
    tried_release (terms_in _ (λ rule. g.R.BoundRule.rules rule) c.args.self.now) c.args.self.now.driver.talk c.args.traffic.now.tick c.args.traffic.now.pool (connection_in c.args.self.now.course)
    (subst (λ (pool : Slots). 0 < pool.lent) t.some.placed.underway.pool t.lent)

pub act-requires-clause-may : goal.act-requires-clause-may
act-requires-clause-may g c =
    tried_may (terms_in _ (λ rule. g.R.BoundRule.rules rule) c.args.self.now) c.args.self.now.driver.talk c.args.traffic.now.tick c.args.traffic.now.pool (connection_in c.args.self.now.course)
    (connection_at c.args.traffic.now.connections.all.items (connection_in c.args.self.now.course))

pub returns : goal.returns
returns g c = λ wanted setting m client doing at.
    goes_by_step _ (λ rule. g.R.BoundRule.rules rule) setting c.args.number m m client doing true TryFailed c.in_ok-act.field-0 (Some (steps setting m c.args.number doing true TryFailed)) c.act.new.traffic c.act.new.self
    (record { clients = refl; event = refl; tick = refl; server = refl }) at.there refl refl
    (tried_going setting.terms doing.talk m.tick)
    (c.in_ok-act.ensures setting m false (record client { now = Some doing }) doing at.scripted refl at.underway at.stands)
