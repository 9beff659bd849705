use Rattle.std.proofs.Common.{false, Some, refl}
use Rattle.client_model.specs.declared.input.Input.TheVariants.{Waiting}
use Rattle.client_model.specs.declared.input.Wants.TheVariants as wants
use Rattle.client_model.specs.meaning.Talk.{waits_from}
use Rattle.world_model.specs.meaning.Acting.{steps}
use Rattle.world_core.specs.Coursing.{terms_in}
use Rattle.world_core.specs.Linked.{connection_at}
use Rattle.world_core.specs.Stepping.{connection_in}
use Rattle.world_core.proofs.steps.Placing.{may_hear, ticks_past, goes_by_step}
use Rattle.world_core.proofs.steps.Silence.{waits_release, waits_may, waits_going}
use Rattle.world_core.proofs.client.Client.wait.Goals as goal

pub act-requires-clause-wanted : goal.act-requires-clause-wanted
act-requires-clause-wanted g c = let s = c.requires in may_hear _ (λ rule. g.R.BoundRule.rules rule) c.args.script.now c.args.number wants.Slot false c.args.traffic.now c.args.self.now s.setting s.machine s.client s.doing Waiting s.placed refl

pub act-requires-clause-past : goal.act-requires-clause-past
act-requires-clause-past g c = let s = c.requires in ticks_past _ (λ rule. g.R.BoundRule.rules rule) c.args.script.now c.args.number wants.Slot false c.args.traffic.now c.args.self.now s.setting s.machine s.client s.doing s.placed

pub act-requires-clause-release : goal.act-requires-clause-release
act-requires-clause-release g c =
    waits_release (terms_in _ (λ rule. g.R.BoundRule.rules rule) c.args.self.now) c.args.self.now.driver.talk (waits_from c.args.self.now.driver.talk.phase c.args.traffic.now.tick) c.args.traffic.now.tick c.args.traffic.now.pool (connection_in c.args.self.now.course)

pub act-requires-clause-may : goal.act-requires-clause-may
act-requires-clause-may g c =
    waits_may (terms_in _ (λ rule. g.R.BoundRule.rules rule) c.args.self.now) c.args.self.now.driver.talk (waits_from c.args.self.now.driver.talk.phase c.args.traffic.now.tick) c.args.traffic.now.tick c.args.traffic.now.pool (connection_in c.args.self.now.course)
    (connection_at c.args.traffic.now.connections.all.items (connection_in c.args.self.now.course))

pub returns : goal.returns
returns g c = λ setting m client doing at.
    goes_by_step _ (λ rule. g.R.BoundRule.rules rule) setting c.args.number m m client doing false Waiting c.in_ok-act.field-0 (Some (steps setting m c.args.number doing false Waiting)) c.act.new.traffic c.act.new.self
    (record { clients = refl; event = refl; tick = refl; server = refl }) at.there refl refl
    (waits_going setting.terms doing.talk (waits_from doing.talk.phase m.tick) m.tick)
    (c.in_ok-act.ensures setting m false (record client { now = Some doing }) doing at.scripted refl at.underway at.stands)
