use Rattle.std.proofs.Common.{◌++◌, false, true, Some, length, refl}
use Rattle.pool_core.specs.meaning.Slots.{give_back_answer}
use Rattle.client_model.specs.declared.input.Input.TheVariants.{Took}
use Rattle.client_model.specs.declared.input.Wants.TheVariants as wants
use Rattle.outage_schedule.specs.declared.note.GoNote.TheVariants as go
use Rattle.world_model.specs.meaning.Acting.{closing, act_at, frames_of, steps}
use Rattle.world_model.specs.meaning.Going.{noted}
use Rattle.world_core.specs.Coursing.{step_of}
use Rattle.world_core.specs.Stepping.{connection_in}
use Rattle.world_core.proofs.steps.Placing.{may_hear, ticks_past, his_release, his_may, opens_as, goes_by_step}
use Rattle.world_core.proofs.steps.Silence.{took_going}
use Rattle.world_core.proofs.steps.Steps.{took_noted}
use Rattle.world_core.proofs.client.Client.hear_open.Goals as goal

pub act-requires-clause-wanted : goal.act-requires-clause-wanted
act-requires-clause-wanted g c = let s = c.requires.awaits.some in may_hear _ (λ rule. g.R.BoundRule.rules rule) c.args.script.now c.args.number wants.Frame false c.args.traffic.now c.args.self.now s.setting s.machine s.client s.doing (Took c.args.frame true) s.placed refl

pub act-requires-clause-past : goal.act-requires-clause-past
act-requires-clause-past g c = let s = c.requires.awaits.some in ticks_past _ (λ rule. g.R.BoundRule.rules rule) c.args.script.now c.args.number wants.Frame false c.args.traffic.now c.args.self.now s.setting s.machine s.client s.doing s.placed

pub act-requires-clause-release : goal.act-requires-clause-release
act-requires-clause-release g c =
    let a = c.requires.awaits in
    let s = a.some in
    his_release _ (λ rule. g.R.BoundRule.rules rule) c.args.script.now c.args.number wants.Frame false c.args.traffic.now c.args.self.now s.setting s.machine s.client s.doing c.args.connection a.link (step_of _ (λ rule. g.R.BoundRule.rules rule) c.args.self.now (Took c.args.frame true) c.args.traffic.now.tick).1.hold s.placed a.awaits.has a.awaits.his

pub act-requires-clause-may : goal.act-requires-clause-may
act-requires-clause-may g c =
    let a = c.requires.awaits in
    let s = a.some in
    his_may _ (λ rule. g.R.BoundRule.rules rule) c.args.script.now c.args.number wants.Frame false c.args.traffic.now c.args.self.now s.setting s.machine s.client s.doing c.args.connection a.link ((step_of _ (λ rule. g.R.BoundRule.rules rule) c.args.self.now (Took c.args.frame true) c.args.traffic.now.tick).1.send ++ closing (step_of _ (λ rule. g.R.BoundRule.rules rule) c.args.self.now (Took c.args.frame true) c.args.traffic.now.tick).1.hold (give_back_answer c.args.traffic.now.pool (connection_in c.args.self.now.course))) s.placed a.awaits.has a.awaits.his
    (opens_as _ (λ rule. g.R.BoundRule.rules rule) c.args.script.now c.args.number wants.Frame false c.args.traffic.now c.args.self.now s.setting s.machine s.client s.doing c.args.connection a.link s.placed a.awaits.his a.awaits.ends)

pub returns : goal.returns
returns g c = λ setting m client doing link at awaits.
    let acts = c.in_ok-sent.ensures setting m false (record client { now = Some doing }) doing at.scripted refl at.underway at.stands in
    goes_by_step _ (λ rule. g.R.BoundRule.rules rule) setting c.args.number m m client doing true (Took c.args.frame true) c.in_ok-sent.sent
    (noted (go.Took c.args.connection c.in_ok-sent.sent) (go.Took c.args.connection (length (frames_of m.pool c.args.connection (act_at setting m doing (Took c.args.frame true))))) (steps setting m c.args.number doing true (Took c.args.frame true))) c.act.new.traffic c.act.new.self
    (record { clients = refl; event = refl; tick = refl; server = refl }) at.there refl (took_noted setting m doing c.args.connection c.in_ok-sent.sent (Took c.args.frame true) (steps setting m c.args.number doing true (Took c.args.frame true)) awaits.has acts.sent)
    (took_going setting.terms doing.talk c.args.frame true m.tick at.wants) acts
