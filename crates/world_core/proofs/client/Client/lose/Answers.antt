use Rattle.std.proofs.Common.{true, Some, None, refl}
use Rattle.client_model.specs.declared.input.Input.TheVariants.{Gone}
use Rattle.client_model.specs.declared.input.Wants.TheVariants as wants
use Rattle.world_model.specs.meaning.Acting.{loses}
use Rattle.world_model.specs.meaning.Clients.{Doing}
use Rattle.world_core.specs.Linked.{connection_at}
use Rattle.world_core.specs.Stepping.{connection_in}
use Rattle.world_core.proofs.steps.Placing.{may_hear, ticks_past, may_nothing, joined, goes_by_step}
use Rattle.world_core.proofs.steps.Silence.{gone_going}
use Rattle.world_core.proofs.client.Client.lose.Goals as goal

pub act-requires-clause-wanted : goal.act-requires-clause-wanted
act-requires-clause-wanted g c =
    let l = c.requires in
    let s = l.some in
    let at = joined _ (λ rule. g.R.BoundRule.rules rule) c.args.script.now c.args.number wants.Frame l.is_lost c.args.traffic.now c.args.self.now c.connect.new.self s.setting s.machine s.client s.doing None c.connect.ensures s.placed in
    may_hear _ (λ rule. g.R.BoundRule.rules rule) c.args.script.now c.args.number wants.Frame l.is_lost c.args.traffic.now c.connect.new.self s.setting s.machine s.client (record s.doing { connection = None }) (Gone c.args.event) at refl

pub act-requires-clause-past : goal.act-requires-clause-past
act-requires-clause-past g c =
    let l = c.requires in
    let s = l.some in
    let at = joined _ (λ rule. g.R.BoundRule.rules rule) c.args.script.now c.args.number wants.Frame l.is_lost c.args.traffic.now c.args.self.now c.connect.new.self s.setting s.machine s.client s.doing None c.connect.ensures s.placed in
    ticks_past _ (λ rule. g.R.BoundRule.rules rule) c.args.script.now c.args.number wants.Frame l.is_lost c.args.traffic.now c.connect.new.self s.setting s.machine s.client (record s.doing { connection = None }) at

pub act-requires-clause-may : goal.act-requires-clause-may
act-requires-clause-may g c = may_nothing (connection_at c.args.traffic.now.connections.all.items (connection_in c.connect.new.self.course))

pub returns : goal.returns
returns g c = λ is_lost setting m client doing at.
    let then : Doing = record doing { connection = None } in
    let there = joined _ (λ rule. g.R.BoundRule.rules rule) c.args.script.now c.args.number wants.Frame is_lost c.args.traffic.now c.args.self.now c.connect.new.self setting m client doing None c.connect.ensures at in
    goes_by_step _ (λ rule. g.R.BoundRule.rules rule) setting c.args.number m m client then true (Gone c.args.event) c.in_ok-act.field-0 (Some (loses setting m c.args.number doing (Some c.args.event))) c.act.new.traffic c.act.new.self
    (record { clients = refl; event = refl; tick = refl; server = refl }) at.there refl refl
    (λ keeps. gone_going setting.terms doing.talk doing.talk.phase c.args.event m.tick at.wants)
    (c.in_ok-act.ensures setting m is_lost (record client { now = Some then }) then at.scripted refl there.underway there.stands)
