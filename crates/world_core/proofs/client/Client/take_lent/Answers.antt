use Rattle.std.proofs.Common.{◌≡◌, ◌++◌, false, true, Some, refl, ◌∙◌}
use Rattle.pool_core.specs.meaning.Slots.{give_back_answer}
use Rattle.client_model.specs.declared.input.Input.TheVariants.{Lent}
use Rattle.client_model.specs.declared.input.Wants.TheVariants as wants
use Rattle.outage_schedule.specs.declared.note.GoNote.TheVariants as go
use Rattle.world_model.specs.meaning.Acting.{closing}
use Rattle.world_model.specs.meaning.Clients.{Doing}
use Rattle.world_model.specs.meaning.Going.{lends}
use Rattle.world_core.specs.Coursing.{step_of}
use Rattle.world_core.specs.Stepping.{connection_in}
use Rattle.world_core.proofs.steps.Placing.{may_hear, ticks_past, his_release, his_may, joined, goes_by_step}
use Rattle.world_core.proofs.steps.Silence.{lent_going}
use Rattle.world_core.proofs.steps.Steps.{none_held, lent_so}
use Rattle.world_core.proofs.client.Client.take_lent.Goals as goal

pub unreachable-requires : goal.unreachable-requires
unreachable-requires g c =
    let o = c.requires in none_held o.link.held o.ltxid (c.in_default.ensures o.some.machine o.link o.offered.his.found o.some.placed.underway).0 o.offered.has

pub act-requires-clause-wanted : goal.act-requires-clause-wanted
act-requires-clause-wanted g c =
    let o = c.requires in
    let s = o.some in
    let at = joined _ (λ rule. g.R.BoundRule.rules rule) c.args.script.now c.args.number wants.Slot false c.args.traffic.now c.args.self.now c.connect.new.self s.setting s.machine s.client s.doing (Some c.args.connection) c.connect.ensures s.placed in
    may_hear _ (λ rule. g.R.BoundRule.rules rule) c.args.script.now c.args.number wants.Slot false c.args.traffic.now c.connect.new.self s.setting s.machine s.client (record s.doing { connection = Some c.args.connection }) (Lent c.args.connection c.in-Some.ltxid) at refl

pub act-requires-clause-past : goal.act-requires-clause-past
act-requires-clause-past g c =
    let o = c.requires in
    let s = o.some in
    let at = joined _ (λ rule. g.R.BoundRule.rules rule) c.args.script.now c.args.number wants.Slot false c.args.traffic.now c.args.self.now c.connect.new.self s.setting s.machine s.client s.doing (Some c.args.connection) c.connect.ensures s.placed in
    ticks_past _ (λ rule. g.R.BoundRule.rules rule) c.args.script.now c.args.number wants.Slot false c.args.traffic.now c.connect.new.self s.setting s.machine s.client (record s.doing { connection = Some c.args.connection }) at

pub act-requires-clause-ltxids : goal.act-requires-clause-ltxids
act-requires-clause-ltxids g c = let o = c.requires in (c.in-Some.ensures o.some.machine o.link o.offered.his.found o.some.placed.underway).1

pub act-requires-clause-release : goal.act-requires-clause-release
act-requires-clause-release g c =
    let o = c.requires in
    let s = o.some in
    let at = joined _ (λ rule. g.R.BoundRule.rules rule) c.args.script.now c.args.number wants.Slot false c.args.traffic.now c.args.self.now c.connect.new.self s.setting s.machine s.client s.doing (Some c.args.connection) c.connect.ensures s.placed in
    his_release _ (λ rule. g.R.BoundRule.rules rule) c.args.script.now c.args.number wants.Slot false c.args.traffic.now c.connect.new.self s.setting s.machine s.client (record s.doing { connection = Some c.args.connection }) c.args.connection o.link (step_of _ (λ rule. g.R.BoundRule.rules rule) c.connect.new.self (Lent c.args.connection c.in-Some.ltxid) c.args.traffic.now.tick).1.hold at refl o.offered.his

pub act-requires-clause-may : goal.act-requires-clause-may
act-requires-clause-may g c =
    let o = c.requires in
    let s = o.some in
    let at = joined _ (λ rule. g.R.BoundRule.rules rule) c.args.script.now c.args.number wants.Slot false c.args.traffic.now c.args.self.now c.connect.new.self s.setting s.machine s.client s.doing (Some c.args.connection) c.connect.ensures s.placed in
    his_may _ (λ rule. g.R.BoundRule.rules rule) c.args.script.now c.args.number wants.Slot false c.args.traffic.now c.connect.new.self s.setting s.machine s.client (record s.doing { connection = Some c.args.connection }) c.args.connection o.link ((step_of _ (λ rule. g.R.BoundRule.rules rule) c.connect.new.self (Lent c.args.connection c.in-Some.ltxid) c.args.traffic.now.tick).1.send ++ closing (step_of _ (λ rule. g.R.BoundRule.rules rule) c.connect.new.self (Lent c.args.connection c.in-Some.ltxid) c.args.traffic.now.tick).1.hold (give_back_answer c.args.traffic.now.pool (connection_in c.connect.new.self.course))) at refl o.offered.his o.offered.is_open

pub returns : goal.returns
returns g c = λ setting m client doing link ltxid at offered.
    let then : Doing = record doing { connection = Some c.args.connection } in
    let there = joined _ (λ rule. g.R.BoundRule.rules rule) c.args.script.now c.args.number wants.Slot false c.args.traffic.now c.args.self.now c.connect.new.self setting m client doing (Some c.args.connection) c.connect.ensures at in
    let told : Some c.in-Some.ltxid ≡ Some ltxid = (c.in-Some.ensures m link offered.his.found at.underway).0 ∙ offered.has in
    goes_by_step _ (λ rule. g.R.BoundRule.rules rule) setting c.args.number m m client then true (Lent c.args.connection c.in-Some.ltxid) c.in_ok-act.field-0 (lends setting m c.args.number (go.Lent c.args.connection) doing c.args.connection (Some ltxid)) c.act.new.traffic c.act.new.self
    (record { clients = refl; event = refl; tick = refl; server = refl }) at.there refl (lent_so setting m c.args.number doing c.args.connection c.in-Some.ltxid ltxid told)
    (lent_going setting.terms doing.talk c.in-Some.ltxid m.tick)
    (c.in_ok-act.ensures setting m false (record client { now = Some then }) then at.scripted refl there.underway there.stands)
