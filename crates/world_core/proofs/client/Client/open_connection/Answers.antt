use Rattle.std.proofs.Common.{◌∷◌, false, true, Some, [], refl}
use Rattle.svc_values.specs.declared.frame.Up.TheVariants as up
use Rattle.client_model.specs.declared.input.Input.TheVariants.{Opened}
use Rattle.world_model.specs.meaning.Clients.{Doing}
use Rattle.world_model.specs.meaning.Going.{tries_while}
use Rattle.world_model.specs.meaning.Machines.{Machine}
use Rattle.outage_schedule.specs.declared.note.GoNote.TheVariants as go
use Rattle.world_core.proofs.steps.Placing.{may_hear, ticks_past, opened_may, moved, joined, goes_by_step}
use Rattle.world_core.proofs.steps.Steps.{opened_wanted, opened_few, opening, tried_open}
use Rattle.world_core.proofs.client.Client.open_connection.Goals as goal

pub open-requires : goal.open-requires
open-requires g c = let t = c.requires in opened_few c.args.traffic.now t.some.machine t.some.placed.underway

pub act-requires-clause-wanted : goal.act-requires-clause-wanted
act-requires-clause-wanted g c =
    let t = c.requires in
    let s = t.some in
    let before : Machine = opening s.setting s.machine c.args.number s.doing c.in_ok-connection.connection in
    let opened = moved _ (λ rule. g.R.BoundRule.rules rule) c.args.script.now c.args.number t.wanted false c.args.traffic.now c.open.new.self c.args.self.now s.setting s.machine before s.client s.doing refl refl (c.in_ok-connection.ensures.opened s.machine s.placed.underway).1 s.placed in
    let at = joined _ (λ rule. g.R.BoundRule.rules rule) c.args.script.now c.args.number t.wanted false c.open.new.self c.args.self.now c.connect.new.self s.setting before s.client s.doing (Some c.in_ok-connection.connection) c.connect.ensures opened in
    may_hear _ (λ rule. g.R.BoundRule.rules rule) c.args.script.now c.args.number t.wanted false c.open.new.self c.connect.new.self s.setting before s.client (record s.doing { connection = Some c.in_ok-connection.connection }) (Opened c.in_ok-connection.connection) at (opened_wanted t.wanted c.in_ok-connection.connection t.tries)

pub act-requires-clause-past : goal.act-requires-clause-past
act-requires-clause-past g c =
    let t = c.requires in
    let s = t.some in
    let before : Machine = opening s.setting s.machine c.args.number s.doing c.in_ok-connection.connection in
    let opened = moved _ (λ rule. g.R.BoundRule.rules rule) c.args.script.now c.args.number t.wanted false c.args.traffic.now c.open.new.self c.args.self.now s.setting s.machine before s.client s.doing refl refl (c.in_ok-connection.ensures.opened s.machine s.placed.underway).1 s.placed in
    let at = joined _ (λ rule. g.R.BoundRule.rules rule) c.args.script.now c.args.number t.wanted false c.open.new.self c.args.self.now c.connect.new.self s.setting before s.client s.doing (Some c.in_ok-connection.connection) c.connect.ensures opened in
    ticks_past _ (λ rule. g.R.BoundRule.rules rule) c.args.script.now c.args.number t.wanted false c.open.new.self c.connect.new.self s.setting before s.client (record s.doing { connection = Some c.in_ok-connection.connection }) at

pub act-requires-clause-may : goal.act-requires-clause-may
act-requires-clause-may g c =
    let t = c.requires in
    let s = t.some in
    let before : Machine = opening s.setting s.machine c.args.number s.doing c.in_ok-connection.connection in
    let opened = moved _ (λ rule. g.R.BoundRule.rules rule) c.args.script.now c.args.number t.wanted false c.args.traffic.now c.open.new.self c.args.self.now s.setting s.machine before s.client s.doing refl refl (c.in_ok-connection.ensures.opened s.machine s.placed.underway).1 s.placed in
    let at = joined _ (λ rule. g.R.BoundRule.rules rule) c.args.script.now c.args.number t.wanted false c.open.new.self c.args.self.now c.connect.new.self s.setting before s.client s.doing (Some c.in_ok-connection.connection) c.connect.ensures opened in
    opened_may _ (λ rule. g.R.BoundRule.rules rule) c.args.script.now c.args.number t.wanted false c.open.new.self c.connect.new.self s.setting before s.client (record s.doing { connection = Some c.in_ok-connection.connection }) c.in_ok-connection.connection (up.Connect ∷ []) at refl c.in_ok-connection.ensures.is_open

pub returns : goal.returns
returns g c = λ wanted setting m client doing at.
    let then : Doing = record doing { connection = Some c.in_ok-connection.connection } in
    let before : Machine = opening setting m c.args.number doing c.in_ok-connection.connection in
    let told = c.in_ok-connection.ensures.opened m at.underway in
    let opened = moved _ (λ rule. g.R.BoundRule.rules rule) c.args.script.now c.args.number wanted false c.args.traffic.now c.open.new.self c.args.self.now setting m before client doing refl refl told.1 at in
    let there = joined _ (λ rule. g.R.BoundRule.rules rule) c.args.script.now c.args.number wanted false c.open.new.self c.args.self.now c.connect.new.self setting before client doing (Some c.in_ok-connection.connection) c.connect.ensures opened in
    goes_by_step _ (λ rule. g.R.BoundRule.rules rule) setting c.args.number m before client then true (Opened c.in_ok-connection.connection) c.in_ok-act.field-0 (tries_while setting m c.args.number (go.Open c.in_ok-connection.connection) doing true) c.act.new.traffic c.act.new.self
    (record { clients = refl; event = refl; tick = refl; server = refl }) at.there refl (tried_open setting m c.args.number doing c.in_ok-connection.connection true refl told.0)
    (λ keeps. refl)
    (c.in_ok-act.ensures setting before false (record client { now = Some then }) then at.scripted refl there.underway there.stands)
