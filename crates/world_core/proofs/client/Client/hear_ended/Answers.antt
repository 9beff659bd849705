use Rattle.std.proofs.Common.{false, true, Some, length, refl, sym, ap, ◌∙◌}
use Rattle.pool_core.specs.meaning.Slots.{give_back_answer}
use Rattle.client_model.specs.declared.input.Input.TheVariants.{Took}
use Rattle.client_model.specs.declared.input.Wants.TheVariants as wants
use Rattle.outage_schedule.specs.declared.note.GoNote.TheVariants as go
use Rattle.world_model.specs.meaning.Acting.{act_at, frames_of, steps, loses}
use Rattle.world_model.specs.meaning.Clients.{heard, doing_at}
use Rattle.world_model.specs.meaning.Going.{noted, lost_at_once}
use Rattle.world_model.specs.meaning.Machines.{Machine}
use Rattle.world_core.specs.Coursing.{step_of}
use Rattle.world_core.specs.Linked.{connection_at}
use Rattle.world_core.specs.Stepping.{connection_in}
use Rattle.world_core.proofs.steps.Placing.{may_hear, ticks_past, his_release}
use Rattle.world_core.proofs.steps.Steps.{took_noted, dead_may}
use Rattle.world_core.proofs.steps.Turns.{placed_then, busy_then, over_then, goes_over, goes_lost}
use Rattle.world_core.proofs.client.Client.hear_ended.Goals as goal

pub act-requires-clause-wanted : goal.act-requires-clause-wanted
act-requires-clause-wanted g c =
    let s = c.requires.awaits.some in
    may_hear _ (λ rule. g.R.BoundRule.rules rule) c.args.script.now c.args.number wants.Frame false c.args.traffic.now c.args.self.now s.setting s.machine s.client s.doing (Took c.args.frame false) s.placed refl

pub act-requires-clause-past : goal.act-requires-clause-past
act-requires-clause-past g c =
    let s = c.requires.awaits.some in
    ticks_past _ (λ rule. g.R.BoundRule.rules rule) c.args.script.now c.args.number wants.Frame false c.args.traffic.now c.args.self.now s.setting s.machine s.client s.doing s.placed

pub act-requires-clause-release : goal.act-requires-clause-release
act-requires-clause-release g c =
    let a = c.requires.awaits in
    let s = a.some in
    his_release _ (λ rule. g.R.BoundRule.rules rule) c.args.script.now c.args.number wants.Frame false c.args.traffic.now c.args.self.now s.setting s.machine s.client s.doing c.args.connection a.link
    (step_of _ (λ rule. g.R.BoundRule.rules rule) c.args.self.now (Took c.args.frame false) c.args.traffic.now.tick).1.hold s.placed a.awaits.has a.awaits.his

pub act-requires-clause-may : goal.act-requires-clause-may
act-requires-clause-may g c =
    dead_may _ (λ rule. g.R.BoundRule.rules rule) c.args.self.now c.args.frame c.args.traffic.now.tick (give_back_answer c.args.traffic.now.pool (connection_in c.args.self.now.course))
    (connection_at c.args.traffic.now.connections.all.items (connection_in c.args.self.now.course))

pub lose-requires : goal.lose-requires
lose-requires g c =
    let s = c.requires.awaits.some in
    let acts = c.in_ok-sent.ensures s.setting s.machine false (record s.client { now = Some s.doing }) s.doing s.placed.scripted refl s.placed.underway s.placed.stands in
    let busy = sym c.is_busy.ensures ∙ c.if-not-is_busy.false in
    record {
      is_lost = true;
      some = record {
        setting = s.setting;
        machine = steps s.setting s.machine c.args.number s.doing true (Took c.args.frame false);
        client = record s.client { now = Some (heard s.setting.terms s.machine.event s.machine.tick s.doing (Took c.args.frame false)) };
        doing = heard s.setting.terms s.machine.event s.machine.tick s.doing (Took c.args.frame false);
        placed = placed_then _ (λ rule. g.R.BoundRule.rules rule) c.args.script.now s.setting c.args.number c.args.frame c.in_ok-sent.sent c.act.new.traffic c.act.new.self s.machine s.client s.doing c.args.traffic.now c.args.self.now s.placed acts busy;
      };
    }

pub returns-then-not-is_busy : goal.returns-then-not-is_busy
returns-then-not-is_busy g c = λ setting m client doing link at awaits.
    let acts = c.in_ok-sent.ensures setting m false (record client { now = Some doing }) doing at.scripted refl at.underway at.stands in
    let idle = sym c.is_busy.ensures ∙ c.if-not-is_busy.true in
    let after : Machine = steps setting m c.args.number doing true (Took c.args.frame false) in
    goes_over _ (λ rule. g.R.BoundRule.rules rule) c.args.script.now setting c.args.number c.args.frame c.in_ok-sent.sent c.act.new.traffic c.act.new.self m client doing c.args.traffic.now c.args.self.now at acts idle
    (noted (go.Took c.args.connection c.in_ok-sent.sent) (go.Took c.args.connection (length (frames_of m.pool c.args.connection (act_at setting m doing (Took c.args.frame false))))) (lost_at_once setting after c.args.number (Some c.args.event) (doing_at after.clients c.args.number)))
    (took_noted setting m doing c.args.connection c.in_ok-sent.sent (Took c.args.frame false) (lost_at_once setting after c.args.number (Some c.args.event) (doing_at after.clients c.args.number)) awaits.has acts.sent
    ∙ ap (λ (one : Machine). Some one)
    (over_then _ (λ rule. g.R.BoundRule.rules rule) c.args.script.now setting c.args.number c.args.frame c.in_ok-sent.sent c.act.new.traffic c.act.new.self m client doing c.args.traffic.now c.args.self.now at acts idle (Some c.args.event)))

pub returns : goal.returns
returns g c = λ setting m client doing link at awaits.
    let acts = c.in_ok-sent.ensures setting m false (record client { now = Some doing }) doing at.scripted refl at.underway at.stands in
    let busy = sym c.is_busy.ensures ∙ c.if-not-is_busy.false in
    let after : Machine = steps setting m c.args.number doing true (Took c.args.frame false) in
    let then = heard setting.terms m.event m.tick doing (Took c.args.frame false) in
    let placed = placed_then _ (λ rule. g.R.BoundRule.rules rule) c.args.script.now setting c.args.number c.args.frame c.in_ok-sent.sent c.act.new.traffic c.act.new.self m client doing c.args.traffic.now c.args.self.now at acts busy in
    goes_lost _ (λ rule. g.R.BoundRule.rules rule) c.args.script.now setting c.args.number c.args.frame c.in_ok-sent.sent c.act.new.traffic c.act.new.self m client doing c.args.traffic.now c.args.self.now at acts c.lose.new.traffic c.lose.new.self
    (Some (loses setting after c.args.number then (Some c.args.event)))
    (noted (go.Took c.args.connection c.in_ok-sent.sent) (go.Took c.args.connection (length (frames_of m.pool c.args.connection (act_at setting m doing (Took c.args.frame false))))) (lost_at_once setting after c.args.number (Some c.args.event) (doing_at after.clients c.args.number)))
    (c.in_ok-lose.ensures true setting after (record client { now = Some then }) then placed)
    (took_noted setting m doing c.args.connection c.in_ok-sent.sent (Took c.args.frame false) (lost_at_once setting after c.args.number (Some c.args.event) (doing_at after.clients c.args.number)) awaits.has acts.sent
    ∙ ap (λ (one : Machine). Some one)
    (busy_then _ (λ rule. g.R.BoundRule.rules rule) c.args.script.now setting c.args.number c.args.frame c.in_ok-sent.sent c.act.new.traffic c.act.new.self m client doing c.args.traffic.now c.args.self.now at acts busy (Some c.args.event)))
