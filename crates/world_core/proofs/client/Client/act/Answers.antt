use Rattle.std.proofs.Common.{ℕ, sym, ◌∙◌, subst}
use Rattle.world_core.specs.Coursing.{IsClient, Hears}
use Rattle.world_core.proofs.steps.Stepped.{if_ok_with, same_connection, acts_so}
use Rattle.world_core.proofs.client.Client.act.Goals as goal

pub returns : goal.returns
returns g c = if_ok_with c.act.result c.act.ensures.count c.act.ensures.acted
    (λ sent count acted setting m is_lost client doing same now is stands.
    let there = c.connection-connection.ensures ∙ same_connection setting.terms c.args.self.now.driver.talk c.args.self.now.course client.now doing now stands.now in
    let here = subst (λ (tick : ℕ). IsClient _ (λ rule. g.R.BoundRule.rules rule) setting c.args.number tick is_lost c.args.self.now client) is.tick stands in
    acts_so _ (λ rule. g.R.BoundRule.rules rule) setting c.args.number c.args.holds_slot c.args.input c.in_ok-send.field-0.send.items c.in_ok-send.field-0.hold sent c.connection-connection.result c.args.traffic.now c.act.new.self c.hear.new.self m client doing there is
    (subst (λ (tick : ℕ). Hears _ (λ rule. g.R.BoundRule.rules rule) setting c.args.number m.event tick client doing c.args.input c.in_ok-send.field-0.send.items c.in_ok-send.field-0.hold c.hear.new.self) (sym is.tick) (c.in_ok-send.ensures.heard setting c.args.number m.event is_lost client doing same now here))
    count acted)
