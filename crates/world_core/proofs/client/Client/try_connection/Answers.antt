use Rattle.std.proofs.Common.{Bool, false, sym, subst}
use Rattle.world_model.specs.meaning.Going.{tries_while}
use Rattle.world_core.specs.Stepping.{Follows}
use Rattle.world_core.proofs.Standing.{if_ok}
use Rattle.world_core.proofs.client.Client.try_connection.Goals as goal

pub returns-then-is_up : goal.returns-then-is_up
returns-then-is_up g c = if_ok c.open_connection.result
    (λ note follows wanted.
    subst (λ (b : Bool). Follows _ (λ rule. g.R.BoundRule.rules rule) c.args.script.now c.args.number wanted false c.args.traffic.now c.args.self.now (λ setting m doing. tries_while setting m c.args.number note doing b) c.open_connection.new.traffic c.open_connection.new.self) (sym c.if-is_up.true)
    (follows wanted))
    c.open_connection.ensures

pub returns : goal.returns
returns g c = if_ok c.fail_try.result
    (λ note follows wanted.
    subst (λ (b : Bool). Follows _ (λ rule. g.R.BoundRule.rules rule) c.args.script.now c.args.number wanted false c.args.traffic.now c.args.self.now (λ setting m doing. tries_while setting m c.args.number note doing b) c.fail_try.new.traffic c.fail_try.new.self) (sym c.if-is_up.false)
    (follows wanted))
    c.fail_try.ensures
