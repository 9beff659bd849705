use Rattle.std.proofs.Common.{Some, sym, ◌∙◌}
use Rattle.serial_check.proofs.Singles.{keeps_some, stood_before}
use Rattle.serial_check.proofs.fresh.comes_again.Goals as goal

pub returns-in_ok-add-in-Some : goal.returns-in_ok-add-in-Some
returns-in_ok-add-in-Some c before keeps =
    let one = c.in-Some.one in
    let draw = c.args.draw.now in
    let is = sym c.in-Some.ensures in (
      c.has-again.ensures ∙ stood_before c.args.kept.now before draw (Some one) is keeps,
      keeps_some c.args.kept.now c.add.new.self before draw one is c.in_ok-add-in-Some.ensures.ok keeps,
    )
