use Rattle.std.proofs.Common.{◌∙◌, sym}
use Rattle.entry_events.specs.Numbering.{up_to}
use Rattle.whole_check.specs.Judging.{has_number}
use Rattle.whole_check.specs.Views.{shown_as}
use Rattle.whole_check.proofs.Alls.{all_wrong, all_right}
use Rattle.whole_check.proofs.line.without_number.Goals as goal

pub returns-then-not-has_number : goal.returns-then-not-has_number
returns-then-not-has_number c =
    sym (all_wrong (has_number (up_to c.args.numbers.now)) shown_as c.args.calls.now c.loop-at.at c.index-calls-at.result c.loop-at-test.true c.index-calls-at.is (sym c.has_number.ensures ∙ c.if-not-has_number.true))
    ∙ c.loop-at.invariant

pub loop-at-preserved : goal.loop-at-preserved
loop-at-preserved c =
    sym (all_right (has_number (up_to c.args.numbers.now)) shown_as c.args.calls.now c.loop-at.at c.index-calls-at.result c.loop-at-test.true c.index-calls-at.is (sym c.has_number.ensures ∙ c.if-not-has_number.false))
    ∙ c.loop-at.invariant
