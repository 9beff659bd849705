use Rattle.std.proofs.Common.{◌∙◌, sym, ap, map, List}
use Rattle.std.specs.List.{list_any}
use Rattle.std.specs.Prelude.{◌==◌}
use Rattle.shown_clauses.specs.meaning.Steps.{Step}
use Rattle.shown_clauses.specs.meaning.KeptDraws.{is_step_of}
use Rattle.report_story.specs.declared.steps.Step.{Step as StepAt}
use Rattle.report_story.specs.Views.{step_as}
use Rattle.report_parts.proofs.Searches.{part_here, part_later, part_nowhere}
use Rattle.report_parts.proofs.looking.part_with.Goals as goal

pub returns-then-has_step : goal.returns-then-has_step
returns-then-has_step c =
    let steps = ap (λ (steps : List StepAt). list_any (λ (step : Step). step.event == c.args.event) (map step_as steps)) c.as_slice.ensures.value in
    sym (part_here (is_step_of c.args.event) c.args.parts.now c.loop-part.part-index c.part-item.result c.loop-part-test.true c.part-item.is (sym (c.has_step.ensures ∙ steps) ∙ c.if-has_step.true))
    ∙ c.loop-part.invariant

pub loop-part-preserved : goal.loop-part-preserved
loop-part-preserved c =
    let steps = ap (λ (steps : List StepAt). list_any (λ (step : Step). step.event == c.args.event) (map step_as steps)) c.as_slice.ensures.value in
    sym (part_later (is_step_of c.args.event) c.args.parts.now c.loop-part.part-index c.part-item.result c.loop-part-test.true c.part-item.is (sym (c.has_step.ensures ∙ steps) ∙ c.if-has_step.false))
    ∙ c.loop-part.invariant

pub returns : goal.returns
returns c = sym (part_nowhere (is_step_of c.args.event) c.args.parts.now c.loop-part.part-index c.loop-part-test.false) ∙ c.loop-part.invariant
