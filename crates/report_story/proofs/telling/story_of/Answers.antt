use Rattle.std.proofs.Common.{◌∙◌, ap, fold}
use Rattle.shown_clauses.specs.meaning.Steps.{turns_seen}
use Rattle.report_story.specs.Passing.{Passed, begun_with, pass}
use Rattle.report_story.proofs.Walked.{steps_told, turns_told}
use Rattle.report_story.proofs.telling.story_of.Goals as goal

pub returns-clause-steps : goal.returns-clause-steps
returns-clause-steps c =
    ap (λ (passed : Passed). passed.steps) (c.passing.view_is ∙ (c.in_ok-passing.ensures ∙ (λ i. fold pass (begun_with (c.as_slice.ensures i)) (c.as_slice-notes.ensures i))))
    ∙ steps_told c.args.report.now c.requires

pub returns-clause-turns : goal.returns-clause-turns
returns-clause-turns c =
    c.in_ok-turns.ensures
    ∙ (ap (λ (passed : Passed). turns_seen passed.seen) (c.passing.view_is ∙ (c.in_ok-passing.ensures ∙ (λ i. fold pass (begun_with (c.as_slice.ensures i)) (c.as_slice-notes.ensures i))))
    ∙ turns_told c.args.report.now c.requires)
