use Rattle.std.proofs.Common.{◌≡◌, map, drop}
use Rattle.shown_clauses.specs.meaning.Whole.{are_taken}
use Rattle.report_story.specs.Views.{step_as}
use Rattle.whole_check.proofs.steps.step_without_reply.Given as goal

abbrev pub invariant-loop-step : goal.invariant-loop-step
invariant-loop-step l = are_taken (map step_as (drop l.step-index l.steps)) ≡ are_taken (map step_as l.steps)
