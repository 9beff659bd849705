use Rattle.std.proofs.Common.{◌≡◌, ◌++◌, map, drop}
use Rattle.shown_clauses.specs.meaning.Showings.{showings}
use Rattle.report_story.specs.Views.{step_as}
use Rattle.whole_check.proofs.steps.showings.Given as goal

abbrev pub invariant-loop-step : goal.invariant-loop-step
invariant-loop-step l = map (λ one. one.now) l.all.items ++ showings (map step_as (drop l.step-index l.steps)) ≡ showings (map step_as l.steps)
