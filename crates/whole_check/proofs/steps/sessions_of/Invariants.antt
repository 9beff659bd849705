use Rattle.std.proofs.Common.{◌≡◌, ◌++◌, map, drop}
use Rattle.std.specs.Prelude.{filter_map}
use Rattle.report_story.specs.Views.{step_as}
use Rattle.whole_check.proofs.steps.sessions_of.Given as goal

abbrev pub invariant-loop-step : goal.invariant-loop-step
invariant-loop-step l = l.all.items ++ filter_map (λ step. step.session) (map step_as (drop l.step-index l.steps)) ≡ filter_map (λ step. step.session) (map step_as l.steps)
