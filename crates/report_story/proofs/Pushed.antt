-- Steps that are put last, and none.
use Rattle.std.proofs.Common.{◌≡◌, append-nil, List, [], ◌∷◌, ◌++◌, map}
use Rattle.std.proofs.lemmas.List.{map_push}
use Rattle.report_story.specs.declared.steps.Step.{Step as StepAt}
use Rattle.report_story.specs.Views.{step_as}
use Rattle.report_story.specs.Passing.{Passed}

pub no_step : (passed : Passed) → record passed { steps = passed.steps ++ [] } ≡ passed
no_step passed = λ i. record passed { steps = append-nil passed.steps i }

pub step_pushed : (steps : List StepAt) (one : StepAt) → map step_as (steps ++ one ∷ []) ≡ map step_as steps ++ step_as one ∷ []
step_pushed steps one = map_push step_as steps one
