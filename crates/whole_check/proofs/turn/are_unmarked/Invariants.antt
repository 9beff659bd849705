use Rattle.std.proofs.Common.{◌≡◌, not, map, drop}
use Rattle.std.specs.List.{list_all}
use Rattle.report_story.specs.Views.{marked_as}
use Rattle.whole_check.proofs.turn.are_unmarked.Given as goal

abbrev pub invariant-loop-one : goal.invariant-loop-one
invariant-loop-one l = list_all (λ one. not one.replay) (map marked_as (drop l.one-index l.calls)) ≡ list_all (λ one. not one.replay) (map marked_as l.calls)
