use Rattle.std.proofs.Common.{◌≡◌, map, take, option_map}
use Rattle.report_story.specs.Brought.{brought}
use Rattle.report_parts.specs.PartViews.{part_as}
use Rattle.report_story.specs.Views.{repeated_as}
use Rattle.report_parts.proofs.kept.brought_all.Given as goal

abbrev pub invariant-loop-one : goal.invariant-loop-one
invariant-loop-one l = map (λ draws. draws.now) l.kept.items ≡ map (brought (map part_as l.parts)) (map (option_map repeated_as) (take l.one-index l.repeated))
