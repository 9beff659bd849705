use Rattle.std.proofs.Common.{◌≡◌, map, drop}
use Rattle.svc_values.specs.meaning.Same.{same_calls}
use Rattle.report_story.specs.Views.{marked_as}
use Rattle.whole_check.specs.Marks.{calls_in}
use Rattle.whole_check.proofs.turn.are_calls.Given as goal

abbrev pub invariant-loop-at : goal.invariant-loop-at
invariant-loop-at l = same_calls (calls_in (map marked_as (drop l.at l.marked))) (drop l.at l.since) ≡ same_calls (calls_in (map marked_as l.marked)) l.since
