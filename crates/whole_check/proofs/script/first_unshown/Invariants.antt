use Rattle.std.proofs.Common.{◌≡◌, map, drop}
use Rattle.std.specs.List.{list_all}
use Rattle.report_parts.specs.SubmissionViews.{submission_as}
use Rattle.whole_check.specs.Judging.{shows_own}
use Rattle.whole_check.proofs.script.first_unshown.Given as goal

abbrev pub invariant-loop-at : goal.invariant-loop-at
invariant-loop-at l = list_all shows_own (map submission_as (drop l.at l.submissions)) ≡ list_all shows_own (map submission_as l.submissions)
