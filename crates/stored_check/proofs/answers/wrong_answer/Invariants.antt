use Rattle.std.proofs.Common.{◌≡◌, drop}
use Rattle.std.specs.List.{list_all}
use Rattle.report_moments.specs.Views.{moments_as}
use Rattle.stored_check.specs.Facts.{marks_in, timing_in, is_right}
use Rattle.stored_check.proofs.answers.wrong_answer.Given as goal

abbrev pub invariant-loop-moment : goal.invariant-loop-moment
invariant-loop-moment l = list_all (is_right (marks_in l.known) (timing_in l.times)) (moments_as (drop l.moment-index l.moments)) ≡ list_all (is_right (marks_in l.known) (timing_in l.times)) (moments_as l.moments)
