use Rattle.std.proofs.Common.{◌≡◌, ◌≤◌, ◌+◌, min, map, drop}
use Rattle.report_parts.specs.Cutting.{sessions_in}
use Rattle.report_parts.specs.SubmissionViews.{submission_as}
use Rattle.report_parts.proofs.parts.sessions_up_to.Given as goal

abbrev pub invariant-loop-submission : goal.invariant-loop-submission
invariant-loop-submission l = record {
  total : min (l.upto + sessions_in (map submission_as (drop l.submission-index l.submissions))) l.most ≡ min (sessions_in (map submission_as l.submissions)) l.most;
  upto : l.upto ≤ l.most;
}
