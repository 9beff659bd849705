use Rattle.std.proofs.Common.{◌≡◌, ◌≤◌, ◌++◌, length, map, drop}
use Rattle.shown_clauses.specs.meaning.Parts.{counted_from, parts_from, parts_of}
use Rattle.report_parts.specs.PartViews.{part_as}
use Rattle.report_parts.specs.SubmissionViews.{submission_as}
use Rattle.report_story.specs.Views.{step_as}
use Rattle.report_parts.proofs.parts.put_parts.Given as goal

abbrev pub invariant-loop-submission : goal.invariant-loop-submission
invariant-loop-submission l = record {
  made : map part_as l.parts.items ++ parts_from l.upto (map submission_as (drop l.submission-index l.submissions)) (counted_from l.acquired (map step_as (drop l.from l.mine)))
      ≡ map part_as l.fn.parts.items ++ parts_of (map submission_as l.submissions) (map step_as l.mine);
  from : l.from ≤ length l.mine;
  acquired : l.acquired ≤ l.from;
  upto : l.upto ≤ length l.mine;
}
