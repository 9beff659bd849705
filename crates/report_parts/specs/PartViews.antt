-- How parts are seen.
use Rattle.std.specs.Prelude.{map}
use Rattle.report_parts.specs.declared.parts.Part.{Part as PartAt}
use Rattle.shown_clauses.specs.meaning.Parts.{Part}
use Rattle.report_parts.specs.SubmissionViews.{submission_as}
use Rattle.report_story.specs.Views.{step_as}

abbrev pub part_as : PartAt → Part
part_as part = record {
  submission = submission_as part.submission;
  steps = map step_as part.steps.items;
}
