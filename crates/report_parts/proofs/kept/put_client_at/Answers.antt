use Rattle.std.proofs.Common.{◌∙◌, ◌++◌, ap, map}
use Rattle.std.specs.Prelude.{flat_map}
use Rattle.run_clauses.specs.meaning.Copies.{copies_of}
use Rattle.shown_clauses.specs.meaning.Parts.{parts_of}
use Rattle.shown_clauses.specs.meaning.Submissions.{submissions_of}
use Rattle.report_parts.specs.PartViews.{part_as}
use Rattle.report_story.specs.Views.{step_as}
use Rattle.report_parts.proofs.Searches.{steps_mapped}
use Rattle.report_parts.proofs.kept.put_client_at.Goals as goal

pub returns : goal.returns
returns c =
    c.in_ok-put_client.ensures
    ∙ (λ i. map part_as c.args.parts.now.items
    ++ parts_of (flat_map submissions_of (copies_of (c.as_slice.ensures i) c.args.reports.now)) ((ap (map step_as) (c.as_slice-2.ensures.value ∙ c.in_ok-mine.ensures) ∙ steps_mapped c.args.number c.args.steps.now) i))
