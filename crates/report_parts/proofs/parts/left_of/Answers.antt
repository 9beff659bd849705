use Rattle.std.proofs.Common.{◌∙◌, ap, map, option_map}
use Rattle.report_parts.specs.SubmissionViews.{submission_as}
use Rattle.report_story.specs.Views.{step_as}
use Rattle.report_parts.proofs.Lefts.{left_here}
use Rattle.report_parts.proofs.parts.left_of.Goals as goal

pub returns : goal.returns
returns c =
    ap (option_map step_as) c.step_at.ensures
    ∙ left_here c.args.mine.now (map submission_as c.args.submissions.now) c.sessions_up_to-upto.result c.reach.result.len c.reach.result.acquired c.sessions_up_to-upto.ensures c.reach.ensures
