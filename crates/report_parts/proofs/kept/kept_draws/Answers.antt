use Rattle.std.proofs.Common.{◌∙◌, ap, map, option_map}
use Rattle.report_parts.specs.PartViews.{part_as}
use Rattle.report_story.specs.Views.{repeated_as}
use Rattle.report_parts.proofs.KeptPlain.{kept_is}
use Rattle.report_parts.proofs.kept.kept_draws.Goals as goal

pub returns : goal.returns
returns c =
    c.in_ok-kept.ensures
    ∙ kept_is c.args.document.now c.args.report.now c.requires _ _ (ap (map part_as) c.as_slice-2.ensures.value ∙ c.in_ok-parts.ensures) (ap (map (option_map repeated_as)) c.as_slice-3.ensures.value ∙ c.in_ok-story.ensures.repeated)
