use Rattle.std.proofs.Common.{◌∙◌, ap, option_map}
use Rattle.report_story.specs.Views.{step_as}
use Rattle.whole_check.proofs.Owning.{last_is}
use Rattle.whole_check.proofs.owned.last_of.Goals as goal

pub returns : goal.returns
returns c = ap (option_map step_as) c.last.ensures.value ∙ last_is c.args.steps.now
