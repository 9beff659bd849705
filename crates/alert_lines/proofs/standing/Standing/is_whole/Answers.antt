use Rattle.std.proofs.Common.{◌∙◌, ap}
use Rattle.alert_lines.specs.InnerFlags.{last_flag}
use Rattle.alert_lines.proofs.Flagged.{last_is}
use Rattle.alert_lines.proofs.standing.Standing.is_whole.Goals as goal

pub returns : goal.returns
returns c = λ lines alerts is. c.last_of.ensures ∙ ap last_flag (c.as_slice.ensures.value ∙ c.self.view_is ∙ is) ∙ last_is lines alerts
