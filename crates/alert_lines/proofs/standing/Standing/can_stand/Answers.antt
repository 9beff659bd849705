use Rattle.std.proofs.Common.{◌∙◌, ap, Bool, List}
use Rattle.std.specs.List.{list_any}
use Rattle.alert_lines.proofs.Flagged.{any_is}
use Rattle.alert_lines.proofs.standing.Standing.can_stand.Goals as goal

pub returns : goal.returns
returns c = λ lines alerts is.
    c.is_any.ensures ∙ ap (λ (flags : List Bool). list_any (λ flag. flag) flags) (c.as_slice.ensures.value ∙ c.self.view_is ∙ is) ∙ any_is lines alerts
