use Rattle.std.proofs.Common.{◌∙◌, ap, false, Bool, List}
use Rattle.alert_lines.specs.Views.{line_as}
use Rattle.alert_lines.specs.InnerFlags.{flags_after}
use Rattle.alert_lines.proofs.Flagged.{follow}
use Rattle.alert_lines.proofs.standing.Standing.add.Goals as goal

pub returns : goal.returns
returns c = λ lines is.
    let line = line_as c.args.line in
    let alerts = c.args.alerts.now in
    c.follow.ensures ∙ ap (λ (flags : List Bool). flags_after line false flags alerts) is ∙ follow lines line alerts
