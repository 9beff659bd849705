use Rattle.std.proofs.Common.{◌+◌, ◌++◌, ◌&&◌, ◌||◌, ◌∙◌, ap, not, take, drop, slice_set, get_or, false, Bool, length, arith, ◌<◌}
use Rattle.alert_lines.specs.Views.{line_as}
use Rattle.alert_lines.specs.InnerFlags.{flags_after}
use Rattle.alert_lines.proofs.Steps.{on}
use Rattle.alert_lines.proofs.standing.go_on.Goals as goal

pub loop-at-preserved : goal.loop-at-preserved
loop-at-preserved c =
    let line = line_as c.args.line in
    let i = c.loop-at.at in
    let flags = c.loop-at.flags in
    let alerts = c.args.alerts.now in
    let within : i < length flags = omega arith in
    ap (λ (flag : Bool). take (i + 1) (slice_set flags i flag) ++ flags_after line c.comes-came.result (drop (i + 1) (slice_set flags i flag)) (drop (i + 1) alerts)) c.may_stand.ensures
    ∙ ap (λ (came : Bool). take (i + 1) (slice_set flags i (c.loop-at.came || (get_or flags i false && not line.is_answered))) ++ flags_after line came (drop (i + 1) (slice_set flags i (c.loop-at.came || (get_or flags i false && not line.is_answered)))) (drop (i + 1) alerts)) c.comes-came.ensures
    ∙ on line c.loop-at.came flags alerts i within
    ∙ c.loop-at.invariant
