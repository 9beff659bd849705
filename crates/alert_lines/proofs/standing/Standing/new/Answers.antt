use Rattle.std.proofs.Common.{arith, length, ◌≤◌}
use Rattle.alert_lines.proofs.Flagged.{put_at_first}
use Rattle.alert_lines.proofs.standing.Standing.new.Goals as goal

pub returns : goal.returns
returns c =
    let past : length c.args.alerts.now ≤ c.loop-alert._alert-index = omega arith in
    put_at_first c.loop-alert.flags.items c.args.alerts.now c.loop-alert._alert-index past c.loop-alert.invariant
