use Rattle.std.proofs.Common.{◌≡◌, ◌++◌, take, drop, false}
use Rattle.alert_lines.specs.Views.{line_as}
use Rattle.alert_lines.specs.InnerFlags.{flags_after}
use Rattle.alert_lines.proofs.standing.go_on.Given as goal

abbrev pub invariant-loop-at : goal.invariant-loop-at
invariant-loop-at l =
    take l.at l.flags ++ flags_after (line_as l.line) l.came (drop l.at l.flags) (drop l.at l.alerts) ≡ flags_after (line_as l.line) false l.initial.flags l.alerts
