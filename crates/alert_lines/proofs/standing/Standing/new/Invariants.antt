use Rattle.std.proofs.Common.{◌≡◌, ◌++◌, ◌∷◌, map, drop, true, false}
use Rattle.alert_lines.proofs.standing.Standing.new.Given as goal

abbrev pub invariant-loop-alert : goal.invariant-loop-alert
invariant-loop-alert l = l.flags.items ++ map (λ alert. false) (drop l._alert-index l.alerts) ≡ true ∷ map (λ alert. false) l.alerts
