use Rattle.std.proofs.Common.{◌≡◌, map, take}
use Rattle.legal_draws.proofs.change.all_changed.Given as goal

abbrev pub invariant-loop-count : goal.invariant-loop-count
invariant-loop-count g l = l.after.items ≡ map (g.C.Change.change l.change) (take l.count-index l.counts)
