use Rattle.std.proofs.Common.{◌≡◌, drop}
use Rattle.std.specs.List.{list_all}
use Rattle.whole_check.proofs.script.first_disordered.Given as goal

abbrev pub invariant-loop-at : goal.invariant-loop-at
invariant-loop-at l = list_all (λ one. one.is_in_order) (drop l.at l.all) ≡ list_all (λ one. one.is_in_order) l.all
