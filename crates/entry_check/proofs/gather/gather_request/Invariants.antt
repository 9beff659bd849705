use Rattle.std.proofs.Common.{◌≡◌, ◌++◌, take}
use Rattle.std.specs.List.{flat_map}
use Rattle.entry_check.specs.Ids.{ids_in}
use Rattle.entry_check.proofs.gather.gather_request.Given as goal

abbrev pub invariant-loop-at : goal.invariant-loop-at
invariant-loop-at l = ids_in l.found.items ≡ ids_in l.fn.found.items ++ flat_map (λ ids. ids) (take l.at l.lists)
