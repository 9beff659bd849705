use Rattle.std.proofs.Common.{◌≡◌, take}
use Rattle.std.specs.List.{flat_map}
use Rattle.run_clauses.specs.meaning.Tried.{ids_tried}
use Rattle.entry_check.specs.Ids.{ids_in}
use Rattle.entry_check.proofs.gather.ids_of_lists.Given as goal

abbrev pub invariant-loop-at : goal.invariant-loop-at
invariant-loop-at l = ids_in l.found.items ≡ flat_map (λ requests. flat_map ids_tried requests) (take l.at l.clients)
