use Rattle.std.proofs.Common.{◌≡◌, take, map}
use Rattle.entry_check.specs.Ids.{ids_in}
use Rattle.entry_check.proofs.gather.ids_of_entries.Given as goal

abbrev pub invariant-loop-at : goal.invariant-loop-at
invariant-loop-at l = ids_in l.found.items ≡ map (λ entry. entry.ltxid) (take l.at l.entries)
