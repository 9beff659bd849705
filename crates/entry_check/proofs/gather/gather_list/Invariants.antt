use Rattle.std.proofs.Common.{◌≡◌, ◌++◌, take}
use Rattle.entry_check.specs.Ids.{ids_in}
use Rattle.entry_check.proofs.gather.gather_list.Given as goal

abbrev pub invariant-loop-ltxid : goal.invariant-loop-ltxid
invariant-loop-ltxid l = ids_in l.found.items ≡ ids_in l.fn.found.items ++ take l.ltxid-index l.ids
