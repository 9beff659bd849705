use Rattle.std.proofs.Common.{◌≡◌, ◌++◌, take}
use Rattle.std.specs.List.{flat_map, AllByRecursion}
use Rattle.canon_bytes.proofs.lists.put_made_items.Given as goal

abbrev pub invariant-loop-item : goal.invariant-loop-item
invariant-loop-item g l = (l.out.items ≡ l.fn.out.items ++ flat_map g.T.Take.spelling (take l.item-index l.items)) × AllByRecursion g.T.Take.fits (take l.item-index l.items)
