use Rattle.std.proofs.Common.{◌≡◌, ◌++◌, ◌-◌, ◌≤◌, length}
use Rattle.std.specs.List.{flat_map, AllByRecursion}
use Rattle.canon_bytes.specs.meaning.Lists.{items_at}
use Rattle.canon_bytes.proofs.Loop.{continued}
use Rattle.canon_bytes.proofs.lists.take_items.Given as goal

abbrev pub invariant-loop : goal.invariant-loop
invariant-loop g l = (continued g.T.Take.reading l.items.items (l.count - l.counter) l.rest ≡ items_at g.T.Take.reading l.count l.bytes)
    × (l.bytes ≡ flat_map g.T.Take.spelling l.items.items ++ l.rest)
    × AllByRecursion g.T.Take.fits l.items.items
    × (length l.items.items ≡ l.counter)
    × (l.counter ≤ l.count)
