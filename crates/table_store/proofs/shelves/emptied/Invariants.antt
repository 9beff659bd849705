use Rattle.std.proofs.Common.{◌≡◌, ◌++◌, drop, map}
use Rattle.table_store.specs.Given.{named, shelf_named}
use Rattle.table_store.proofs.shelves.emptied.Given as goal

-- the tables so far, and those that are left as the maps have them now
abbrev pub invariant-loop-at : goal.invariant-loop-at
invariant-loop-at l = map named l.all.items ++ map (shelf_named l.shelves.entries) (drop l.at l.schemas) ≡ map (shelf_named l.initial.shelves.entries) l.schemas
