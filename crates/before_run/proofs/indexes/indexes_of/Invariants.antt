use Rattle.std.proofs.Common.{◌≡◌, take}
use Rattle.std.specs.List.{flat_map}
use Rattle.before_run.specs.Indexes.{indexes_in}
use Rattle.before_run.proofs.indexes.indexes_of.Given as goal

abbrev pub invariant-loop-table : goal.invariant-loop-table
invariant-loop-table l = l.all.items ≡ flat_map indexes_in (take l.table-index l.tables)
