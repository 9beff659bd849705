use Rattle.std.proofs.Common.{◌≡◌, map, take}
use Rattle.commit_log.specs.meaning.Bases.{schema_in}
use Rattle.serial_check.proofs.asked.schemas_in.Given as goal

abbrev pub invariant-loop-table : goal.invariant-loop-table
invariant-loop-table l = l.all.items ≡ map schema_in (take l.table-index l.tables)
