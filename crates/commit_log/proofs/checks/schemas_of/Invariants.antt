use Rattle.std.proofs.Common.{◌≡◌, take, map}
use Rattle.commit_log.specs.meaning.Bases.{schema_in}
use Rattle.commit_log.proofs.checks.schemas_of.Given as goal

abbrev pub invariant-loop-table : goal.invariant-loop-table
invariant-loop-table l = l.schemas.items ≡ map schema_in (take l.table-index l.table-items)
