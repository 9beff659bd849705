use Rattle.std.proofs.Common.{◌≡◌, ◌++◌, map}
use Rattle.std.specs.List.{flat_map}
use Rattle.table_store.specs.Given.{plain}
use Rattle.commit_log.specs.meaning.Bases.{rows_of, schema_in}
use Rattle.journal_tables.proofs.tables.gathered.Given as goal

abbrev pub invariant-loop-one : goal.invariant-loop-one
invariant-loop-one l = (l.schemas.items ++ map schema_in l.one-iterator.rest.items ≡ map schema_in l.fn.tables) × (plain l.given.items ++ flat_map rows_of l.one-iterator.rest.items ≡ flat_map rows_of l.fn.tables)
