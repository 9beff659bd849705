use Rattle.std.proofs.Common.{◌≡◌, drop}
use Rattle.std.specs.List.{list_all}
use Rattle.commit_log.specs.meaning.Bases.{is_table}
use Rattle.commit_log.proofs.checks.are_tables.Given as goal

abbrev pub invariant-loop-table : goal.invariant-loop-table
invariant-loop-table l = list_all is_table (drop l.table-index l.tables) ≡ list_all is_table l.tables
