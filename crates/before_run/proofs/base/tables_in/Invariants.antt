use Rattle.std.proofs.Common.{◌≡◌, map, take, drop}
use Rattle.std.specs.Prelude.{IsTrue}
use Rattle.std.specs.List.{list_all}
use Rattle.document_forms.specs.Keeping.{is_table}
use Rattle.run_clauses.specs.meaning.Before.{base_table}
use Rattle.before_run.proofs.base.tables_in.Given as goal

abbrev pub invariant-loop-table : goal.invariant-loop-table
invariant-loop-table l = record {
  so_far : l.all.items ≡ map base_table (take l.table-index l.tables);
  rest : IsTrue (list_all is_table (drop l.table-index l.tables));
}
