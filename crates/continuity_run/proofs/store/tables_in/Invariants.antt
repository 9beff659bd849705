use Rattle.std.proofs.Common.{◌≡◌, ◌++◌, map}
use Rattle.std.specs.Prelude.{IsTrue}
use Rattle.std.specs.List.{list_all}
use Rattle.document_forms.specs.Keeping.{is_table}
use Rattle.run_clauses.specs.meaning.Before.{base_table}
use Rattle.continuity_run.proofs.store.tables_in.Given as goal

abbrev pub invariant-loop-table : goal.invariant-loop-table
invariant-loop-table l = record {
  so_far : l.all.items ++ map base_table l.table-iterator.rest.items ≡ map base_table l.fn.tables;
  rest : IsTrue (list_all is_table l.table-iterator.rest.items);
}
