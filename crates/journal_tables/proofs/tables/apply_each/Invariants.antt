use Rattle.std.proofs.Common.{◌≡◌, drop}
use Rattle.std.specs.Prelude.{IsTrue}
use Rattle.std.specs.List.{list_all}
use Rattle.journal_tables.specs.Written.{tables_with}
use Rattle.journal_tables.specs.Written.{entry_fits}
use Rattle.journal_tables.proofs.tables.apply_each.Given as goal

abbrev pub invariant-loop-entry : goal.invariant-loop-entry
invariant-loop-entry l = record {
  schemas : l.tables.schemas ≡ l.initial.tables.schemas;
  rows : tables_with l.tables.rows (drop l.entry-index l.entries) ≡ tables_with l.initial.tables.rows l.entries;
  rest : IsTrue (list_all (entry_fits l.initial.tables.schemas) (drop l.entry-index l.entries));
}
