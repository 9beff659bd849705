use Rattle.std.proofs.Common.{List, sym, ap, subst}
use Rattle.std.proofs.lemmas.List.Sums.{list_all-from_AllPass}
use Rattle.std.specs.Prelude.{IsTrue}
use Rattle.std.specs.List.{list_all}
use Rattle.svc_values.specs.declared.schema.Schema.{Schema}
use Rattle.table_store.specs.Stored.{Stored}
use Rattle.commit_log.specs.meaning.Bases.{schemas_of}
use Rattle.journal_tables.specs.Written.{entry_fits}
use Rattle.journal_tables.proofs.tables.indexed_tables_of.Goals as goal

pub apply_each-requires : goal.apply_each-requires
apply_each-requires c =
    subst (λ (schemas : List Schema). IsTrue (list_all (entry_fits schemas) c.args.entries.now)) (ap (λ (tables : Stored). tables.schemas) (sym c.in_ok-tables.ensures))
    (list_all-from_AllPass (entry_fits (schemas_of c.args.base)) c.args.entries.now c.requires.fitting)
