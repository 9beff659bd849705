use Rattle.std.proofs.Common.{List, sym, subst, ◌∙◌}
use Rattle.std.specs.Prelude.{IsTrue}
use Rattle.svc_values.specs.declared.tables.PlainRow.{PlainRow}
use Rattle.svc_values.specs.Fitting.{tables_fit}
use Rattle.table_store.specs.Given.{plain}
use Rattle.table_store.proofs.Filled.{all_in_order}
use Rattle.table_store.proofs.Keeps.{fits_one, kept_from_stored}
use Rattle.table_store.proofs.tables.Tables.indexed.Goals as goal

pub invariant_of-result : goal.invariant_of-result
invariant_of-result c =
    let rows = c.in_ok-shelves-2.ensures.rows ∙ c.in_ok-shelves.ensures.rows in
    record {
      shelved = c.in_ok-shelves-2.ensures.shelved;
      fitting = subst (λ (rows : List PlainRow). IsTrue (tables_fit c.args.schemas rows)) (sym rows) (all_in_order (fits_one c.args.schemas) (plain c.args.tables.items) c.requires.fitting);
    }

pub returns-clause-kept : goal.returns-clause-kept
returns-clause-kept c = kept_from_stored c.args.schemas c.in_ok-shelves-2.shelves.entries (invariant_of-result c)
