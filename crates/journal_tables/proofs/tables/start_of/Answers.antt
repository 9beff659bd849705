use Rattle.std.proofs.Common.{◌∙◌, sym, subst, List}
use Rattle.std.specs.Prelude.{IsTrue}
use Rattle.std.specs.List.{list_all}
use Rattle.svc_values.specs.declared.schema.Schema.{Schema}
use Rattle.svc_values.specs.declared.tables.PlainRow.{PlainRow}
use Rattle.svc_values.specs.Fitting.{tables_fit}
use Rattle.table_store.specs.Given.{is_index_of, plain}
use Rattle.table_store.specs.Stored.{AreApart}
use Rattle.commit_log.specs.meaning.Bases.{schemas_of}
use Rattle.journal_tables.proofs.BaseRows.{start_fits, start_apart}
use Rattle.journal_tables.proofs.tables.start_of.Goals as goal

pub indexed-requires-clause-fitting : goal.indexed-requires-clause-fitting
indexed-requires-clause-fitting c =
    subst (λ (s : List Schema). IsTrue (tables_fit s (plain c.in_ok-schemas.given.items))) (sym (c.from_vec.ensures ∙ c.in_ok-schemas.ensures.schemas))
    (subst (λ (r : List PlainRow). IsTrue (tables_fit (schemas_of c.args.base) r)) (sym c.in_ok-schemas.ensures.rows) (start_fits c.args.base c.requires.base))

pub indexed-requires-clause-apart : goal.indexed-requires-clause-apart
indexed-requires-clause-apart c = subst AreApart (sym c.in_ok-schemas.ensures.rows) (start_apart c.args.base c.requires.base)

pub indexed-requires-clause-indexes : goal.indexed-requires-clause-indexes
indexed-requires-clause-indexes c = subst (λ (s : List Schema). IsTrue (list_all (is_index_of s) c.args.indexes.now)) (sym (c.from_vec.ensures ∙ c.in_ok-schemas.ensures.schemas)) c.requires.indexes
