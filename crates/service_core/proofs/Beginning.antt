-- What a service begins with is such as a service may begin with: its tables are in order and fit,
-- and it is what a journal keeps to.
use Rattle.std.proofs.Common.{◌≡◌, ◌∙◌, ℕ, Bool, true, false, refl, ap, List, [], ◌∷◌, map, arith}
use Rattle.std.specs.Prelude.{if◌then◌else◌}
use Rattle.std.specs.List.{list_all, flat_map}
use Rattle.std.proofs.lemmas.List.Folds.{list_all-append}
use Rattle.std.proofs.lemmas.List.Sums.{list_all-from_AllPass}
use Rattle.svc_values.specs.declared.schema.Schema.{Schema}
use Rattle.svc_values.specs.declared.entry.Entry.{Entry}
use Rattle.svc_values.specs.declared.entry.Write.{Write}
use Rattle.svc_values.specs.declared.tables.PlainRow.{PlainRow}
use Rattle.svc_values.specs.declared.tables.Place.TheVariants as place
use Rattle.svc_values.specs.meaning.Tables.{is_at, rows_at, comes_before, put_row, with_write, with_writes, in_order}
use Rattle.svc_values.specs.Tables.{AreTables}
use Rattle.svc_values.specs.meaning.Fitting.{write_fits, writes_fit}
use Rattle.svc_values.specs.Fitting.{tables_fit}
use Rattle.svc_values.proofs.Offered.{HasNone, AreTables-put_row, AreTables-with_writes}
use Rattle.table_store.specs.Stored.{AreApart}
use Rattle.table_store.proofs.Offered.{fits_one, fits_if_any, all_with_write}
use Rattle.mutable_values.specs.declared.grants.Grants.{Grants}
use Rattle.commit_log.specs.declared.base.BaseSequence.{BaseSequence}
use Rattle.commit_log.specs.declared.journal.Journal.{Journal}
use Rattle.commit_log.specs.meaning.Bases.{rows_of, schemas_of, sequence_name, start_of}
use Rattle.commit_log.specs.Keeping.{KeepsJournal}
use Rattle.journal_tables.specs.Written.{entry_fits}
use Rattle.journal_tables.proofs.Offered.{first_true, second_true, both_true, start_fits, start_apart}
use Rattle.server_model.specs.Base.{IsSound, name_of}
use Rattle.server_model.specs.Core.{writes_in}
use Rattle.server_session.specs.Fits.{sequence_of}
use Rattle.service_core.specs.Starting.{base_of}

-- ---- rows put in order

-- where no row of a list has the place of another, none has it when they stand in order
none_put : (row other : PlainRow) (rows : List PlainRow) → is_at (place.Row row.table row.key) other ≡ false → HasNone row rows → HasNone row (put_row other rows)
none_put row other [] differs none = (differs, tt)
none_put row other (first ∷ rest) differs none = by (comes_before other first) (none_put row other rest differs none.1)
  where
    by : (before : Bool) → HasNone row (put_row other rest) → HasNone row (if before then other ∷ first ∷ rest else first ∷ put_row other rest)
    by true more = (differs, none)
    by false more = (none.0, more)

none_ordered : (row : PlainRow) (rows : List PlainRow) → rows_at rows (place.Row row.table row.key) ≡ [] → HasNone row (in_order rows)
none_ordered row [] none = tt
none_ordered row (first ∷ rest) none =
    let parts = apart_at (is_at (place.Row row.table row.key) first) refl none in none_put row first (in_order rest) parts.0 (none_ordered row rest parts.1)
  where
    apart_at : (own : Bool) → is_at (place.Row row.table row.key) first ≡ own → (if own then first ∷ rows_at rest (place.Row row.table row.key) else rows_at rest (place.Row row.table row.key)) ≡ []
        → (is_at (place.Row row.table row.key) first ≡ false) × (rows_at rest (place.Row row.table row.key) ≡ [])
    apart_at true is none = absurd (let clash : first ∷ rows_at rest (place.Row row.table row.key) ≡ [] = none in cc)
    apart_at false is none = (is, none)

ordered : (rows : List PlainRow) → AreApart rows → AreTables (in_order rows)
ordered [] apart = tt
ordered (row ∷ rest) apart = AreTables-put_row row (in_order rest) (ordered rest apart.1) (none_ordered row rest apart.0)

fits_put : (schemas : List Schema) (row : PlainRow) (rows : List PlainRow) → fits_one schemas row ≡ true → tables_fit schemas rows ≡ true → tables_fit schemas (put_row row rows) ≡ true
fits_put schemas row [] one all = both_true (fits_one schemas row) true one refl
fits_put schemas row (first ∷ rest) one all = by (comes_before row first) (fits_put schemas row rest one (second_true (fits_one schemas first) (tables_fit schemas rest) all))
  where
    by : (before : Bool) → tables_fit schemas (put_row row rest) ≡ true → tables_fit schemas (if before then row ∷ first ∷ rest else first ∷ put_row row rest) ≡ true
    by true more = both_true (fits_one schemas row) (tables_fit schemas (first ∷ rest)) one all
    by false more = both_true (fits_one schemas first) (tables_fit schemas (put_row row rest)) (first_true (fits_one schemas first) (tables_fit schemas rest) all) more

fits_ordered : (schemas : List Schema) (rows : List PlainRow) → tables_fit schemas rows ≡ true → tables_fit schemas (in_order rows) ≡ true
fits_ordered schemas [] all = refl
fits_ordered schemas (row ∷ rest) all =
    fits_put schemas row (in_order rest) (first_true (fits_one schemas row) (tables_fit schemas rest) all) (fits_ordered schemas rest (second_true (fits_one schemas row) (tables_fit schemas rest) all))

-- ---- what entries wrote

entries_fit : (schemas : List Schema) (entries : List Entry) → list_all (entry_fits schemas) entries ≡ true → writes_fit schemas (flat_map writes_in entries) ≡ true
entries_fit schemas [] all = refl
entries_fit schemas (entry ∷ entries) all =
    list_all-append (write_fits schemas) entry.writes (flat_map writes_in entries)
    ∙ both_true (writes_fit schemas entry.writes) (writes_fit schemas (flat_map writes_in entries)) (first_true (entry_fits schemas entry) (list_all (entry_fits schemas) entries) all)
    (entries_fit schemas entries (second_true (entry_fits schemas entry) (list_all (entry_fits schemas) entries) all))

fits_written : (schemas : List Schema) (rows : List PlainRow) (writes : List Write) → tables_fit schemas rows ≡ true → writes_fit schemas writes ≡ true → tables_fit schemas (with_writes rows writes) ≡ true
fits_written schemas rows [] fit all = fit
fits_written schemas rows (write ∷ writes) fit all =
    fits_written schemas (with_write rows write) writes
    (all_with_write (fits_one schemas) rows write.table write.key write.row fit (fits_if_any schemas write (first_true (write_fits schemas write) (writes_fit schemas writes) all)))
    (second_true (write_fits schemas write) (writes_fit schemas writes) all)

-- ---- the base

same_names : (journal : Journal) (sequences : List BaseSequence) → map sequence_name sequences ≡ map name_of (map (sequence_of journal) sequences)
same_names journal [] = refl
same_names journal (sequence ∷ sequences) = ap (λ names. sequence.name ∷ names) (same_names journal sequences)

pub base_sound : (image : List ℕ) (journal : Journal) (grants : Grants) → KeepsJournal image journal → IsSound (base_of journal grants)
base_sound image journal grants keeps =
    let schemas = schemas_of journal.base in
    let writes = flat_map writes_in journal.entries in
    let fitting : list_all (entry_fits schemas) journal.entries ≡ true = list_all-from_AllPass (entry_fits schemas) journal.entries keeps.commits.fitting in
    record {
      names = same_names journal journal.base.sequences;
      fitting = record {
        ordered = AreTables-with_writes (start_of journal.base) writes (ordered (flat_map rows_of journal.base.tables) (start_apart journal.base keeps.base));
        fitting = fits_written schemas (start_of journal.base) writes (fits_ordered schemas (flat_map rows_of journal.base.tables) (start_fits journal.base keeps.base)) (entries_fit schemas journal.entries fitting);
      };
      spelled = let few = keeps.incarnation in omega (arith, few);
      earlier = keeps.commits.earlier;
      standing = keeps.commits.standing;
      forgotten = keeps.horizon;
    }
