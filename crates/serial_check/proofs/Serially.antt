-- The entries that lead from the tables of a journal to those that are printed.
use Rattle.std.proofs.Common.{◌≡◌, ℕ, Bool, true, false, List, [], ◌∷◌, map, Option, Some, None, is_some, refl, sym, ap, ◌∙◌, subst}
use Rattle.svc_values.specs.declared.schema.Schema.{Schema}
use Rattle.svc_values.specs.declared.tables.PlainRow.{PlainRow}
use Rattle.commit_log.specs.declared.base.BaseTable.{BaseTable}
use Rattle.commit_log.specs.meaning.Bases.{schema_in, schemas_of, sequence_name}
use Rattle.outage_schedule.specs.declared.document.Document.{Document}
use Rattle.outage_schedule.specs.declared.report.Report.{Report}
use Rattle.run_clauses.specs.meaning.Before.{journal_before, shape, start}
use Rattle.run_clauses.specs.meaning.Serial.{printed_table, printed_tables}
use Rattle.table_store.specs.Stored.{Stored}
use Rattle.table_txn.specs.Transactions.{shape_of}
use Rattle.serial_check.specs.meaning.Places.{Course, Goes, Fails, entries_course, table_place, place_after, serial_place}
use Rattle.serial_check.specs.Printed.{print_in}
use Rattle.serial_check.specs.Replaying.{HasEnded}

went : (old : Stored) (course : Course) (place : Option (List ℕ)) (new : Stored) → HasEnded old course place new → is_some place ≡ false → new ≡ record { schemas = old.schemas; rows = new.rows } × (course ≡ Goes new.rows)
went old (Goes tables) None new is none = (subst (λ (t : Stored). t ≡ record { schemas = old.schemas; rows = t.rows }) (sym is) refl, ap (λ (t : Stored). Goes t.rows) (sym is))
went old (Fails place) None new never none = absurd never
went old course (Some place) new has none = absurd (let clash : ◌≡◌ {A = Bool} true false = none in cc)

printed_is : (rows : List PlainRow) (tables : List BaseTable) → map (print_in rows) (map schema_in tables) ≡ map (printed_table rows) tables
printed_is rows [] = refl
printed_is rows (table ∷ tables) = ap (λ l. printed_table rows table ∷ l) (printed_is rows tables)

pub serial_went : (document : Document) (report : Report) (names : List (List ℕ)) (old new : Stored) (place : Option (List ℕ))
    → old.schemas ≡ schemas_of (journal_before document).base → old.rows ≡ start document → names ≡ map sequence_name (journal_before document).base.sequences
    → HasEnded old (entries_course (shape_of old names) old.rows 0 report.entries) place new → is_some place ≡ false
    → table_place 0 report.tables (map (print_in new.rows) new.schemas) ≡ serial_place document report
serial_went document report names old new place declared begun named has none =
    let base = (journal_before document).base in
    let done = went old (entries_course (shape_of old names) old.rows 0 report.entries) place new has none in
    let course : entries_course (shape document) (start document) 0 report.entries ≡ Goes new.rows =
    ap (λ (schemas : List Schema). entries_course (record { schemas = schemas; sequences = map sequence_name base.sequences }) (start document) 0 report.entries) (sym declared)
    ∙ (ap (λ (sequences : List (List ℕ)). entries_course (record { schemas = old.schemas; sequences = sequences }) (start document) 0 report.entries) (sym named)
    ∙ (ap (λ (rows : List PlainRow). entries_course (shape_of old names) rows 0 report.entries) (sym begun) ∙ done.1)) in
    let printed : map (print_in new.rows) new.schemas ≡ printed_tables base new.rows =
    ap (λ (t : Stored). map (print_in new.rows) t.schemas) done.0 ∙ (ap (map (print_in new.rows)) declared ∙ printed_is new.rows base.tables) in
    ap (table_place 0 report.tables) printed ∙ ap (place_after document report) (sym course)
