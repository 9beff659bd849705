-- The lines of the test of an image.
use Rattle.std.proofs.Common.{◌≡◌, ℕ, List, [], ◌∷◌, ◌++◌, map, Bool, true, false, ◌&&◌, ◌==◌, refl, sym, ap, ◌∙◌}
use Rattle.std.specs.Prelude.{Option, Some, None, Result, Ok, Err, IfSome}
use Rattle.std.specs.Str.{bytes_eq}
use Rattle.std.specs.Cmp.Lexicographic.{pointwise}
use Rattle.svc_values.specs.declared.tables.PlainRow.{PlainRow}
use Rattle.svc_values.specs.meaning.Identifiers.{same_ltxid}
use Rattle.commit_log.specs.declared.base.Base.{Base}
use Rattle.commit_log.specs.declared.base.BaseTable.{BaseTable}
use Rattle.commit_log.specs.declared.journal.Journal.{Journal}
use Rattle.commit_log.specs.meaning.Bases.{schema_in}
use Rattle.commit_log.specs.meaning.Journals.{journal_of}
use Rattle.commit_log.specs.Keeping.{EachKeeps}
use Rattle.outage_schedule.specs.declared.document.Document.{Document}
use Rattle.outage_schedule.specs.declared.report.Report.{Report}
use Rattle.run_clauses.specs.meaning.Before.{journal_before, tables_of}
use Rattle.run_clauses.specs.meaning.Comparing.{same_base, same_entry}
use Rattle.run_clauses.specs.meaning.Horizons.{last_horizon}
use Rattle.run_clauses.specs.meaning.Images.{follows, is_after_run}
use Rattle.run_clauses.specs.meaning.Serial.{printed_table, printed_tables, same_report_table}
use Rattle.serial_check.specs.Printed.{print_in}
use Rattle.image_check.specs.Images.{IsRead, IsUsable, is_grown}
use Rattle.image_check.proofs.SameBases.{one_base}

pub printed_is : (rows : List PlainRow) (tables : List BaseTable) → map (print_in rows) (map schema_in tables) ≡ map (printed_table rows) tables
printed_is rows [] = refl
printed_is rows (table ∷ tables) = ap (λ l. printed_table rows table ∷ l) (printed_is rows tables)

four_apart : (a b c d e : Bool) → (a && (b && (c && (d && e)))) ≡ ((a && (b && (c && d))) && e)
four_apart true true true d e = refl
four_apart true true false d e = refl
four_apart true false c d e = refl
four_apart false b c d e = refl

pub follows_is : (before : Journal) (report : Report) (journal : Journal) → follows before report journal ≡ (is_grown before report journal && pointwise same_report_table report.tables (printed_tables before.base (tables_of journal)))
follows_is before report journal =
    four_apart (same_base journal.base before.base) (pointwise same_entry journal.entries (before.entries ++ report.entries))
    (pointwise same_ltxid journal.blocked (before.blocked ++ report.blocked)) (pointwise bytes_eq journal.alerts (before.alerts ++ report.alerts))
    (pointwise same_report_table report.tables (printed_tables before.base (tables_of journal)))

and_first : (a b : Bool) → (a && b) ≡ true → a ≡ true
and_first true b is = refl
and_first false b is = is

-- not grown
pub grown_not : (before : Journal) (report : Report) (journal : Journal) (last : Bool) → is_grown before report journal ≡ false → (follows before report journal && last) ≡ false
grown_not before report journal last is = ap (λ b. b && last) (follows_is before report journal ∙ ap (λ b. b && pointwise same_report_table report.tables (printed_tables before.base (tables_of journal))) is)

-- another horizon
pub horizon_not : (before : Journal) (report : Report) (journal : Journal) (last : Bool) → last ≡ false → (follows before report journal && last) ≡ false
horizon_not before report journal last is = ap (λ b. follows before report journal && b) is ∙ none (follows before report journal)
  where
    none : (b : Bool) → (b && false) ≡ false
    none true = refl
    none false = refl

-- grown, with this horizon: the tables are left
pub tables_left : (before : Journal) (report : Report) (journal : Journal) (last : Bool) → is_grown before report journal ≡ true → last ≡ true
    → pointwise same_report_table report.tables (printed_tables journal.base (tables_of journal)) ≡ (follows before report journal && last)
tables_left before report journal last grown is =
    let one = one_base journal.base before.base (and_first _ _ grown) in
    let tables = pointwise same_report_table report.tables (printed_tables before.base (tables_of journal)) in
    ap (λ (base : Base). pointwise same_report_table report.tables (printed_tables base (tables_of journal))) one
    ∙ sym (ap (λ b. follows before report journal && b) is ∙ (with_true (follows before report journal) ∙ (follows_is before report journal ∙ ap (λ b. b && tables) grown)))
  where
    with_true : (b : Bool) → (b && true) ≡ b
    with_true true = refl
    with_true false = refl

-- ---- what was read

pub read_none : (document : Document) (report : Report) (read : Result Journal ℕ) → IsRead read None → false ≡ is_after_run document report read
read_none document report (Err place) is = refl
read_none document report (Ok journal) is = absurd (is journal refl)

pub read_some : (document : Document) (report : Report) (read : Result Journal ℕ) (journal : Journal) → IsRead read (Some journal) → report.forgotten ≡ last_horizon document report
    → (follows (journal_before document) report journal && (journal.horizon == report.forgotten)) ≡ is_after_run document report read
read_some document report read journal is forgotten =
    ap (λ (n : ℕ). follows (journal_before document) report journal && (journal.horizon == n)) forgotten ∙ sym (ap (is_after_run document report) is)

pub usable_if : EachKeeps → (image : List ℕ) (read : Option Journal) → IsRead (journal_of image) read → IfSome read IsUsable
usable_if keeps image None is = tt
usable_if keeps image (Some journal) is = let kept = keeps image journal is in record { base = kept.base; fitting = kept.commits.fitting }
