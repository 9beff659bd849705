-- Where entries fail to be a serial run, and whether they are one.
use Rattle.std.proofs.Common.{◌≡◌, ℕ, ◌+◌, Bool, true, false, not, List, [], ◌∷◌, Option, Some, None, is_none, refl, ap, ◌∙◌}
use Rattle.std.specs.Prelude.{◌&&◌, if◌then◌else◌}
use Rattle.std.specs.Cmp.Lexicographic.{pointwise}
use Rattle.svc_values.specs.declared.schema.Shape.{Shape}
use Rattle.svc_values.specs.declared.entry.Entry.{Entry}
use Rattle.svc_values.specs.declared.entry.Piece.{Piece}
use Rattle.svc_values.specs.declared.tables.PlainRow.{PlainRow}
use Rattle.svc_values.specs.meaning.Endings.{ends_committed}
use Rattle.svc_values.specs.meaning.SettingsList.{NamedValues}
use Rattle.stmt_meaning.specs.meaning.Meaning.{Meant}
use Rattle.stmt_meaning.specs.meaning.SerialTest.{replayed, if_commits, transaction_after, serial_after, and_then as and_then_entry}
use Rattle.outage_schedule.specs.declared.document.Document.{Document}
use Rattle.outage_schedule.specs.declared.report.Report.{Report}
use Rattle.outage_schedule.specs.declared.report.ReportTable.{ReportTable}
use Rattle.run_clauses.specs.meaning.Before.{journal_before, shape, start}
use Rattle.run_clauses.specs.meaning.Serial.{printed_tables, same_report_table, are_printed, serial}
use Rattle.serial_check.specs.meaning.Places.{Course, Goes, Fails, piece_at, table_at, and_then, if_ends, pieces_course, after_entry, entries_course, table_place, place_after, serial_place}

-- the tables where a course goes to, if it does
abbrev tables_of : Course → Option (List PlainRow)
tables_of (Goes tables) = Some tables
tables_of (Fails place) = None

piece_same : (ends : Bool) (place : List ℕ) (meant : Option Meant) (next : Meant → Course) (on : Meant → Option (List PlainRow)) → ((m : Meant) → tables_of (next m) ≡ on m)
    → tables_of (and_then place (if_ends ends meant) next) ≡ if_commits ends meant on
piece_same true place None next on same = refl
piece_same true place (Some m) next on same = same m
piece_same false place None next on same = refl
piece_same false place (Some m) next on same = refl

pieces_same : (made : Shape) (before : List PlainRow) (settings : NamedValues) (n p : ℕ) (pieces : List Piece) → tables_of (pieces_course made before settings n p pieces) ≡ transaction_after made before settings pieces
pieces_same made before settings n p [] = refl
pieces_same made before settings n p (piece ∷ []) =
    piece_same (ends_committed piece.answers) (piece_at n p) (replayed made before settings piece) (λ meant. Goes meant.tables) (λ meant. Some meant.tables) (λ m. refl)
pieces_same made before settings n p (piece ∷ next ∷ more) =
    piece_same (not (ends_committed piece.answers)) (piece_at n p) (replayed made before settings piece)
    (λ meant. pieces_course made meant.tables meant.settings n (p + 1) (next ∷ more)) (λ meant. transaction_after made meant.tables meant.settings (next ∷ more))
    (λ m. pieces_same made m.tables m.settings n (p + 1) (next ∷ more))

entry_same : (course : Course) (after : Option (List PlainRow)) (next : List PlainRow → Course) (on : List PlainRow → Option (List PlainRow)) → tables_of course ≡ after → ((t : List PlainRow) → tables_of (next t) ≡ on t)
    → tables_of (after_entry course next) ≡ and_then_entry after on
entry_same (Fails place) after next on is same = ap (λ o. and_then_entry o on) is
entry_same (Goes tables) after next on is same = same tables ∙ ap (λ o. and_then_entry o on) is

entries_same : (made : Shape) (before : List PlainRow) (n : ℕ) (entries : List Entry) → tables_of (entries_course made before n entries) ≡ serial_after made before entries
entries_same made before n [] = refl
entries_same made before n (entry ∷ entries) =
    entry_same (pieces_course made before entry.settings n 0 entry.pieces) (transaction_after made before entry.settings entry.pieces)
    (λ between. entries_course made between (n + 1) entries) (λ between. serial_after made between entries)
    (pieces_same made before entry.settings n 0 entry.pieces) (λ between. entries_same made between (n + 1) entries)

one_table : (same : Bool) (place : List ℕ) (rest : Option (List ℕ)) (all : Bool) → is_none rest ≡ all → is_none (if same then rest else Some place) ≡ (same && all)
one_table true place rest all is = is
one_table false place rest all is = refl

pub tables_none : (n : ℕ) (printed tables : List ReportTable) → is_none (table_place n printed tables) ≡ pointwise same_report_table printed tables
tables_none n [] [] = refl
tables_none n [] (b ∷ tables) = refl
tables_none n (a ∷ printed) [] = refl
tables_none n (a ∷ printed) (b ∷ tables) =
    one_table (same_report_table a b) (table_at n) (table_place (n + 1) printed tables) (pointwise same_report_table printed tables) (tables_none (n + 1) printed tables)

after_none : (document : Document) (report : Report) (course : Course) → is_none (place_after document report course) ≡ are_printed (journal_before document).base report.tables (tables_of course)
after_none document report (Fails place) = refl
after_none document report (Goes tables) = tables_none 0 report.tables (printed_tables (journal_before document).base tables)

-- there is no place exactly where the clause holds
pub serial_none : (document : Document) (report : Report) → is_none (serial_place document report) ≡ serial document report
serial_none document report =
    after_none document report (entries_course (shape document) (start document) 0 report.entries)
    ∙ ap (are_printed (journal_before document).base report.tables) (entries_same (shape document) (start document) 0 report.entries)
