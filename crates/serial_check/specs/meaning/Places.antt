-- Where a report first fails to be a serial run of fresh values: JSON Pointers from the report's
-- root.
use Rattle.std.specs.Prelude.{ℕ, ◌+◌, ◌&&◌, Bool, true, false, not, List, [], ◌∷◌, ◌++◌, Option, Some, None, if◌then◌else◌, codes, decimal}
use Rattle.std.specs.List.{list_any}
use Rattle.svc_values.specs.declared.schema.Shape.{Shape}
use Rattle.svc_values.specs.declared.draw.Draw.{Draw}
use Rattle.svc_values.specs.declared.entry.Entry.{Entry}
use Rattle.svc_values.specs.declared.entry.Piece.{Piece}
use Rattle.svc_values.specs.declared.tables.PlainRow.{PlainRow}
use Rattle.svc_values.specs.meaning.Endings.{ends_committed}
use Rattle.svc_values.specs.meaning.Same.{same_draw}
use Rattle.svc_values.specs.meaning.SettingsList.{NamedValues}
use Rattle.stmt_meaning.specs.meaning.Meaning.{Meant}
use Rattle.stmt_meaning.specs.meaning.SerialTest.{replayed}
use Rattle.server_model.specs.meaning.Fresh.{draws_of, is_single}
use Rattle.outage_schedule.specs.declared.document.Document.{Document}
use Rattle.outage_schedule.specs.declared.report.Report.{Report}
use Rattle.outage_schedule.specs.declared.report.ReportTable.{ReportTable}
use Rattle.run_clauses.specs.meaning.Before.{journal_before, shape, start}
use Rattle.run_clauses.specs.meaning.Serial.{printed_tables, same_report_table}

-- ---- pointers

abbrev pub entry_at : ℕ → List ℕ
entry_at n = codes "/entries/" ++ decimal n

abbrev pub piece_at : ℕ → ℕ → List ℕ
piece_at n p = entry_at n ++ (codes "/pieces/" ++ decimal p)

abbrev pub table_at : ℕ → List ℕ
table_at n = codes "/tables/" ++ decimal n

-- ---- Serial

-- the tables after, or the place of the first failure
pub data Course : Type 0 where
  Goes : (tables : List PlainRow) → Course
  Fails : (place : List ℕ) → Course

-- The pieces of entry n from the p-th on. A piece fails that its call does not mean, and one that
-- commits and is not the last, or is the last and does not commit. An entry fails that has no
-- piece.
abbrev pub and_then : List ℕ → Option Meant → (Meant → Course) → Course
and_then place None next = Fails place
and_then place (Some meant) next = next meant

abbrev pub if_ends : Bool → Option Meant → Option Meant
if_ends true meant = meant
if_ends false meant = None

abbrev pub pieces_course : Shape → List PlainRow → NamedValues → ℕ → ℕ → List Piece → Course
pieces_course shape before settings n p [] = Fails (entry_at n)
pieces_course shape before settings n p (piece ∷ []) =
    and_then (piece_at n p) (if_ends (ends_committed piece.answers)
    (replayed shape before settings piece)) (λ meant. Goes meant.tables)
pieces_course shape before settings n p (piece ∷ next ∷ more) =
    and_then (piece_at n p) (if_ends (not (ends_committed piece.answers))
    (replayed shape before settings piece))
    (λ meant. pieces_course shape meant.tables meant.settings n (p + 1) (next ∷ more))

abbrev pub after_entry : Course → (List PlainRow → Course) → Course
after_entry (Fails place) next = Fails place
after_entry (Goes tables) next = next tables

abbrev pub entries_course : Shape → List PlainRow → ℕ → List Entry → Course
entries_course shape before n [] = Goes before
entries_course shape before n (entry ∷ entries) =
    after_entry (pieces_course shape before entry.settings n 0 entry.pieces)
    (λ between. entries_course shape between (n + 1) entries)

-- The first table that is printed otherwise, and where only their number differs, the tables.
abbrev pub table_place : ℕ → List ReportTable → List ReportTable → Option (List ℕ)
table_place n [] [] = None
table_place n (a ∷ printed) (b ∷ tables) =
    if same_report_table a b then table_place (n + 1) printed tables else Some (table_at n)
table_place n _ _ = Some (codes "/tables")

abbrev pub place_after : Document → Report → Course → Option (List ℕ)
place_after document report (Fails place) = Some place
place_after document report (Goes tables) =
    table_place 0 report.tables (printed_tables (journal_before document).base tables)

-- None exactly where `serial` holds
abbrev pub serial_place : Document → Report → Option (List ℕ)
serial_place document report = place_after document report
    (entries_course (shape document) (start document) 0 report.entries)

-- ---- Fresh

-- a value that stands among those before
abbrev pub is_drawn_before : List Draw → Draw → Bool
is_drawn_before before one = is_single one && list_any (same_draw one) before

-- of the draws of one piece, one stands before: in an earlier piece, or earlier in this one
abbrev pub draws_again : List Draw → List Draw → Bool
draws_again before [] = false
draws_again before (one ∷ draws) = if is_drawn_before before one then true else draws_again
    (one ∷ before) draws

abbrev pub or_next : Bool → List ℕ → Option (List ℕ) → Option (List ℕ)
or_next true place next = Some place
or_next false place next = next

abbrev pub fresh_pieces : List Draw → ℕ → ℕ → List Piece → Option (List ℕ)
fresh_pieces before n p [] = None
fresh_pieces before n p (piece ∷ pieces) =
    or_next (draws_again before piece.draws) (piece_at n p)
    (fresh_pieces (before ++ piece.draws) n (p + 1) pieces)

abbrev pub or_later : Option (List ℕ) → Option (List ℕ) → Option (List ℕ)
or_later (Some place) later = Some place
or_later None later = later

abbrev pub fresh_entries : List Draw → ℕ → List Entry → Option (List ℕ)
fresh_entries before n [] = None
fresh_entries before n (entry ∷ entries) =
    or_later (fresh_pieces before n 0 entry.pieces)
    (fresh_entries (before ++ draws_of entry) (n + 1) entries)

-- None exactly where `fresh` holds
abbrev pub fresh_place : Report → Option (List ℕ)
fresh_place report = fresh_entries [] 0 report.entries
