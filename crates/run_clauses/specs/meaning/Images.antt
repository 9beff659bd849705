-- The image that a report prints.
use Rattle.std.specs.Prelude.{ℕ, ◌==◌, ◌&&◌, ◌||◌, Bool, false, not, List, ◌++◌, Option, Some, None, Result, Ok, Err}
use Rattle.std.specs.Str.{bytes_eq}
use Rattle.std.specs.Cmp.Lexicographic.{pointwise}
use Rattle.svc_values.specs.meaning.Identifiers.{same_ltxid}
use Rattle.commit_log.specs.declared.journal.Journal.{Journal}
use Rattle.commit_log.specs.meaning.Journals.{journal_of}
use Rattle.outage_schedule.specs.declared.document.Document.{Document}
use Rattle.outage_schedule.specs.declared.report.Report.{Report}
use Rattle.run_clauses.specs.meaning.Before.{journal_before, tables_of}
use Rattle.run_clauses.specs.meaning.Comparing.{same_base, same_entry}
use Rattle.run_clauses.specs.meaning.Serial.{same_report_table, printed_tables}
use Rattle.run_clauses.specs.meaning.Horizons.{last_horizon}

-- It has the base, the entries, the blocks and the alert lines of the journal before the run,
-- followed by those of the report. (A report prints no writes: those of the image give the report's
-- tables.)
abbrev pub follows : Journal → Report → Journal → Bool
follows before report journal =
    same_base journal.base before.base
    && (pointwise same_entry journal.entries (before.entries ++ report.entries)
    && (pointwise same_ltxid journal.blocked (before.blocked ++ report.blocked)
    && (pointwise bytes_eq journal.alerts (before.alerts ++ report.alerts)
    && pointwise same_report_table report.tables (printed_tables before.base (tables_of journal)))))

abbrev pub is_after_run : Document → Report → Result Journal ℕ → Bool
is_after_run document report (Err place) = false
is_after_run document report (Ok journal) =
    follows (journal_before document) report journal
    && (journal.horizon == last_horizon document report)

abbrev pub has_journal : Document → Report → Option (List ℕ) → Bool
has_journal document report None = false
has_journal document report (Some image) = is_after_run document report (journal_of image)

-- With `print_image`, the journal of the report's image is that after the run.
abbrev pub image_fits : Document → Report → Bool
image_fits document report = not document.print_image || has_journal document report report.image
