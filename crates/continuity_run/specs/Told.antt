-- What the text of a report tells.
use Rattle.std.specs.Prelude.{◌≡◌, ℕ, List}
use Rattle.outage_schedule.specs.declared.document.Document.{Document}
use Rattle.report_text.specs.Laws.{shown_report}
use Rattle.report_text.specs.meaning.Report.{report_value}
use Rattle.continuity_run.specs.meaning.Clauses.{IsReported}

-- A text is that of one JSON value, of whichever documents it is the report.
abbrev pub TellsOneValue : Type 0
TellsOneValue = (document other : Document) (text : List ℕ) (first : IsReported document text)
    (second : IsReported other text) → report_value first.report ≡ report_value second.report

-- So it is that of one report, but for its entries' writes, which are not shown.
abbrev pub TellsOneReport : Type 0
TellsOneReport = (document other : Document) (text : List ℕ) (first : IsReported document text)
    (second : IsReported other text) → shown_report first.report ≡ shown_report second.report
