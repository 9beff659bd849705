-- What reading says of reports, and what is said of each report that was read.
use Rattle.std.specs.Prelude.{◌≡◌, Ok}
use Rattle.serde_json.specs.Data.{Data}
use Rattle.outage_schedule.specs.declared.document.Document.{Document}
use Rattle.outage_schedule.specs.declared.report.Report.{Report}
use Rattle.report_reader.specs.meaning.Reports.{report_of}
use Rattle.told_reports.specs.Keeping.{IsTold}

-- each report that was read keeps to what reports do
abbrev pub IsReadAsTold : Type 0
IsReadAsTold = (document : Document) (d : Data) (report : Report) → report_of document d ≡ Ok report
    → IsTold report
