-- What is read of a report that was written.
use Rattle.std.specs.Prelude.{◌≡◌, Ok, is_some}
use Rattle.serde_json.specs.Data.{Data}
use Rattle.outage_schedule.specs.declared.document.Document.{Document}
use Rattle.outage_schedule.specs.declared.report.Report.{Report}
use Rattle.report_reader.specs.meaning.Reports.{report_of}
use Rattle.report_text.specs.meaning.Report.{report_value}
use Rattle.report_text.specs.Laws.{shown_report}
use Rattle.reading_laws.specs.Reports.{IsOfForm}

-- A report of the form, which has the disk's bytes exactly where the document asks for them, is
-- read of what is written of it, but for the writes of its entries.
abbrev pub ReadsWhatIsWritten : Type 0
ReadsWhatIsWritten =
    (document : Document) (r : Report) → IsOfForm r → is_some r.image ≡ document.print_image
    → report_of document (report_value r) ≡ Ok (shown_report r)

-- Whatever is read of what is written of a report is that report, but for the writes of its
-- entries.
abbrev pub ReadsNothingElse : Type 0
ReadsNothingElse = (document : Document) (r other : Report)
    → report_of document (report_value r) ≡ Ok other → other ≡ shown_report r

-- each report that was read has the form
abbrev pub ReadsOnlyTheForm : Type 0
ReadsOnlyTheForm = (document : Document) (d : Data) (r : Report) → report_of document d ≡ Ok r
    → IsOfForm r
