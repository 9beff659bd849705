-- What a written report tells.
use Rattle.std.specs.Prelude.{◌≡◌, [], map}
use Rattle.svc_values.specs.declared.entry.Entry.{Entry}
use Rattle.outage_schedule.specs.declared.report.Report.{Report}
use Rattle.serde_json.specs.Written.{compact_text}
use Rattle.report_text.specs.Numbers.{HasShortNumbers}
use Rattle.report_text.specs.meaning.Octets.{ReportOfBytes}
use Rattle.report_text.specs.meaning.Report.{report_value}

-- The entry without its writes, which no report shows.
abbrev pub shown_entry : Entry → Entry
shown_entry entry = record entry { writes = [] }

-- What a report shows: all of it but the writes of its entries.
abbrev pub shown_report : Report → Report
shown_report report = record report { entries = map shown_entry report.entries }

-- one JSON value is that of one report
abbrev pub IsOfOneReport : Type 0
IsOfOneReport = (a b : Report) → ReportOfBytes a → ReportOfBytes b → report_value a ≡ report_value b
    → shown_report a ≡ shown_report b

-- one text is that of one report
abbrev pub IsTextOfOneReport : Type 0
IsTextOfOneReport = (a b : Report) → ReportOfBytes a → ReportOfBytes b
    → HasShortNumbers (report_value a) → HasShortNumbers (report_value b)
    → compact_text (report_value a) ≡ compact_text (report_value b)
    → shown_report a ≡ shown_report b
