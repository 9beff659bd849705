-- The form that the reports of runs have.
use Rattle.std.specs.Prelude.{◌&&◌, Bool, true, nat_le, IsTrue}
use Rattle.std.specs.List.{list_all}
use Rattle.outage_schedule.specs.declared.item.Item.{Item}
use Rattle.outage_schedule.specs.declared.item.Item.TheVariants as item
use Rattle.outage_schedule.specs.declared.item.Served.{Served}
use Rattle.svc_values.specs.declared.entry.Piece.{Piece}
use Rattle.svc_values.specs.declared.entry.Entry.{Entry}
use Rattle.outage_schedule.specs.declared.report.Report.{Report}
use Rattle.report_text.specs.meaning.Octets.{ReportOfBytes}
use Rattle.told_reports.specs.Keeping.{IsTold}
use Rattle.report_limits.specs.meaning.Limits.{fits_u64, fits_line, fits_identifier, fits_session, fits_settings, fits_replies}
use Rattle.report_limits.specs.meaning.Notes.{fits_told, fits_note}
use Rattle.report_limits.specs.meaning.Requests.{fits_request}
use Rattle.report_limits.specs.meaning.Reports.{fits_table}
use Rattle.reading_laws.specs.Calls.{fits_call}

-- ---- entries

abbrev pub fits_piece : Piece → Bool
fits_piece piece = fits_call piece.call && fits_replies piece.answers piece.draws

abbrev pub fits_entry : Entry → Bool
fits_entry entry = fits_identifier entry.ltxid
    && (fits_settings entry.settings && list_all fits_piece entry.pieces)

-- ---- served items

-- a frame is refused for cause 1 or 2
abbrev pub fits_item : Item → Bool
fits_item (item.Begin settings) = fits_settings settings
fits_item (item.Call replay call answers draws) = fits_call call && fits_replies answers draws
fits_item (item.Blocked call) = fits_call call
fits_item (item.Outcome x result) = fits_identifier x && fits_told result
fits_item (item.Refused cause) = nat_le 1 cause && nat_le cause 2
fits_item (item.CrashedCall replay call) = fits_call call
fits_item (item.CrashedOutcome x) = fits_identifier x
fits_item _ = true

abbrev pub fits_served : Served → Bool
fits_served one = fits_u64 one.event && (fits_session one.session && fits_item one.item)

-- ---- reports

-- The octets are bytes, each part keeps to its limits, and items, settings and calls keep to what
-- reports do.
pub record IsOfForm (report : Report) : Type 0 where
  pub octets : ReportOfBytes report
  pub alerts : IsTrue (list_all fits_line report.alerts)
  pub blocked : IsTrue (list_all fits_identifier report.blocked)
  pub clients : IsTrue (list_all (list_all fits_request) report.clients)
  pub entries : IsTrue (list_all fits_entry report.entries)
  pub forgotten : IsTrue (fits_u64 report.forgotten)
  pub notes : IsTrue (list_all fits_note report.notes)
  pub served : IsTrue (list_all fits_served report.served)
  pub tables : IsTrue (list_all fits_table report.tables)
  pub told : IsTold report
