-- What the types of a report keep. (That a call can be made, and that each insert of it has a
-- value, is no part of it: its document says so.)
use Rattle.std.specs.Prelude.{◌&&◌, Bool, true, IsTrue, None}
use Rattle.std.specs.List.{list_all}
use Rattle.svc_values.specs.meaning.SettingsList.{NamedValues}
use Rattle.svc_values.specs.meaning.Texts.{is_name}
use Rattle.outage_schedule.specs.declared.item.Item.{Item}
use Rattle.outage_schedule.specs.declared.item.Item.TheVariants as item
use Rattle.outage_schedule.specs.declared.item.Served.{Served}
use Rattle.svc_values.specs.declared.entry.Piece.{Piece}
use Rattle.svc_values.specs.declared.entry.Entry.{Entry}
use Rattle.outage_schedule.specs.declared.report.ReportTable.{ReportTable}
use Rattle.outage_schedule.specs.declared.report.Report.{Report}
use Rattle.report_text.specs.meaning.Octets.{ReportOfBytes}
use Rattle.told_reports.specs.meaning.Settings.{names_rise}
use Rattle.report_limits.specs.meaning.Limits.{fits_u64, fits_line, fits_row, fits_identifier, fits_session, fits_settings, fits_replies}
use Rattle.report_limits.specs.meaning.Notes.{fits_told, fits_note}
use Rattle.report_limits.specs.meaning.Requests.{fits_request}

-- the names rise, and the settings keep to their limits
abbrev pub settings_fit : NamedValues → Bool
settings_fit settings = names_rise None settings && fits_settings settings

-- ---- entries

abbrev pub piece_fits : Piece → Bool
piece_fits piece = fits_replies piece.answers piece.draws

abbrev pub entry_fits : Entry → Bool
entry_fits entry = fits_identifier entry.ltxid
    && (settings_fit entry.settings && list_all piece_fits entry.pieces)

-- ---- served items

abbrev pub item_fits : Item → Bool
item_fits (item.Begin settings) = settings_fit settings
item_fits (item.Call replay call answers draws) = fits_replies answers draws
item_fits (item.Outcome x result) = fits_identifier x && fits_told result
item_fits (item.CrashedOutcome x) = fits_identifier x
item_fits _ = true

abbrev pub served_fits : Served → Bool
served_fits one = fits_u64 one.event && (fits_session one.session && item_fits one.item)

-- ---- reports

abbrev pub fits_table : ReportTable → Bool
fits_table table = is_name table.name && list_all fits_row table.rows

-- octets are bytes; numbers, names, texts, octets, rows and answers keep to their limits; and
-- settings rise
pub record KeepsLimits (report : Report) : Type 0 where
  pub octets : ReportOfBytes report
  pub alerts : IsTrue (list_all fits_line report.alerts)
  pub blocked : IsTrue (list_all fits_identifier report.blocked)
  pub clients : IsTrue (list_all (list_all fits_request) report.clients)
  pub entries : IsTrue (list_all entry_fits report.entries)
  pub forgotten : IsTrue (fits_u64 report.forgotten)
  pub notes : IsTrue (list_all fits_note report.notes)
  pub served : IsTrue (list_all served_fits report.served)
  pub tables : IsTrue (list_all fits_table report.tables)
