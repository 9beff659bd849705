-- The report of a run, read off the store at its end.
use Rattle.std.specs.Prelude.{◌≡◌, ◌+◌, ◌<◌, ◌^◌, ℕ, Bool, true, false, List, drop, map, None, Ok}
use Rattle.svc_values.specs.declared.schema.Schema.{Schema}
use Rattle.svc_values.specs.declared.tables.PlainRow.{PlainRow}
use Rattle.svc_values.specs.declared.tables.Place.TheVariants as place
use Rattle.svc_values.specs.meaning.Tables.{rows_at}
use Rattle.outage_schedule.specs.declared.report.Report.{Report}
use Rattle.outage_schedule.specs.declared.report.ReportTable.{ReportTable}
use Rattle.commit_log.specs.declared.journal.Journal.{Journal}
use Rattle.commit_log.specs.meaning.Journals.{journal_of}
use Rattle.run_clauses.specs.meaning.Before.{tables_of}
use Rattle.run_clauses.specs.meaning.Serial.{printed_tables}
use Rattle.server_model.specs.Seen.{Seen}
use Rattle.continuity_run.specs.declared.store.Before.{Before}
use Rattle.continuity_run.specs.meaning.Headline.{image_if}
use Rattle.world_run.specs.declared.world.Ran.{Ran}

-- So many calls more may be made on the service, and none of them is stopped: nothing but a stop
-- makes its disk fail, and none is set.
pub record MayBeRead (sees : Seen → Type 0) (calls : ℕ) : Type 0 where
  pub seen : Seen
  pub seen_so : sees seen
  pub live : seen.state.is_spent ≡ false
  pub quiet : seen.state.is_quiet ≡ true
  pub unstopped : seen.state.stop ≡ None
  pub few : seen.state.calls + calls < 2 ^ 48

-- a declared table as a report prints it: its rows in order of key
abbrev pub printed_by : List PlainRow → Schema → ReportTable
printed_by tables schema = record {
  name = schema.name;
  rows = map (λ one. one.row) (rows_at tables (place.Table schema.name));
}

-- The store of a run that is over has these bytes. The report has what their journal has more than
-- stood there before event 1, the horizon, and the tables after the last entry; what the events
-- did, what was served, and what clients were shown are those of the run.
pub record IsReadOff {S : Type 0} (bytes : List ℕ) (before : Before) (print_image : Bool)
    (ran : Ran S) (report : Report) : Type 0 where
  pub journal : Journal
  pub reads : journal_of bytes ≡ Ok journal
  pub entries : report.entries ≡ drop before.entries journal.entries
  pub blocked : report.blocked ≡ drop before.blocked journal.blocked
  pub alerts : report.alerts ≡ drop before.alerts journal.alerts
  pub forgotten : report.forgotten ≡ journal.horizon
  pub tables : report.tables ≡ printed_tables journal.base (tables_of journal)
  pub image : report.image ≡ image_if print_image bytes
  pub notes : report.notes ≡ ran.notes
  pub served : report.served ≡ ran.served
  pub clients : report.clients ≡ ran.clients
