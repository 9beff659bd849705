-- `Whole` is its lines: those on the reports and the steps, those on the parts of each client, and
-- those on whose turns sessions served.
use Rattle.std.specs.Prelude.{IsTrue}
use Rattle.outage_schedule.specs.declared.document.Document.{Document}
use Rattle.outage_schedule.specs.declared.report.Report.{Report}
use Rattle.run_clauses.specs.meaning.Before.{journal_before}
use Rattle.run_clauses.specs.meaning.Copies.{has_its_reports}
use Rattle.run_clauses.specs.meaning.EntryEvents.{stored_entries}
use Rattle.shown_clauses.specs.meaning.Parts.{has_its_sessions}
use Rattle.shown_clauses.specs.meaning.Showings.{has_its_showings, calls_served, have_identifiers}
use Rattle.shown_clauses.specs.meaning.Steps.{steps}
use Rattle.shown_clauses.specs.meaning.Whole.{are_taken, whole}
use Rattle.shown_laws.specs.ReportsTold.{of_parts}
use Rattle.shown_laws.specs.TurnReports.{turns_have_clients, of_turns, parts_turn_right, turns_have_requests}

-- a report of which each line holds
pub record HasLines (document : Document) (report : Report) : Type 0 where
  pub reports : IsTrue (has_its_reports document report)
  pub taken : IsTrue (are_taken (steps report))
  pub clients : IsTrue (turns_have_clients document report)
  pub sessions : IsTrue (of_parts has_its_sessions document report)
  pub showings : IsTrue (of_parts has_its_showings document report)
  pub served : IsTrue (of_parts calls_served document report)
  pub identifiers : IsTrue (of_parts (have_identifiers (journal_before document).entries
      (stored_entries report)) document report)
  pub turns : IsTrue (of_turns parts_turn_right document report)
  pub requests : IsTrue (of_turns turns_have_requests document report)

abbrev pub LinesMakeWhole : Type 0
LinesMakeWhole = (document : Document) (report : Report) → HasLines document report
    → IsTrue (whole document report)
