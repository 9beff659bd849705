use Rattle.shown_clauses.specs.meaning.Parts.{has_its_sessions}
use Rattle.shown_clauses.specs.meaning.Showings.{has_its_showings}
use Rattle.shown_laws.proofs.judged.ReportsTold.{reports_hold, outcomes_listed}
use Rattle.shown_laws.proofs.reports.reports_list_parts.Goals as goal

pub returns : goal.returns
returns c = record {
  sessions = reports_hold c.steps_are_told.ensures.finishing has_its_sessions c.sessions_are_acquired.ensures;
  showings = reports_hold c.steps_are_told.ensures.finishing has_its_showings c.calls_are_shown.ensures;
  outcomes = outcomes_listed c.steps_are_told.ensures.finishing c.outcomes_are_taken.ensures;
}
