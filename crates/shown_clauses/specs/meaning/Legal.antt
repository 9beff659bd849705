-- Whether what a report tells of its service is legal, and whether it drew each value anew once.
use Rattle.std.specs.Prelude.{◌&&◌, Bool}
use Rattle.outage_schedule.specs.declared.document.Document.{Document}
use Rattle.outage_schedule.specs.declared.report.Report.{Report}
use Rattle.server_model.specs.meaning.Legal.{legal}
use Rattle.run_clauses.specs.meaning.ServiceBase.{service_base}
use Rattle.shown_clauses.specs.meaning.LegalItems.{items_of, outsides_fit}

-- `Legal` of a report: what was served is legal, with the report's entries and alerts.
abbrev pub legal_of : Document → Report → Bool
legal_of document report =
    outsides_fit document.schedule report.notes
    && legal (service_base document) (items_of document report) report.entries report.alerts
