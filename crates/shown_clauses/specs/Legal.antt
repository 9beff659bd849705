-- Whether what a report tells of its service is legal, and whether it drew each value anew once.
-- Here is what contracts and proofs say of it besides.
use Rattle.std.specs.Prelude.{Bool}
use Rattle.outage_schedule.specs.declared.document.Document.{Document}
use Rattle.outage_schedule.specs.declared.report.Report.{Report}
use Rattle.server_model.specs.meaning.Fresh.{fresh_new}
use Rattle.run_clauses.specs.meaning.ServiceBase.{service_base}
use Rattle.shown_clauses.specs.meaning.LegalItems.{items_of}

-- `fresh_new` of what was served
abbrev pub fresh_new_of : Document → Report → Bool
fresh_new_of document report = fresh_new (service_base document) (items_of document report)
    report.entries
