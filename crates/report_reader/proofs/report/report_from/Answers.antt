use Rattle.serde_json.specs.View.{view}
use Rattle.report_reader.proofs.ReadReports.{told}
use Rattle.report_reader.proofs.report.report_from.Goals as goal

pub returns-clause-told : goal.returns-clause-told
returns-clause-told c =
    told c.args.document.now (view c.args.value) c.as_bad.result (c.as_bad.ensures _ c.report_in_form.ensures)
