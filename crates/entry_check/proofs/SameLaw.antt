-- `Same` of a report, by what its document and its entries are read as.
use Rattle.std.proofs.Common.{◌≡◌, Bool, List, sym, ap, ◌∙◌}
use Rattle.std.specs.List.{list_all}
use Rattle.svc_values.specs.declared.draw.Draw.{Draw}
use Rattle.svc_values.specs.declared.entry.Entry.{Entry}
use Rattle.commit_log.specs.declared.base.BaseSequence.{BaseSequence}
use Rattle.outage_schedule.specs.declared.document.Client.{Client}
use Rattle.outage_schedule.specs.declared.document.Document.{Document}
use Rattle.outage_schedule.specs.declared.request.RequestReport.{RequestReport}
use Rattle.outage_schedule.specs.declared.report.Report.{Report}
use Rattle.server_model.specs.meaning.NewValues.{grants}
use Rattle.run_clauses.specs.meaning.Before.{journal_before}
use Rattle.run_clauses.specs.meaning.ServiceBase.{service_base}
use Rattle.run_clauses.specs.meaning.Copies.{copies_by_client}
use Rattle.run_clauses.specs.meaning.Same.{are_same_copies, same}
use Rattle.entry_check.specs.InnerGranting.{keeps}
use Rattle.entry_check.proofs.Granted.{grants_is}

pub same_as : (document : Document) (report : Report) (sequences : List BaseSequence) (entries : List Entry) (clients : List Client) (transcripts : List (List RequestReport))
    → sequences ≡ (journal_before document).base.sequences → entries ≡ report.entries → clients ≡ document.clients → transcripts ≡ report.clients
    → list_all (list_all (are_same_copies (keeps document.service.keep sequences) entries)) (copies_by_client clients transcripts) ≡ same document report
same_as document report sequences entries clients transcripts sequences_are entries_are clients_are transcripts_are =
    let kept = keeps document.service.keep in
    ap (λ (list : List BaseSequence). list_all (list_all (are_same_copies (kept list) entries)) (copies_by_client clients transcripts)) sequences_are
    ∙ ap (λ (granted : Draw → Bool). list_all (list_all (are_same_copies granted entries)) (copies_by_client clients transcripts)) (sym (grants_is document))
    ∙ ap (λ (list : List Entry). list_all (list_all (are_same_copies (grants (service_base document)) list)) (copies_by_client clients transcripts)) entries_are
    ∙ ap (λ (list : List Client). list_all (list_all (are_same_copies (grants (service_base document)) report.entries)) (copies_by_client list transcripts)) clients_are
    ∙ ap (λ (list : List (List RequestReport)). list_all (list_all (are_same_copies (grants (service_base document)) report.entries)) (copies_by_client document.clients list)) transcripts_are
