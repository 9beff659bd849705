use Rattle.std.proofs.Common.{◌≡◌, [], Some, option_map, List, true, codes, length, sym, ap, subst, ◌∙◌, rules}
use Rattle.std.specs.List.{list_all}
use Rattle.std.specs.Option.{unwrap_or}
use Rattle.json_form.specs.Faults.{Gives}
use Rattle.json_form.specs.meaning.Objects.{named}
use Rattle.outage_schedule.specs.declared.document.Client.{Client}
use Rattle.outage_schedule.specs.declared.document.Document.{Document}
use Rattle.outage_schedule.specs.declared.event.Event.{Event}
use Rattle.document_forms.specs.Keeping.{fits}
use Rattle.doc_reader.specs.meaning.Counts.{if_small}
use Rattle.doc_reader.specs.meaning.Documents.{document_with}
use Rattle.json_form.proofs.Offered.{given}
use Rattle.doc_reader.proofs.OneByOne.{of_given}
use Rattle.document_forms.proofs.Offered.{as_they_fit}
use Rattle.doc_reader.proofs.Joined.{document_joined}
use Rattle.doc_reader.proofs.streamed.joined.Goals as goal

pub returns : goal.returns
returns c =
    let cs = c.in_ok-clients.clients in
    let begin = c.in_ok-begin.begin in
    let events = c.unwrap_or-events.result in
    let there : c.args.ahead.clients ≡ Some cs = search rules in
    let last : events ≡ unwrap_or c.args.ahead.schedule [] = search rules in
    let sliced : c.as_slice.result.now ≡ events = search rules in
    let counted : c.len-count.result ≡ length cs = search rules in
    let judged : list_all (fits c.len-count.result begin.service.standby) c.as_slice.result.now ≡ true = search rules in
    let fit : list_all (fits (length cs) begin.service.standby) (unwrap_or c.args.ahead.schedule []) ≡ true =
    ap (λ n. list_all (fits n begin.service.standby) (unwrap_or c.args.ahead.schedule [])) (sym counted) ∙ ap (list_all (fits c.len-count.result begin.service.standby)) (sym last ∙ sym sliced) ∙ judged in
    let whole : Gives c.small.result (if_small (document_with begin cs events)) = subst (λ (d : Document). Gives c.small.result (if_small d)) c.document_with.ensures c.small.ensures in
    of_given _ c.small.result c.ok.result (if_small (document_with begin cs events)) c.ok.ensures.value whole
    (λ document small ms all are.
    let read = as_they_fit 64 (length cs) begin.service.standby (named ms (codes "schedule")) c.args.ahead.schedule are.schedule fit in
    document_joined ms cs begin events document all (are.clients ∙ ap (option_map (given {A = List Client})) there) (c.in_ok-begin.ensures (named ms) are.others are.tables) (read ∙ ap (given {A = List Event}) (sym last)) small)
