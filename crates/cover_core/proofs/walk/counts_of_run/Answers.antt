use Rattle.std.proofs.Common.{◌∙◌, ◌+◌, List, [], ◌∷◌, ◌++◌, drop, sym, ap}
use Rattle.std.specs.List.{list_all}
use Rattle.std.proofs.lemmas.List.{drop_more}
use Rattle.json_form.proofs.Offered.{second_true}
use Rattle.shown_clauses.specs.meaning.Cover.{Counts}
use Rattle.cover_core.specs.Made.{has_made_requests}
use Rattle.cover_core.specs.Walks.{client_cover, clients_cover}
use Rattle.cover_core.proofs.Clients.{client_more}
use Rattle.cover_core.proofs.walk.counts_of_run.Goals as goal

pub loop-place-preserved : goal.loop-place-preserved
loop-place-preserved c =
    let of = c.args.of.now in
    let clients = c.args.clients.now in
    let transcripts = c.args.transcripts.now in
    let place = c.loop-place.place in
    let client = c.index-clients-place.result in
    let all = c.loop-place.all.items in
    let rest : List (List Counts) = clients_cover of (drop (place + 1) clients) (drop (place + 1) transcripts) in
    let with_one : List Counts → List (List Counts) = λ own. (all ++ own ∷ []) ++ rest in
    record {
      so_far = ap (λ now. now ++ rest) c.in_ok-push.ensures.items
          ∙ (ap with_one c.in_ok-counts_of_client.ensures
          ∙ (ap (λ script. with_one (client_cover of script c.reports_at-reports.result.now)) c.as_slice.ensures
          ∙ (ap (λ reports. with_one (client_cover of client.requests reports)) c.reports_at-reports.ensures
          ∙ (client_more of clients transcripts place client all c.loop-place-test.true c.index-clients-place.is
          ∙ c.loop-place.invariant.so_far))));
      made = second_true (has_made_requests client) (list_all has_made_requests (drop (place + 1) clients))
          (ap (λ (one : _). list_all has_made_requests (one ∷ drop (place + 1) clients)) c.index-clients-place.is ∙ (ap (list_all has_made_requests) (sym (drop_more clients place client c.loop-place-test.true)) ∙ c.loop-place.invariant.made));
    }
