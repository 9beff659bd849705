use Rattle.std.proofs.Common.{◌≡◌, ◌∙◌, ◌+◌, List, [], ◌∷◌, ◌++◌, map, take, drop, sym, ap, subst}
use Rattle.std.proofs.lemmas.List.{take-append-drop, take_more, map-append}
use Rattle.outage_schedule.specs.declared.request.RequestReport.{RequestReport}
use Rattle.transcript_core.specs.Following.{IsNext}
use Rattle.shown_clauses.specs.meaning.Submissions.{Submission}
use Rattle.shown_clauses.specs.meaning.Cover.{counts_of}
use Rattle.cover_core.specs.Walks.{client_cover}
use Rattle.cover_core.proofs.Walking.{submissions_in, none_submitted, submissions_more, submissions_over, all_there}
use Rattle.cover_core.proofs.walk.counts_of_client.Goals as goal

pub loop-report-init : goal.loop-report-init
loop-report-init c = record { next = c.first-next.ensures; so_far = c.new-counts.ensures.items ∙ ap (map (counts_of c.args.of.now)) (sym (none_submitted c.args.script.now)) }

pub counts_of-requires : goal.counts_of-requires
counts_of-requires c = record { made = all_there _ c.args.script.now _ _ (sym c.in-Some.ensures.at_place) c.requires }

pub returns-in-None : goal.returns-in-None
returns-in-None c =
    let script = c.args.script.now in
    let reports = c.args.reports.now in
    let i = c.loop-report.report-index in
    let over = sym (c.in-None.ensures.next (take i reports) c.loop-report.invariant.next) in
    c.from_vec.ensures
    ∙ (c.loop-report.invariant.so_far
    ∙ (ap (map (counts_of c.args.of.now)) (sym (submissions_over script (take i reports) (drop i reports) over))
    ∙ ap (client_cover c.args.of.now script) (take-append-drop i reports)))

pub loop-report-preserved : goal.loop-report-preserved
loop-report-preserved c =
    let of = c.args.of.now in
    let script = c.args.script.now in
    let reports = c.args.reports.now in
    let report = c.report-item.result in
    let request = c.in-Some.request.now in
    let i = c.loop-report.report-index in
    let one_more : take (i + 1) reports ≡ take i reports ++ report ∷ [] = take_more reports i report c.loop-report-test.true ∙ ap (λ (r : RequestReport). take i reports ++ r ∷ []) (sym c.report-item.is) in
    let follows = sym (c.in-Some.ensures.next (take i reports) c.loop-report.invariant.next) in
    let last : List Submission = record { request = request; copy = report } ∷ [] in
    record {
      next = subst (λ (all : List RequestReport). IsNext script all c.follow.new.self) (sym one_more) (c.follow.ensures (take i reports) c.loop-report.invariant.next);
      so_far = c.in_ok-push-in-Some.ensures.items
          ∙ (ap (λ counts. counts ++ c.counts_of.result ∷ []) c.loop-report.invariant.so_far
          ∙ (ap (λ one. client_cover of script (take i reports) ++ one ∷ []) c.counts_of.ensures
          ∙ (sym (map-append (counts_of of) (submissions_in script (take i reports)) last)
          ∙ (ap (map (counts_of of)) (sym (submissions_more script (take i reports) request report follows))
          ∙ ap (client_cover of script) (sym one_more)))));
    }
