use Rattle.std.proofs.Common.{◌≡◌, ◌∙◌, Bool, List, length, map, sym, ap, subst}
use Rattle.std.specs.Prelude.{◌&&◌, is_none, IfOk}
use Rattle.std.specs.List.{list_all, flat_map}
use Rattle.entry_events.specs.Numbering.{up_to}
use Rattle.outage_schedule.specs.declared.document.Client.{Client}
use Rattle.outage_schedule.specs.declared.request.RequestReport.{RequestReport}
use Rattle.run_clauses.specs.meaning.Copies.{are_in_script_order, copies_by_client}
use Rattle.shown_clauses.specs.meaning.Submissions.{submissions_of}
use Rattle.report_parts.specs.declared.submitting.Submissions.{Submissions}
use Rattle.report_story.specs.Views.{step_as}
use Rattle.whole_check.specs.Judging.{shows_own, is_told_right}
use Rattle.whole_check.specs.Views.{submissions_as}
use Rattle.whole_check.proofs.WholeLines.{whole_is, whole_not, whole_long, some_of, none_of}
use Rattle.whole_check.proofs.judge.wrong_place.Goals as goal

pub returns-then-clients-transcripts : goal.returns-then-clients-transcripts
returns-then-clients-transcripts c =
    sym (whole_long c.args.document.now c.args.report.now
    (λ same. c.if-clients-transcripts.true (ap (λ (l : List Client). length l) c.as_slice-clients.ensures ∙ (same ∙ sym (ap (λ (l : List (List RequestReport)). length l) c.as_slice-transcripts.ensures)))))

pub returns-then-is_some : goal.returns-then-is_some
returns-then-is_some c =
    let document = c.args.document.now in
    let report = c.args.report.now in
    let lists = map submissions_as c.in_ok-all.all.items in
    let are = c.in_ok-all.ensures.all ∙ (λ i. map (flat_map submissions_of) (copies_by_client (c.as_slice-clients.ensures i) (c.as_slice-transcripts.ensures i))) in
    let order = c.in_ok-all.ensures.order ∙ (λ i. are_in_script_order (c.as_slice-clients.ensures i) (c.as_slice-transcripts.ensures i)) in
    let told =
    c.wrong_report-place.ensures
    ∙ (ap (λ (all : List Submissions). list_all (λ (one : Submissions). one.is_in_order) all && list_all (list_all shows_own) (map submissions_as all)) c.as_slice.ensures.value
    ∙ ap (λ b. b && list_all (list_all shows_own) lists) order) in
    let some = some_of c.wrong_report-place.result (sym c.is_some.ensures ∙ c.if-is_some.true) in
    some ∙ sym (whole_not document report lists are (sym told ∙ some))

pub returns : goal.returns
returns c =
    let document = c.args.document.now in
    let report = c.args.report.now in
    let lists = map submissions_as c.in_ok-all.all.items in
    let are = c.in_ok-all.ensures.all ∙ (λ i. map (flat_map submissions_of) (copies_by_client (c.as_slice-clients.ensures i) (c.as_slice-transcripts.ensures i))) in
    let order = c.in_ok-all.ensures.order ∙ (λ i. are_in_script_order (c.as_slice-clients.ensures i) (c.as_slice-transcripts.ensures i)) in
    let told =
    c.wrong_report-place.ensures
    ∙ (ap (λ (all : List Submissions). list_all (λ (one : Submissions). one.is_in_order) all && list_all (list_all shows_own) (map submissions_as all)) c.as_slice.ensures.value
    ∙ ap (λ b. b && list_all (list_all shows_own) lists) order) in
    let none = none_of c.wrong_report-place.result (sym c.is_some.ensures ∙ c.if-is_some.false) in
    let numbers = up_to c.in_ok-told.told.numbers in
    let seen = map step_as c.in_ok-told.told.story.steps.items in
    let turned = c.in_ok-told.told.story.turns.items in
    let is =
    ap (λ (all : List Submissions). is_told_right numbers seen turned (map submissions_as all)) c.as_slice-2.ensures.value
    ∙ whole_is document report lists numbers seen turned are (sym told ∙ none) c.in_ok-told.ensures.numbers c.in_ok-told.ensures.steps c.in_ok-told.ensures.turns in
    subst (λ (b : Bool). IfOk c.wrong_told.result (λ place. is_none place ≡ b)) is c.wrong_told.ensures
