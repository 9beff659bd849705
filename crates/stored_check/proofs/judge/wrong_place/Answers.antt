use Rattle.std.proofs.Common.{◌≡◌, ◌∙◌, ◌++◌, ◌&&◌, Bool, List, sym, ap, subst}
use Rattle.std.specs.Prelude.{is_none, IfOk}
use Rattle.std.specs.List.{list_all}
use Rattle.svc_values.specs.declared.entry.Ltxid.{Ltxid}
use Rattle.commit_log.specs.declared.journal.Journal.{Journal}
use Rattle.run_clauses.specs.meaning.Before.{journal_before}
use Rattle.run_clauses.specs.meaning.Outcomes.{completed_of}
use Rattle.ltxid_book.specs.meaning.Journal.{is_blocked}
use Rattle.run_clauses.specs.meaning.Stored.{kept_by}
use Rattle.report_moments.specs.Views.{moments_as}
use Rattle.stored_check.specs.Facts.{marks_in, timing_in, has_no_entry}
use Rattle.stored_check.specs.Judging.{are_blocks}
use Rattle.stored_check.proofs.StoredLines.{marks_same, lines_are, none_of, some_of}
use Rattle.stored_check.proofs.judge.wrong_place.Goals as goal

pub times_of-requires : goal.times_of-requires
times_of-requires c = record {
  document = c.requires.document;
  before = c.requires.before;
  moments = ap moments_as c.as_slice-all.ensures.value ∙ c.in_ok-moments.ensures.told;
}

pub returns-then-is_some : goal.returns-then-is_some
returns-then-is_some c =
    let document = c.args.document.now in
    let report = c.args.report.now in
    let before = journal_before document in
    let known = c.in_ok-known.known in
    let all = moments_as c.as_slice-all.result.now in
    let marks = marks_same known (kept_by document report)
    (λ x. c.in_ok-known.ensures.completed x ∙ ap (λ (j : Journal). completed_of (j.entries ++ report.entries) x) c.requires.before)
    (λ x. c.in_ok-known.ensures.blocked x ∙ ap (λ (j : Journal). is_blocked (j.blocked ++ report.blocked) x) c.requires.before) in
    let same = lines_are document report (marks_in known) (timing_in c.in_ok-times.times) all marks c.in_ok-times.ensures (ap moments_as c.as_slice-all.ensures.value ∙ c.in_ok-moments.ensures.told) in
    let some = some_of c.wrong_told-told.result (sym c.is_some.ensures ∙ c.if-is_some.true) in
    some ∙ sym (sym same ∙ ap (λ b. b && (list_all (has_no_entry (marks_in known)) (before.blocked ++ report.blocked) && are_blocks before.blocked report.blocked all)) (sym c.wrong_told-told.ensures ∙ some))

pub returns : goal.returns
returns c =
    let document = c.args.document.now in
    let report = c.args.report.now in
    let before = journal_before document in
    let known = c.in_ok-known.known in
    let all = moments_as c.as_slice-all.result.now in
    let marks = marks_same known (kept_by document report)
    (λ x. c.in_ok-known.ensures.completed x ∙ ap (λ (j : Journal). completed_of (j.entries ++ report.entries) x) c.requires.before)
    (λ x. c.in_ok-known.ensures.blocked x ∙ ap (λ (j : Journal). is_blocked (j.blocked ++ report.blocked) x) c.requires.before) in
    let same = lines_are document report (marks_in known) (timing_in c.in_ok-times.times) all marks c.in_ok-times.ensures (ap moments_as c.as_slice-all.ensures.value ∙ c.in_ok-moments.ensures.told) in
    let none = none_of c.wrong_told-told.result (sym c.is_some.ensures ∙ c.if-is_some.false) in
    let blocks = c.as_slice-blocks.ensures ∙ ap (λ (j : Journal). j.blocked) c.requires.before in
    let is =
    ap (λ (l : List Ltxid). list_all (has_no_entry (marks_in known)) (l ++ c.as_slice-more.result.now) && are_blocks l c.as_slice-more.result.now all) blocks
    ∙ ap (λ (l : List Ltxid). list_all (has_no_entry (marks_in known)) (before.blocked ++ l) && are_blocks before.blocked l all) c.as_slice-more.ensures
    ∙ sym (ap (λ b. b && (list_all (has_no_entry (marks_in known)) (before.blocked ++ report.blocked) && are_blocks before.blocked report.blocked all)) (sym c.wrong_told-told.ensures ∙ none))
    ∙ same in
    subst (λ (b : Bool). IfOk c.wrong_block.result (λ place. is_none place ≡ b)) is c.wrong_block.ensures
