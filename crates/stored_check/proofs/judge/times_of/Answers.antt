use Rattle.std.proofs.Common.{◌∙◌, ℕ, Bool, List, ap}
use Rattle.svc_values.specs.declared.entry.Entry.{Entry}
use Rattle.commit_log.specs.declared.journal.Journal.{Journal}
use Rattle.outage_schedule.specs.declared.note.Note.{Note}
use Rattle.run_clauses.specs.meaning.Before.{journal_before, was_opened}
use Rattle.run_clauses.specs.meaning.EntryEvents.{stored_before, stored_entries}
use Rattle.run_clauses.specs.meaning.Horizons.{first_opening, wanted_from, wanted_in}
use Rattle.stored_check.proofs.StoredLines.{timing_same}
use Rattle.stored_check.proofs.judge.times_of.Goals as goal

pub returns : goal.returns
returns c =
    let document = c.args.document.now in
    let report = c.args.report.now in
    let before = journal_before document in
    let retention = document.service.retention in
    let last = c.last_incarnation-last.ensures.is ∙ ap (λ (j : Journal). j.incarnation) c.requires.before in
    let image = c.as_slice-image.ensures ∙ ap (λ (j : Journal). j.entries) c.requires.before in
    timing_same _ (stored_before before.entries (stored_entries report)) _ before.horizon _ (wanted_in document report)
    (λ session event. c.in_ok-numbers.ensures.before session event ∙ ap (λ (entries : List Entry). stored_before entries (stored_entries report) session event) image)
    (ap (λ (j : Journal). j.horizon) c.requires.before)
    (c.in_ok-openings.ensures
    ∙ (ap (λ (opened : Bool). wanted_from retention 1 (first_opening opened c.last_incarnation-last.result) c.as_slice.result.now) c.in_ok-opened.ensures
    ∙ (ap (λ (n : ℕ). wanted_from retention 1 (first_opening (was_opened document) n) c.as_slice.result.now) last
    ∙ ap (λ (notes : List Note). wanted_from retention 1 (first_opening (was_opened document) before.incarnation) notes) c.as_slice.ensures)))
