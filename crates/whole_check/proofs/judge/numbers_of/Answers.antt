use Rattle.std.proofs.Common.{◌≡◌, ◌∙◌, ℕ, List, ap, subst}
use Rattle.std.specs.Prelude.{IfOk}
use Rattle.commit_log.specs.declared.journal.Journal.{Journal}
use Rattle.svc_values.specs.declared.entry.Entry.{Entry}
use Rattle.svc_values.specs.declared.entry.SessionId.{SessionId}
use Rattle.run_clauses.specs.meaning.EntryEvents.{stored_entries, stored_up_to}
use Rattle.entry_events.specs.Numbering.{up_to}
use Rattle.whole_check.proofs.judge.numbers_of.Goals as goal

pub returns : goal.returns
returns c =
    subst (λ (image : List Entry). IfOk c.of.result (λ numbers. (session : SessionId) → (event : ℕ) → up_to numbers session event ≡ stored_up_to image (stored_entries c.args.report.now) session event))
    (c.as_slice-image.ensures ∙ ap (λ (j : Journal). j.entries) c.in_ok-before.ensures.is)
    c.of.ensures.up_to
