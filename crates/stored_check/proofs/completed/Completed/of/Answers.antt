use Rattle.std.proofs.Common.{◌∙◌, sym, ap, ℕ, List, Bool}
use Rattle.std.specs.Prelude.{Option}
use Rattle.run_clauses.specs.meaning.Outcomes.{completed_of}
use Rattle.stored_check.specs.Keys.{mark_of, or_else}
use Rattle.stored_check.proofs.Marks.{completed-append}
use Rattle.stored_check.proofs.completed.Completed.of.Goals as goal

pub returns : goal.returns
returns c = λ x.
    let before = c.args.before.now in
    let entries = c.args.entries.now in
    c.in_ok-add_all-2.ensures x
    ∙ (ap (λ (o : Option Bool). or_else o (completed_of entries x)) (c.in_ok-add_all.ensures x ∙ ap (λ (m : List ((ℕ × ℕ × ℕ) × Bool)). or_else (mark_of m x) (completed_of before x)) c.new.ensures)
    ∙ sym (completed-append before entries x))
