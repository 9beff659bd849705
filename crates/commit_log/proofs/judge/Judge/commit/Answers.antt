use Rattle.std.proofs.Common.{◌≡◌, List, sym, ap, subst, ◌∙◌}
use Rattle.svc_values.specs.declared.entry.Entry.{Entry}
use Rattle.commit_log.specs.declared.journal.Journal.{Journal}
use Rattle.commit_log.specs.declared.records.Record.TheVariants as kept
use Rattle.commit_log.specs.meaning.Rules.{with_record}
use Rattle.commit_log.specs.Judging.{IsBookFor}
use Rattle.commit_log.proofs.Committing.{book_lets, notes_commit}
use Rattle.commit_log.proofs.judge.Judge.commit.Goals as goal

pub commit-requires-clause-may : goal.commit-requires-clause-may
commit-requires-clause-may c = book_lets c.args.self.now c.args.entry c.requires.kept (sym c.can_commit.ensures ∙ c.if-not-can_commit.false)

pub returns-clause-kept : goal.returns-clause-kept
returns-clause-kept c =
    let judge = c.args.self.now in
    let lets = book_lets judge c.args.entry c.requires.kept (sym c.can_commit.ensures ∙ c.if-not-can_commit.false) in
    let noted = notes_commit judge.book c.commit.new.self judge.journal c.args.entry c.requires.kept.book_for lets c.in_ok-commit.ensures.ok in
    let pushed : Journal = record judge.journal { entries = c.push.new.self } in
    let more : with_record judge.journal (kept.Commit c.args.entry) ≡ pushed = ap (λ (l : List Entry). let journal : Journal = record judge.journal { entries = l } in journal) (sym c.in_ok-push.ensures.ok) in
    record { book_for = subst (IsBookFor c.commit.new.self) more noted; shape = c.requires.kept.shape; ends = c.requires.kept.ends; unset = c.requires.kept.unset }
