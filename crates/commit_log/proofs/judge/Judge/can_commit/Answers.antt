use Rattle.std.proofs.Common.{sym, ap, ◌∙◌}
use Rattle.std.proofs.lemmas.Bool.{le-leb, lt-leb}
use Rattle.svc_values.specs.meaning.Fitting.{writes_fit}
use Rattle.ltxid_book.specs.meaning.Sessions.{may_commit as may_note}
use Rattle.ltxid_book.specs.Sessions.{sessions_in}
use Rattle.commit_log.proofs.Committing.{may_by_book, three_hold, second_fails, first_fails}
use Rattle.commit_log.proofs.judge.Judge.can_commit.Goals as goal

pub returns-then-may_commit : goal.returns-then-may_commit
returns-then-may_commit c =
    let judge = c.args.self.now in
    let entry = c.args.entry.now in
    three_hold _ _ _ _ (le-leb _ _ c.if-entry-self.true) (sym c.may_commit.ensures ∙ c.if-may_commit.true) (c.writes_fit.ensures ∙ ap (writes_fit judge.shape.schemas) c.as_slice.ensures) ∙ sym (may_by_book judge entry c.requires)

pub returns-else-may_commit : goal.returns-else-may_commit
returns-else-may_commit c =
    second_fails _ _ _ _ (le-leb _ _ c.if-entry-self.true) c.may_commit.ensures c.if-may_commit.false ∙ sym (may_by_book c.args.self.now c.args.entry.now c.requires)

pub returns-else-entry-self : goal.returns-else-entry-self
returns-else-entry-self c =
    let judge = c.args.self.now in
    let entry = c.args.entry.now in
    first_fails _ (may_note (sessions_in judge.book) entry.ltxid) (writes_fit judge.shape.schemas entry.writes) (lt-leb _ _ c.if-entry-self.false) ∙ sym (may_by_book judge entry c.requires)
