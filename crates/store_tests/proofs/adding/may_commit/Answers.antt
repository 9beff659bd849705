use Rattle.std.proofs.Common.{sym, ◌∙◌}
use Rattle.ltxid_book.specs.Sessions.{sessions_in}
use Rattle.store_tests.proofs.Next.{may_come_next}
use Rattle.store_tests.proofs.adding.may_commit.Goals as goal

pub returns : goal.returns
returns c may = may_come_next (sessions_in c.in_ok-book.book) c.args.journal.now c.args.entry.now c.in_ok-book.ensures c.if-entry-journal.false c.requires (sym c.may_commit.ensures ∙ may)
