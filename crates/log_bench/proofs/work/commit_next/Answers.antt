use Rattle.std.proofs.Common.{ap, sym, ◌∙◌}
use Rattle.commit_log.specs.meaning.Journals.{journal_in}
use Rattle.log_bench.proofs.Beside.{may_follow, followed_after}
use Rattle.log_bench.proofs.work.commit_next.Goals as goal

pub commit-requires-clause-may : goal.commit-requires-clause-may
commit-requires-clause-may g c journal is =
    may_follow c.args.book.now journal c.args.entry.now (c.requires.followed journal is) c.requires.plain (sym c.may_commit.ensures ∙ c.if-not-may_commit.false)

pub returns-in-Ok-clause-followed : goal.returns-in-Ok-clause-followed
returns-in-Ok-clause-followed g c =
    followed_after c.args.book.now c.commit-2.new.self (g.D.Disk.state c.args.disk.now).now.seen (g.D.Disk.state c.commit.new.disk).now.seen
    c.requires.ready.journal c.args.entry.now (ap journal_in c.requires.ready.so_far) c.requires.followed (sym c.may_commit.ensures ∙ c.if-not-may_commit.false) c.in-Ok.ensures.ok c.in_ok-commit.ensures.added.journal
