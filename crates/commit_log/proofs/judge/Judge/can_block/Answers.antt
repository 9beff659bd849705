use Rattle.std.proofs.Common.{◌∙◌}
use Rattle.commit_log.proofs.Committing.{block_beside}
use Rattle.commit_log.proofs.judge.Judge.can_block.Goals as goal

pub returns : goal.returns
returns c = c.may_commit.ensures ∙ block_beside c.args.self.now.book c.args.self.now.journal c.args.x.now c.requires.book_for
