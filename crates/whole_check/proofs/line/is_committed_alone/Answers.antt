use Rattle.std.proofs.Common.{◌∙◌}
use Rattle.whole_check.proofs.Alone.{alone_is}
use Rattle.whole_check.proofs.line.is_committed_alone.Goals as goal

pub returns-then-answers-eq1 : goal.returns-then-answers-eq1
returns-then-answers-eq1 c = c.ends_committed.ensures ∙ alone_is c.args.answers.now c.if-answers-eq1.true
