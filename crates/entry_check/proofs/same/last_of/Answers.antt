use Rattle.std.proofs.Common.{◌∙◌}
use Rattle.entry_check.proofs.Spans.{last_at}
use Rattle.entry_check.proofs.same.last_of.Goals as goal

pub returns : goal.returns
returns c = c.last.ensures.value ∙ last_at c.args.lists.now
