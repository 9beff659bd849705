use Rattle.std.proofs.Common.{◌∙◌}
use Rattle.transcript_core.proofs.Following.{last_at}
use Rattle.transcript_core.proofs.next_request.last_of.Goals as goal

pub returns : goal.returns
returns c = c.last.ensures.value ∙ last_at c.args.outcomes.now
