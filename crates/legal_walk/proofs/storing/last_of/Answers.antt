use Rattle.std.proofs.Common.{◌∙◌}
use Rattle.svc_values.proofs.Offered.{last_answer_at}
use Rattle.legal_walk.proofs.storing.last_of.Goals as goal

pub returns : goal.returns
returns c = c.last.ensures.value ∙ last_answer_at c.args.answers.now
