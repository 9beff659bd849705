use Rattle.std.proofs.Common.{◌∙◌}
use Rattle.transcript_core.proofs.Following.{next_followed}
use Rattle.transcript_core.proofs.next_request.NextRequest.follow.Goals as goal

pub returns : goal.returns
returns c = λ reports is. c.after.ensures ∙ next_followed c.args.script.now reports c.args.self.now c.args.report.now is
