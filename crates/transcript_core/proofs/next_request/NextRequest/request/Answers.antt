use Rattle.std.proofs.Common.{◌∙◌}
use Rattle.transcript_core.proofs.Following.{next_is}
use Rattle.transcript_core.proofs.next_request.NextRequest.request.Goals as goal

pub returns-clause-next : goal.returns-clause-next
returns-clause-next c = λ reports is. c.request_at.ensures ∙ next_is c.args.script.now reports c.args.self.now is
