use Rattle.invariant_laws.proofs.talks.CallsNear.{calls_near}
use Rattle.invariant_laws.proofs.frame_laws.requests_send_near.Goals as goal

pub returns : goal.returns
returns c = calls_near
