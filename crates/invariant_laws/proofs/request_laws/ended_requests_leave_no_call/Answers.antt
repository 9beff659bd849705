use Rattle.invariant_laws.proofs.losses.KeptLeft.{left_law}
use Rattle.invariant_laws.proofs.request_laws.ended_requests_leave_no_call.Goals as goal

pub returns : goal.returns
returns c = left_law
