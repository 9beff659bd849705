use Rattle.invariant_laws.proofs.rows.KeptShown.{from_law}
use Rattle.invariant_laws.proofs.request_laws.shown_calls_were_answered.Goals as goal

pub returns : goal.returns
returns c = from_law
