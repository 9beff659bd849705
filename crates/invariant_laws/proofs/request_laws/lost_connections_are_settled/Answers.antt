use Rattle.invariant_laws.proofs.losses.KeptLost.{lost_law}
use Rattle.invariant_laws.proofs.request_laws.lost_connections_are_settled.Goals as goal

pub returns : goal.returns
returns c = lost_law c.keeps_journal.ensures.keeps c.runs_number.ensures.numbers
