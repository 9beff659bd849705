use Rattle.run_laws.proofs.FinishShort.{finish_short}
use Rattle.run_laws.proofs.finish_laws.finish_is_short.Goals as goal

pub returns : goal.returns
returns c = finish_short c.runs_are_orderly.ensures
