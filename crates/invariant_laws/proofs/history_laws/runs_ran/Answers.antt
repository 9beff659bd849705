use Rattle.invariant_laws.proofs.history.RanEntries.{runs_ran}
use Rattle.invariant_laws.proofs.history_laws.runs_ran.Goals as goal

pub returns : goal.returns
returns c = runs_ran c.runs_are_orderly.ensures c.runs_serve.ensures c.runs_legal.ensures
