use Rattle.invariant_laws.proofs.history.RanEntries.{runs_started}
use Rattle.invariant_laws.proofs.history_laws.runs_started.Goals as goal

pub returns : goal.returns
returns c = runs_started c.runs_are_orderly.ensures c.runs_serve.ensures c.runs_legal.ensures
