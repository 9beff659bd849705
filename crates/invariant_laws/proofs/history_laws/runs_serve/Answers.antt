use Rattle.invariant_laws.proofs.history.SessionRuns.{runs_serve}
use Rattle.invariant_laws.proofs.history_laws.runs_serve.Goals as goal

pub returns : goal.returns
returns c = runs_serve c.runs_are_orderly.ensures
