use Rattle.once_laws.proofs.calls.CallsFit.{runs_fit, whole_runs_fit}
use Rattle.once_laws.proofs.laws.calls_end_fittingly.Goals as goal

pub returns : goal.returns
returns c = record { reached = runs_fit c.runs_are_orderly.ensures c.runs_serve.ensures; run = whole_runs_fit c.runs_are_orderly.ensures c.runs_serve.ensures }
