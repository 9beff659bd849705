use Rattle.invariant_laws.proofs.talks.KeptFirsts.{runs_begin_once, whole_runs_begin_once}
use Rattle.invariant_laws.proofs.frame_laws.requests_begin_once.Goals as goal

pub returns : goal.returns
returns c = record { reached = runs_begin_once c.runs_are_orderly.ensures; run = whole_runs_begin_once c.runs_are_orderly.ensures }
