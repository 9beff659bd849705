use Rattle.invariant_laws.proofs.talks.KeptUnserved.{runs_begin_last, whole_runs_begin_last}
use Rattle.invariant_laws.proofs.frame_laws.unserved_begins_are_last.Goals as goal

pub returns : goal.returns
returns c = record { reached = runs_begin_last c.runs_keep_invariant.ensures.reached; run = whole_runs_begin_last c.runs_keep_invariant.ensures.reached }
