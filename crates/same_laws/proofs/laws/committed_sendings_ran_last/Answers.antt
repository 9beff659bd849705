use Rattle.same_laws.proofs.SendingsRan.{runs_ran_last, whole_runs_ran_last}
use Rattle.same_laws.proofs.laws.committed_sendings_ran_last.Goals as goal

pub returns : goal.returns
returns c = record { reached = runs_ran_last c.runs_keep_invariant.ensures.reached; run = whole_runs_ran_last c.runs_keep_invariant.ensures.reached }
