use Rattle.once_laws.proofs.calls.KeptShowing.{runs_show, whole_runs_show}
use Rattle.once_laws.proofs.laws.replies_are_shown.Goals as goal

pub returns : goal.returns
returns c = record { reached = runs_show c.runs_keep_invariant.ensures.reached; run = whole_runs_show c.runs_keep_invariant.ensures.reached }
