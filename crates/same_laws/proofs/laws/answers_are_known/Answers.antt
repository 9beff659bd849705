use Rattle.same_laws.proofs.VerifiedRuns.{runs_know, whole_runs_know}
use Rattle.same_laws.proofs.laws.answers_are_known.Goals as goal

pub returns : goal.returns
returns c = record { reached = runs_know c.calls_are_verified.ensures.reached; run = whole_runs_know c.calls_are_verified.ensures.run }
