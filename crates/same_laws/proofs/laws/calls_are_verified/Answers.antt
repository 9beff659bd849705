use Rattle.same_laws.proofs.VerifiedRuns.{runs_verify, whole_runs_verify}
use Rattle.same_laws.proofs.laws.calls_are_verified.Goals as goal

pub returns : goal.returns
returns c = record { reached = runs_verify c.runs_are_orderly.ensures; run = whole_runs_verify c.runs_are_orderly.ensures }
