use Rattle.same_laws.proofs.entries.CommitsFit.{runs_commit, whole_runs_commit}
use Rattle.same_laws.proofs.laws.commits_are_answered.Goals as goal

pub returns : goal.returns
returns c = record { reached = runs_commit c.runs_are_orderly.ensures c.runs_serve.ensures; run = whole_runs_commit c.runs_are_orderly.ensures c.runs_serve.ensures }
