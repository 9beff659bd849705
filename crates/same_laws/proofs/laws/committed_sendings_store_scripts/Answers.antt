use Rattle.same_laws.proofs.entries.StoredScripts.{runs_store, whole_runs_store}
use Rattle.same_laws.proofs.laws.committed_sendings_store_scripts.Goals as goal

pub returns : goal.returns
returns c = record { reached = runs_store c.runs_keep_invariant.ensures.reached; run = whole_runs_store c.runs_keep_invariant.ensures.reached }
