use Rattle.same_laws.proofs.entries.EntryScripts.{runs_follow, whole_runs_follow}
use Rattle.same_laws.proofs.laws.entries_follow_scripts.Goals as goal

pub returns : goal.returns
returns c = record {
  reached = runs_follow c.runs_keep_invariant.ensures.reached c.committed_sendings_store_scripts.ensures.reached;
  run = whole_runs_follow c.runs_keep_invariant.ensures.run c.committed_sendings_store_scripts.ensures.run;
}
