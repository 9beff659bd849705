use Rattle.once_laws.proofs.values.OnceStored.{runs_store_once, whole_runs_store_once}
use Rattle.once_laws.proofs.laws.calls_are_stored_once.Goals as goal

pub returns : goal.returns
returns c = record {
  so_far = runs_store_once c.runs_keep_invariant.ensures.reached c.replies_are_shown.ensures.reached c.calls_end_fittingly.ensures.reached;
  whole = whole_runs_store_once c.runs_keep_invariant.ensures.reached c.replies_are_shown.ensures.reached c.calls_end_fittingly.ensures.reached;
}
