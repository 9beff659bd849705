use Rattle.fresh_laws.proofs.FreshReports.{runs_fresh}
use Rattle.fresh_laws.proofs.laws.runs_are_fresh.Goals as goal

pub returns : goal.returns
returns c = runs_fresh c.runs_keep_invariant.ensures.run c.stored_values_are_fresh.ensures.whole c.calls_are_stored_once.ensures.whole
