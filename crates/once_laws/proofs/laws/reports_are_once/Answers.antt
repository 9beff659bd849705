use Rattle.once_laws.proofs.values.OnceEnd.{reports_once}
use Rattle.once_laws.proofs.laws.reports_are_once.Goals as goal

pub returns : goal.returns
returns c = reports_once c.runs_keep_invariant.ensures.run
