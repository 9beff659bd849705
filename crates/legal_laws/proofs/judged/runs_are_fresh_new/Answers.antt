use Rattle.legal_laws.proofs.JudgedRuns.{runs_fresh_new}
use Rattle.legal_laws.proofs.judged.runs_are_fresh_new.Goals as goal

pub returns : goal.returns
returns c = runs_fresh_new c.runs_fresh_new.ensures
