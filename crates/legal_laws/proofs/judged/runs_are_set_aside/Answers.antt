use Rattle.legal_laws.proofs.JudgedRuns.{runs_set_aside}
use Rattle.legal_laws.proofs.judged.runs_are_set_aside.Goals as goal

pub returns : goal.returns
returns c = runs_set_aside c.runs_set_aside.ensures
