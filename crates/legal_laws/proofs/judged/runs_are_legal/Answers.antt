use Rattle.legal_laws.proofs.JudgedRuns.{runs_legal}
use Rattle.legal_laws.proofs.judged.runs_are_legal.Goals as goal

pub returns : goal.returns
returns c = runs_legal c.runs_legal.ensures
