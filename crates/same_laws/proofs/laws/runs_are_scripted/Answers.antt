use Rattle.same_laws.proofs.Scripts.{runs_scripted}
use Rattle.same_laws.proofs.laws.runs_are_scripted.Goals as goal

pub returns : goal.returns
returns c = runs_scripted c.runs_keep_invariant.ensures.reached c.entries_follow_scripts.ensures.run
