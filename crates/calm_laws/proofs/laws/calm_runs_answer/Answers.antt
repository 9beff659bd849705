use Rattle.calm_laws.proofs.Answered.{calm_answer}
use Rattle.calm_laws.proofs.laws.calm_runs_answer.Goals as goal

pub returns : goal.returns
returns c = calm_answer c.runs_last.ensures c.runs_keep_invariant.ensures.reached c.held_connections_stay_unclosed.ensures.reached c.runs_are_whole.ensures
