use Rattle.server_model.proofs.draws.Redraws.{legal_redraws, runs_redraw}
use Rattle.server_model.proofs.laws.marked_calls_redraw.Goals as goal

pub returns-clause-legal : goal.returns-clause-legal
returns-clause-legal c = legal_redraws

pub returns-clause-runs : goal.returns-clause-runs
returns-clause-runs c = runs_redraw
