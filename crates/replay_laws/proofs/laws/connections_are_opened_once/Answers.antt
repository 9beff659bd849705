use Rattle.replay_laws.proofs.KeptOpenings.{runs_open_once, whole_runs_open_once}
use Rattle.replay_laws.proofs.laws.connections_are_opened_once.Goals as goal

pub returns : goal.returns
returns c = record { reached = runs_open_once c.runs_are_orderly.ensures; run = whole_runs_open_once c.runs_are_orderly.ensures }
