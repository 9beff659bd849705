use Rattle.replay_laws.proofs.KeptReplays.{runs_replay, whole_runs_replay}
use Rattle.replay_laws.proofs.ReplayFirsts.{runs_replay_shown}
use Rattle.replay_laws.proofs.laws.replays_repeat_shown_calls.Goals as goal

pub returns : goal.returns
returns c = record {
  reached = runs_replay c.runs_are_orderly.ensures;
  run = whole_runs_replay c.runs_are_orderly.ensures;
  each = runs_replay_shown (runs_replay c.runs_are_orderly.ensures) c.connections_are_opened_once.ensures.reached;
}
