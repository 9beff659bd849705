use Rattle.replay_core.proofs.Repeats.{replays_all}
use Rattle.replay_core.proofs.replaying.verifies_all.Goals as goal

pub returns : goal.returns
returns c = replays_all
