use Rattle.legal_laws.proofs.ReplaysPlaced.{replays_joined}
use Rattle.legal_laws.proofs.laws.replays_are_told.Goals as goal

pub returns : goal.returns
returns c = replays_joined c.replays_are_placed.ensures c.replays_are_shown.ensures
