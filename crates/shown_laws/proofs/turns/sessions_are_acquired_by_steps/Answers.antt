use Rattle.shown_laws.proofs.links.AcquiredTold.{steps_acquire}
use Rattle.shown_laws.proofs.turns.sessions_are_acquired_by_steps.Goals as goal

pub returns : goal.returns
returns c = steps_acquire
