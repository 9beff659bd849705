use Rattle.invariant_laws.proofs.losses.KeptEvents.{events_law}
use Rattle.invariant_laws.proofs.request_laws.errors_tell_their_events.Goals as goal

pub returns : goal.returns
returns c = events_law
