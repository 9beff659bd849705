use Rattle.shown_laws.proofs.owners.ServedFront.{serves_a_front}
use Rattle.shown_laws.proofs.owners.ServedSent.{serves_its_frames}
use Rattle.shown_laws.proofs.turns.turns_serve_frames.Goals as goal

pub returns : goal.returns
returns c = record { own = serves_its_frames; front = serves_a_front }
