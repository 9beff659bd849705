use Rattle.invariant_laws.proofs.losses.KeptAnswers.{answers_law}
use Rattle.invariant_laws.proofs.request_laws.answers_stay.Goals as goal

pub returns : goal.returns
returns c = answers_law
