use Rattle.invariant_laws.proofs.entries.KeptTried.{tried_law}
use Rattle.invariant_laws.proofs.once_laws.reports_tell_what_was_tried.Goals as goal

pub returns : goal.returns
returns c = tried_law
