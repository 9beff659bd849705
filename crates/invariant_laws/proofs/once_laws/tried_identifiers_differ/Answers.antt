use Rattle.invariant_laws.proofs.entries.KeptTried.{lists_law}
use Rattle.invariant_laws.proofs.once_laws.tried_identifiers_differ.Goals as goal

pub returns : goal.returns
returns c = lists_law
