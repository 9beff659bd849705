use Rattle.shown_laws.proofs.shown.IdentifiersHold.{identifiers_stored}
use Rattle.shown_laws.proofs.whole.identifiers_are_stored.Goals as goal

pub returns : goal.returns
returns c = identifiers_stored c.runs_keep_invariant.ensures.finishing c.calls_are_identified.ensures
