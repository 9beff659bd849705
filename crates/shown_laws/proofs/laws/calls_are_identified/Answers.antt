use Rattle.shown_laws.proofs.shown.IdentifiersTold.{calls_identified}
use Rattle.shown_laws.proofs.links.Standing.{all_stand}
use Rattle.shown_laws.proofs.laws.calls_are_identified.Goals as goal

pub returns : goal.returns
returns c = calls_identified c.runs_keep_invariant.ensures.reached c.runs_keep_invariant.ensures.finishing all_stand c.entries_are_counted.ensures.reached c.entries_are_counted.ensures.finishing
