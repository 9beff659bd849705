use Rattle.shown_laws.proofs.steps.TakesTold.{replies_taken}
use Rattle.shown_laws.proofs.whole.replies_are_taken.Goals as goal

pub returns : goal.returns
returns c = replies_taken c.runs_keep_invariant.ensures.reached c.runs_keep_invariant.ensures.finishing c.connections_are_told.ensures.reached c.connections_are_told.ensures.finishing c.held_connections_stay_unclosed.ensures.reached c.held_connections_stay_unclosed.ensures.finishing
