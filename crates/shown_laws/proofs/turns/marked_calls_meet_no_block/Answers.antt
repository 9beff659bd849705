use Rattle.shown_laws.proofs.owners.MarksUnblocked.{runs_unblocked, ends_unblocked}
use Rattle.shown_laws.proofs.turns.marked_calls_meet_no_block.Goals as goal

pub returns : goal.returns
returns c = record { reached = runs_unblocked c.runs_keep_invariant.ensures.reached c.runs_serve.ensures; run = ends_unblocked c.runs_keep_invariant.ensures.reached c.runs_serve.ensures }
