use Rattle.shown_laws.proofs.owners.OwnersTold.{reached_owners}
use Rattle.shown_laws.proofs.links.Standing.{all_stand}
use Rattle.shown_laws.proofs.owners.TurnsOwned.{whole_runs_own}
use Rattle.shown_laws.proofs.turns.turns_are_of_acquirers.Goals as goal

pub returns : goal.returns
returns c =
    let owners = reached_owners c.runs_keep_invariant.ensures.reached all_stand c.unserved_begins_are_last.ensures.reached c.sessions_are_acquired_by_steps.ensures in
    record {
      reached = owners;
      run = whole_runs_own c.runs_keep_invariant.ensures.reached all_stand c.marked_calls_meet_no_block.ensures.reached c.requests_begin_once.ensures.reached c.requests_send_near.ensures owners;
    }
