use Rattle.once_laws.proofs.Offered.{runs_go_on, whole_runs_go_on}
use Rattle.same_laws.proofs.laws.entries_go_on.Goals as goal

pub returns : goal.returns
returns c = record {
  reached = runs_go_on c.runs_keep_invariant.ensures.reached c.insides_are_known.ensures.reached c.committed_sendings_ran_last.ensures.reached;
  run = whole_runs_go_on c.runs_keep_invariant.ensures.reached c.insides_are_known.ensures.run c.committed_sendings_ran_last.ensures.run;
}
