use Rattle.same_laws.proofs.VerifiedRuns.{runs_know_insides, whole_runs_know_insides}
use Rattle.same_laws.proofs.laws.insides_are_known.Goals as goal

pub returns : goal.returns
returns c = record {
  reached = runs_know_insides c.runs_keep_invariant.ensures.reached c.answers_are_known.ensures.reached;
  run = whole_runs_know_insides c.runs_keep_invariant.ensures.run c.answers_are_known.ensures.run;
}
