use Rattle.invariant_laws.proofs.entries.WholeInvariant.{finishing_invariant, reached_invariant, run_invariant}
use Rattle.invariant_laws.proofs.kept_laws.runs_keep_invariant.Goals as goal

pub returns : goal.returns
returns c = record {
  reached = reached_invariant c.keeps_journal.ensures.keeps c.runs_number.ensures.numbers c.runs_are_orderly.ensures c.runs_ran.ensures c.runs_started.ensures;
  finishing = finishing_invariant c.keeps_journal.ensures.keeps c.runs_number.ensures.numbers c.runs_are_orderly.ensures c.runs_ran.ensures c.runs_started.ensures;
  run = run_invariant c.keeps_journal.ensures.keeps c.runs_number.ensures.numbers c.runs_are_orderly.ensures c.runs_ran.ensures c.runs_started.ensures;
}
