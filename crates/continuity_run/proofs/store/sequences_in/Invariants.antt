use Rattle.std.proofs.Common.{◌≡◌, ◌++◌, map}
use Rattle.run_clauses.specs.meaning.Before.{base_sequence}
use Rattle.continuity_run.proofs.store.sequences_in.Given as goal

abbrev pub invariant-loop-sequence : goal.invariant-loop-sequence
invariant-loop-sequence l = l.all.items ++ map base_sequence l.sequence-iterator.rest.items ≡ map base_sequence l.fn.sequences
