use Rattle.std.proofs.Common.{◌≡◌, map, take}
use Rattle.run_clauses.specs.meaning.Before.{base_sequence}
use Rattle.before_run.proofs.base.sequences_in.Given as goal

abbrev pub invariant-loop-sequence : goal.invariant-loop-sequence
invariant-loop-sequence l = l.all.items ≡ map base_sequence (take l.sequence-index l.sequences)
