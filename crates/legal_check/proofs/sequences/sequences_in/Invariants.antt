use Rattle.std.proofs.Common.{◌≡◌, map, take}
use Rattle.run_clauses.specs.meaning.ServiceBase.{sequence_of}
use Rattle.legal_check.proofs.sequences.sequences_in.Given as goal

abbrev pub invariant-loop-sequence : goal.invariant-loop-sequence
invariant-loop-sequence l = l.made.items ≡ map (sequence_of l.journal.reserved) (take l.sequence-index l.sequences)
