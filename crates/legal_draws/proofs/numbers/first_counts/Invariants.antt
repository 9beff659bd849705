use Rattle.std.proofs.Common.{◌≡◌, map, take}
use Rattle.server_model.specs.meaning.NewValues.{count_of}
use Rattle.legal_draws.proofs.numbers.first_counts.Given as goal

abbrev pub invariant-loop-sequence : goal.invariant-loop-sequence
invariant-loop-sequence l = l.counts.items ≡ map count_of (take l.sequence-index l.sequences)
