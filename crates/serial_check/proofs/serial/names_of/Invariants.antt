use Rattle.std.proofs.Common.{◌≡◌, map, take}
use Rattle.commit_log.specs.meaning.Bases.{sequence_name}
use Rattle.serial_check.proofs.serial.names_of.Given as goal

abbrev pub invariant-loop-sequence : goal.invariant-loop-sequence
invariant-loop-sequence l = l.names.items ≡ map sequence_name (take l.sequence-index l.sequences)
