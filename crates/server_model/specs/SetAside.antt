-- Values that lie in what is set aside of their sequences: an opening draws behind that, so it
-- draws none of them again. Here is what contracts and proofs say of it besides.
use Rattle.std.specs.Prelude.{ℕ, ℤ, List, Option}
use Rattle.std.specs.Option.{option_map}
use Rattle.mutable_values.specs.Sources.{Opening, sequence_of}

-- the same of a source
abbrev pub ends_of : Opening → List ℕ → Option ℤ
ends_of opening name = option_map (λ sequence. sequence.upto) (sequence_of opening.sequences name)
