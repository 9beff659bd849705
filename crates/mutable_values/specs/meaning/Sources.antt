-- What a source gives: the first kept draw left of the kind and name that is asked for, and else a
-- new one.
use Rattle.std.specs.Prelude.{ℕ, ◌+◌, List, ◌++◌}
use Rattle.std.specs.Int.{to_be_bytes, w64}

-- the value of a new identifier: the incarnation and a counter in it, each as eight bytes
abbrev pub identifier : ℕ → ℕ → List ℕ
identifier incarnation counter = to_be_bytes w64 incarnation ++ to_be_bytes w64 counter
