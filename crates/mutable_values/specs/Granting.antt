-- Which of the values that a call drew are kept for a replay of it.
-- Here is what contracts and proofs say of it besides.
use Rattle.std.specs.Prelude.{List, filter}
use Rattle.svc_values.specs.declared.draw.Draw.{Draw}
use Rattle.mutable_values.specs.declared.grants.Grants.{Grants}
use Rattle.mutable_values.specs.declared.source.SeqState.{SeqState}
use Rattle.mutable_values.specs.meaning.Granting.{is_granted}

-- the draws that are kept, in order
abbrev pub granted_of : Grants → List SeqState → List Draw → List Draw
granted_of grants sequences draws = filter (is_granted grants sequences) draws
