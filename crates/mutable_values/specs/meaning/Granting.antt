-- Which of the values that a call drew are kept for a replay of it.
use Rattle.std.specs.Prelude.{ℕ, Bool, ◌&&◌, List}
use Rattle.std.specs.List.{list_any}
use Rattle.std.specs.Str.{bytes_eq}
use Rattle.svc_values.specs.declared.draw.Draw.{Draw}
use Rattle.svc_values.specs.declared.draw.Draw.TheVariants as draw
use Rattle.mutable_values.specs.declared.grants.Grants.{Grants}
use Rattle.mutable_values.specs.declared.source.SeqState.{SeqState}

-- a sequence of this name is there, and its values are kept
abbrev pub is_kept_sequence : List SeqState → List ℕ → Bool
is_kept_sequence sequences name = list_any (λ sequence. bytes_eq sequence.name name
    && sequence.keep) sequences

-- a value is kept where its kind is, and one of a sequence where the sequence is too
abbrev pub is_granted : Grants → List SeqState → Draw → Bool
is_granted grants sequences (draw.Seq name value) = grants.seq && is_kept_sequence sequences name
is_granted grants sequences (draw.Clock tick) = grants.clock
is_granted grants sequences (draw.Id id) = grants.id
