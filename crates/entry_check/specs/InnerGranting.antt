-- Which draws are kept for a replay, by what a document and its journal say.
use Rattle.std.specs.Prelude.{ℕ, ◌&&◌, Bool, List}
use Rattle.std.specs.List.{list_any}
use Rattle.std.specs.Str.{bytes_eq}
use Rattle.svc_values.specs.declared.draw.Draw.{Draw}
use Rattle.svc_values.specs.declared.draw.Draw.TheVariants as draw
use Rattle.commit_log.specs.declared.base.BaseSequence.{BaseSequence}
use Rattle.outage_schedule.specs.declared.document.KeepOf.{KeepOf}

-- a sequence of this name is there, and its values are kept
abbrev pub is_kept : List BaseSequence → List ℕ → Bool
is_kept sequences name = list_any (λ sequence. bytes_eq sequence.name name && sequence.keep)
    sequences

-- a value is kept where its kind is, and one of a sequence where the sequence is too
abbrev pub keeps : KeepOf → List BaseSequence → Draw → Bool
keeps kinds sequences (draw.Seq name value) = kinds.seq && is_kept sequences name
keeps kinds sequences (draw.Clock tick) = kinds.clock
keeps kinds sequences (draw.Id id) = kinds.id
