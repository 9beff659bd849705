-- A feed over time: bytes are pushed, however they were cut, and frames are asked for.
use Rattle.std.specs.Prelude.{◌≡◌, ℕ, ◌-◌, ◌<◌, ◌≤◌, ◌^◌, List, [], ◌∷◌, ◌++◌, length, take, Option, Some, None, Result, Ok}
use Rattle.std.specs.List.{flat_map, AllByRecursion}
use Rattle.canon_bytes.specs.meaning.TextBytes.{spell_bytes}
use Rattle.frame_wire.specs.declared.feed.FrameFault.{FrameFault}
use Rattle.frame_wire.specs.Stream.{Pending, with_bytes, with_first, first_payload, whole_front, IsNext}

-- one step: bytes pushed, so many bytes given up at the end of those that wait, or what `next`
-- answered
pub data Step (F : Type 0) : Type 0 where
  Push : List ℕ → Step F
  Cut : ℕ → Step F
  Next : Result (Option F) FrameFault → Step F

-- bytes without the last so many
abbrev pub without_last : ℕ → List ℕ → List ℕ
without_last count bytes = take (length bytes - count) bytes

-- the bytes of all pushes behind those before, without those that were given up
abbrev pub arrived : {F : Type 0} → List ℕ → List (Step F) → List ℕ
arrived before [] = before
arrived before (Push bytes ∷ steps) = arrived (before ++ bytes) steps
arrived before (Cut count ∷ steps) = arrived (without_last count before) steps
arrived before (Next answer ∷ steps) = arrived before steps

-- the frames that were answered
abbrev pub given : {F : Type 0} → List (Step F) → List F
given [] = []
given (Next (Ok (Some frame)) ∷ steps) = frame ∷ given steps
given (_ ∷ steps) = given steps

module _ {F : Type 0} (spell : F → List ℕ) (fits : F → Type 0) where
  -- the frames, one after the other
  abbrev pub stream : List F → List ℕ
  stream frames = flat_map (λ frame. spell_bytes (spell frame)) frames

  -- each keeps the rules of a frame, and its length has eight bytes
  abbrev pub AreFrames : List F → Type 0
  AreFrames frames = AllByRecursion (λ frame. fits frame × (length (spell frame) < 2 ^ 64)) frames

  -- the steps lead from what a feed holds before to what it holds after
  abbrev pub Leads : Pending → List (Step F) → Pending → Type 0
  Leads before [] after = before ≡ after
  Leads before (Push bytes ∷ steps) after = Leads (with_bytes before bytes) steps after
  Leads before (Cut count ∷ steps) after = (count ≤ length before.bytes)
      × Leads (with_first before (length before.bytes - count)) steps after
  Leads before (Next answer ∷ steps) after = (between : Pending)
      × IsNext spell fits before answer between × Leads between steps after

  -- how many bytes a frame has on the wire
  abbrev pub frame_size : F → ℕ
  frame_size frame = length (spell_bytes (spell frame))

  -- of a stream the first so many bytes are the frames that lie whole in them, and then a part that
  -- is no whole one
  pub record IsWholeFront (frames : List F) (bytes : ℕ) : Type 0 where
    pub part : List ℕ
    pub front : take bytes (stream frames) ≡ stream (whole_front frame_size bytes frames) ++ part
    pub no_frame : first_payload part ≡ None
