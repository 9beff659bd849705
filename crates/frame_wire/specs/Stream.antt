-- A stream of frames as it arrives. A frame is spelled like octets: the number of its payload's
-- bytes, and the payload.
use Rattle.std.specs.Prelude.{◌≡◌, ◌≢◌, ℕ, ◌-◌, ◌<◌, ◌^◌, ◌⊎◌, Bool, true, false, List, [], ◌∷◌, ◌++◌, length, take, drop, Option, Some, None, Result, Ok, Err, nat_lt, nat_le, if◌then◌else◌}
use Rattle.std.specs.Int.{w64, from_be_bytes}
use Rattle.canon_bytes.specs.meaning.TextBytes.{spell_bytes}
use Rattle.frame_wire.specs.declared.feed.FrameFault.{FrameFault}
use Rattle.frame_wire.specs.declared.feed.FrameFault.TheVariants.{NoMemory, BadFrame}

-- what a feed holds: the bytes that are not yet read, and whether a frame was bad
pub record Pending : Type 0 where
  pub bytes : List ℕ
  pub bad : Bool

abbrev pub nothing_pending : Pending
nothing_pending = record { bytes = []; bad = false }

-- with more bytes behind
abbrev pub with_bytes : Pending → List ℕ → Pending
with_bytes pending bytes = record { bytes = pending.bytes ++ bytes; bad = pending.bad }

-- with the first n bytes alone
abbrev pub with_first : Pending → ℕ → Pending
with_first pending n = record { bytes = take n pending.bytes; bad = pending.bad }

-- the payload that a frame's length announces; none where the length or the payload has not arrived
-- whole
unfoldable pub first_payload : List ℕ → Option (List ℕ)
first_payload bytes =
    if nat_lt (length bytes) 8 then None
    else (if nat_lt (length (drop 8 bytes)) (from_be_bytes w64 (take 8 bytes)) then None
    else Some (take (from_be_bytes w64 (take 8 bytes)) (drop 8 bytes)))

-- those that lie whole in the first so many bytes, where each has a size
abbrev pub whole_front : {A : Type 0} → (A → ℕ) → ℕ → List A → List A
whole_front size bytes [] = []
whole_front size bytes (first ∷ later) =
    if nat_le (size first) bytes then first ∷ whole_front size (bytes - size first) later else []

module _ {F : Type 0} (spell : F → List ℕ) (fits : F → Type 0) where
  -- a frame stands first, and these bytes behind it
  pub record StandsFirst (bytes : List ℕ) (frame : F) (rest : List ℕ) : Type 0 where
    pub front : bytes ≡ spell_bytes (spell frame) ++ rest
    pub fitting : fits frame
    pub short : length (spell frame) < 2 ^ 64

  -- a whole payload stands first, and it is that of no frame
  abbrev pub IsBadFront : List ℕ → Type 0
  IsBadFront bytes = (payload : List ℕ) × (first_payload bytes ≡ Some payload)
      × ((frame : F) → fits frame → spell frame ≢ payload)

  -- no frame stands first: no whole payload does, or one that is that of no frame
  abbrev pub HasNoFrame : List ℕ → Type 0
  HasNoFrame bytes = (first_payload bytes ≡ None) ⊎ IsBadFront bytes

  -- what `next` answers and leaves: the frame that stands first, which is taken off; none where no
  -- whole one does; a bad frame where one stands first or was met before, and for good; and after
  -- want of memory all is as before
  abbrev pub IsNext : Pending → Result (Option F) FrameFault → Pending → Type 0
  IsNext before (Ok (Some frame)) after = (before.bad ≡ false)
      × StandsFirst before.bytes frame after.bytes × (after.bad ≡ false)
  IsNext before (Ok None) after = (before.bad ≡ false) × (first_payload before.bytes ≡ None)
      × (after ≡ before)
  IsNext before (Err BadFrame) after = ((before.bad ≡ true) ⊎ IsBadFront before.bytes)
      × (after ≡ record {
        bytes = before.bytes;
        bad = true;
      })
  IsNext before (Err NoMemory) after = (before.bad ≡ false) × (after ≡ before)
