-- The grammar of a store's bytes.
use Rattle.std.specs.Prelude.{ℕ, Bool, suc, zero, ◌+◌, ◌==◌, if◌then◌else◌, nat_le, List, [], ◌∷◌, length, take, drop, Result, Ok, Err}
use Rattle.std.specs.Str.{bytes_eq}
use Rattle.std.specs.Int.{from_be_bytes, w64}

-- the bytes of "TGSTORE1"
abbrev pub magic : List ℕ
magic = 84 ∷ 71 ∷ 83 ∷ 84 ∷ 79 ∷ 82 ∷ 69 ∷ 49 ∷ []

-- the length that eight bytes spell
unfoldable pub length_of : List ℕ → ℕ
length_of bytes = from_be_bytes w64 bytes

-- whether a whole length, a whole payload and one more byte stand behind an open gate
abbrev pub is_whole : List ℕ → Bool
is_whole behind = nat_le (9 + length_of (take 8 behind)) (length behind)

-- the payload behind an open gate
abbrev pub payload_of : List ℕ → List ℕ
payload_of behind = take (length_of (take 8 behind)) (drop 8 behind)

-- a record in front of others that were read
abbrev pub with_first : List ℕ → Result (List (List ℕ)) ℕ → Result (List (List ℕ)) ℕ
with_first payload (Ok records) = Ok (payload ∷ records)
with_first payload (Err place) = Err place

-- The payloads of the records from `place` on, or the place of the first gate that is damaged: an
-- open one with no whole record and one more byte behind it. The first `skip` bytes belong to the
-- record before.
abbrev pub records_from : ℕ → ℕ → List ℕ → Result (List (List ℕ)) ℕ
records_from place skip [] = Err place
records_from place (suc skip) (byte ∷ behind) = records_from (suc place) skip behind
records_from place zero (gate ∷ behind) =
    if gate == 1 then (if is_whole behind then
    with_first (payload_of behind) (records_from (suc place) (8 + length_of (take 8 behind))
    behind) else Err place) else Ok []

-- the payloads of the records of an image, or the place where it is damaged: 0 where it doesn't
-- begin as a store
unfoldable pub records_of : List ℕ → Result (List (List ℕ)) ℕ
records_of image = if bytes_eq (take 8 image) magic then records_from 8 0 (drop 8 image) else Err 0

-- The payloads of the whole records from the front of the bytes on, up to the first gate that is
-- closed or damaged. The first `skip` bytes belong to the record before.
abbrev pub whole_from : ℕ → List ℕ → List (List ℕ)
whole_from skip [] = []
whole_from (suc skip) (byte ∷ behind) = whole_from skip behind
whole_from zero (gate ∷ behind) = if gate == 1 then
    (if is_whole behind then payload_of behind
    ∷ whole_from (8 + length_of (take 8 behind)) behind else []) else []

-- the payloads of the whole records of an image, also of one that is damaged behind them: none
-- where it doesn't begin as a store
unfoldable pub whole_records : List ℕ → List (List ℕ)
whole_records image = if bytes_eq (take 8 image) magic then whole_from 0 (drop 8 image) else []
