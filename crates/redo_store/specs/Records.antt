-- The grammar of a store's bytes.
-- Here is what contracts and proofs say of it besides.
use Rattle.std.specs.Prelude.{ℕ, ◌+◌, List, [], ◌∷◌, ◌++◌, length, drop, Result, Ok, Err}
use Rattle.std.specs.Int.{to_be_bytes, w64}

-- a length as eight bytes, the most significant first
unfoldable pub length_bytes : ℕ → List ℕ
length_bytes n = to_be_bytes w64 n

-- the payload in the memory in which a record is made: it stands behind eight bytes, in whose place
-- its length is written
abbrev pub payload_in : List ℕ → List ℕ
payload_in made = drop 8 made

-- the bytes of open records with these payloads
abbrev pub spelling_of : List (List ℕ) → List ℕ
spelling_of [] = []
spelling_of (payload ∷ payloads) = 1 ∷ length_bytes (length payload) ++ payload
    ++ spelling_of payloads

-- the records with one more, last
abbrev pub with_last : List ℕ → Result (List (List ℕ)) ℕ → Result (List (List ℕ)) ℕ
with_last payload (Ok records) = Ok (records ++ payload ∷ [])
with_last payload (Err place) = Err place

-- how many records there are, and none where the image is damaged
abbrev pub record_count : Result (List (List ℕ)) ℕ → ℕ
record_count (Ok records) = length records
record_count (Err place) = 0
