-- How many bytes of an image its records take.
use Rattle.std.proofs.Common.{◌≡◌, ℕ, zero, suc, ◌+◌, ◌≤◌, Bool, true, false, List, [], ◌∷◌, ◌++◌, length, take, drop, refl, ap, arith, length-append, length-take, length-drop}
use Rattle.std.specs.Prelude.{◌==◌, Result, Ok, Err, if◌then◌else◌}
use Rattle.std.specs.Str.{bytes_eq}
use Rattle.redo_store.specs.meaning.Records.{magic, length_of, is_whole, payload_of, with_first, records_from, records_of}
use Rattle.redo_store.specs.Records.{length_bytes, spelling_of}
use Rattle.redo_store.proofs.Grammar.{length-length_bytes}

pub length-spelling_of : (payload : List ℕ) (payloads : List (List ℕ)) → length (spelling_of (payload ∷ payloads)) ≡ 9 + length payload + length (spelling_of payloads)
length-spelling_of payload payloads =
    omega (arith, length-length_bytes (length payload), length-append (1 ∷ length_bytes (length payload) ++ payload) (spelling_of payloads), length-append (1 ∷ length_bytes (length payload)) payload)

-- a payload is no longer than its length says
payload_long : (behind : List ℕ) → length (payload_of behind) ≤ length_of (take 8 behind)
payload_long behind = omega (arith, length-take (length_of (take 8 behind)) (drop 8 behind))

-- one gate that is read
gate_long : (is_open whole : Bool) (payload : List ℕ) (rest : Result (List (List ℕ)) ℕ) (place n : ℕ) (behind : List ℕ) (records : List (List ℕ)) → length payload ≤ n
    → ((tail : List (List ℕ)) → rest ≡ Ok tail → length (spelling_of tail) + (8 + n) ≤ length behind)
    → (if is_open then (if whole then with_first payload rest else Err place) else Ok []) ≡ Ok records
    → length (spelling_of records) + 0 ≤ suc (length behind)
gate_long false whole payload rest place n behind records long later e =
    let none : [] ≡ records = cc in
    omega (arith, ap (λ (l : List (List ℕ)). length (spelling_of l)) none)
gate_long true false payload rest place n behind records long later e = absurd cc
gate_long true true payload (Ok tail) place n behind records long later e =
    let are : payload ∷ tail ≡ records = cc in
    omega (arith, ap (λ (l : List (List ℕ)). length (spelling_of l)) are, length-spelling_of payload tail, later tail refl, long)
gate_long true true payload (Err at) place n behind records long later e = absurd cc

within_from : (place skip : ℕ) (bytes : List ℕ) (records : List (List ℕ)) → records_from place skip bytes ≡ Ok records → length (spelling_of records) + skip ≤ length bytes
within_from place skip [] records e = absurd cc
within_from place (suc skip) (byte ∷ behind) records e = omega (arith, within_from (suc place) skip behind records e)
within_from place zero (gate ∷ behind) records e =
    let n = length_of (take 8 behind) in
    gate_long (gate == 1) (is_whole behind) (payload_of behind) (records_from (suc place) (8 + n) behind) place n behind records (payload_long behind) (λ tail. within_from (suc place) (8 + n) behind tail) e

begun_within : (begins : Bool) (image : List ℕ) (records : List (List ℕ)) → (if begins then records_from 8 0 (drop 8 image) else Err 0) ≡ Ok records → length (spelling_of records) ≤ length image
begun_within true image records e = omega (arith, within_from 8 0 (drop 8 image) records e, length-drop 8 image)
begun_within false image records e = absurd cc

-- the records of an image take no more bytes than it has
pub records_within : (image : List ℕ) (records : List (List ℕ)) → records_of image ≡ Ok records → length (spelling_of records) ≤ length image
unfolding records_of
records_within image records e = begun_within (bytes_eq (take 8 image) magic) image records e
