-- The whole records of an image: those of a store that is read, and those in front of a damage.
use Rattle.std.proofs.Common.{◌≡◌, ℕ, zero, suc, ◌+◌, ◌^◌, ◌<◌, ◌≤◌, Bool, true, false, List, [], ◌∷◌, ◌++◌, length, take, drop, refl, ◌∙◌, ap, arith, append_assoc, length-append, leb}
use Rattle.std.specs.Prelude.{◌==◌, Result, Ok, Err, if◌then◌else◌}
use Rattle.std.specs.Str.{bytes_eq}
use Rattle.std.proofs.lemmas.List.{take_at, drop_at}
use Rattle.std.proofs.lemmas.Bool.{le-leb}
use Rattle.redo_store.specs.meaning.Records.{magic, length_of, is_whole, payload_of, with_first, records_from, records_of, whole_from, whole_records}
use Rattle.redo_store.specs.Records.{length_bytes}
use Rattle.redo_store.proofs.Grammar.{length-length_bytes, length_of-length_bytes}

-- one gate that is read
gate_read : (is_open whole : Bool) (payload : List ℕ) (rest : Result (List (List ℕ)) ℕ) (more : List (List ℕ)) (place : ℕ) (records : List (List ℕ))
    → ((tail : List (List ℕ)) → rest ≡ Ok tail → more ≡ tail)
    → (if is_open then (if whole then with_first payload rest else Err place) else Ok []) ≡ Ok records
    → (if is_open then (if whole then payload ∷ more else []) else []) ≡ records
gate_read false whole payload rest more place records later e = cc
gate_read true false payload rest more place records later e = absurd cc
gate_read true true payload (Ok tail) more place records later e = ap (λ (l : List (List ℕ)). payload ∷ l) (later tail refl) ∙ cc
gate_read true true payload (Err at) more place records later e = absurd cc

whole_from_read : (place skip : ℕ) (bytes : List ℕ) (records : List (List ℕ)) → records_from place skip bytes ≡ Ok records → whole_from skip bytes ≡ records
whole_from_read place skip [] records e = absurd cc
whole_from_read place (suc skip) (byte ∷ behind) records e = whole_from_read (suc place) skip behind records e
whole_from_read place zero (gate ∷ behind) records e =
    let skip = 8 + length_of (take 8 behind) in
    gate_read (gate == 1) (is_whole behind) (payload_of behind) (records_from (suc place) skip behind) (whole_from skip behind) place records (λ tail. whole_from_read (suc place) skip behind tail) e

begun_read : (begins : Bool) (image : List ℕ) (records : List (List ℕ)) → (if begins then records_from 8 0 (drop 8 image) else Err 0) ≡ Ok records → (if begins then whole_from 0 (drop 8 image) else []) ≡ records
begun_read true image records e = whole_from_read 8 0 (drop 8 image) records e
begun_read false image records e = absurd cc

-- the whole records of an image that is no damaged one are its records
pub whole_of_read : (image : List ℕ) (records : List (List ℕ)) → records_of image ≡ Ok records → whole_records image ≡ records
unfolding records_of whole_records
whole_of_read image records e = begun_read (bytes_eq (take 8 image) magic) image records e

whole_skip : (k : ℕ) (bytes : List ℕ) → whole_from k bytes ≡ whole_from 0 (drop k bytes)
whole_skip zero bytes = refl
whole_skip (suc k) [] = refl
whole_skip (suc k) (byte ∷ behind) = whole_skip k behind

whole_step : (n : ℕ) (rest : List ℕ) → 9 + n ≤ length rest → (if leb (9 + n) (length rest) then take n (drop 8 rest) ∷ whole_from (8 + n) rest else []) ≡ take n (drop 8 rest) ∷ whole_from 0 (drop (8 + n) rest)
whole_step n rest le =
    let test : leb (9 + n) (length rest) ≡ true = le-leb (9 + n) (length rest) le in
    rw test (ap (λ (l : List (List ℕ)). take n (drop 8 rest) ∷ l) (whole_skip (8 + n) rest))

open_front : (n : ℕ) (rest : List ℕ) → length_of (take 8 rest) ≡ n → 9 + n ≤ length rest → whole_from 0 (1 ∷ rest) ≡ take n (drop 8 rest) ∷ whole_from 0 (drop (8 + n) rest)
open_front n rest e le = rw e (whole_step n rest le)

-- an open record with more behind it stands in front of what is read from there on
pub whole_front : (payload more : List ℕ) → length payload < 2 ^ 64 → 0 < length more → whole_from 0 (1 ∷ length_bytes (length payload) ++ payload ++ more) ≡ payload ∷ whole_from 0 more
whole_front payload more lt some =
    let n = length payload in
    let spells = length_bytes n in
    let rest = spells ++ payload ++ more in
    let apart : rest ≡ spells ++ (payload ++ more) = append_assoc spells payload more in
    let eight = length-length_bytes n in
    let says : length_of (take 8 rest) ≡ n = ap (λ (l : List ℕ). length_of (take 8 l)) apart ∙ ap length_of (take_at spells (payload ++ more) 8 eight) ∙ length_of-length_bytes n lt in
    let first : take n (drop 8 rest) ≡ payload = ap (λ (l : List ℕ). take n (drop 8 l)) apart ∙ ap (take n) (drop_at spells (payload ++ more) 8 eight) ∙ take_at payload more n refl in
    let behind : drop (8 + n) rest ≡ more = drop_at (spells ++ payload) more (8 + n) (omega (arith, eight, length-append spells payload)) in
    let fits : 9 + n ≤ length rest = omega (arith, eight, some, length-append spells payload, length-append (spells ++ payload) more) in
    open_front n rest says fits
    ∙ ap (λ (l : List ℕ). l ∷ whole_from 0 (drop (8 + n) rest)) first
    ∙ ap (λ (l : List ℕ). payload ∷ whole_from 0 l) behind
