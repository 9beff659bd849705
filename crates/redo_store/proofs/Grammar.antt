-- Records that are spelling_of out, and then a closed gate, are read back.
use Rattle.std.proofs.Common.{◌≡◌, ◌≢◌, ℕ, zero, suc, ◌+◌, ◌^◌, ◌<◌, ◌≤◌, List, [], ◌∷◌, ◌++◌, length, take, drop, refl, ◌∙◌, ap, arith, append_assoc, length-append, leb, eqb, true, false}
use Rattle.std.specs.Prelude.{Ok, Err, All, if◌then◌else◌}
use Rattle.std.proofs.lemmas.List.{take_at, drop_at}
use Rattle.std.proofs.lemmas.Nat.{from_be_bytes-to_be_bytes_8}
use Rattle.std.proofs.lemmas.Bool.{le-leb, ne_eqb}
use Rattle.std.proofs.lemmas.List.Elements.{All-head, All-tail}
use Rattle.redo_store.specs.meaning.Records.{magic, length_of, with_first, records_from, records_of}
use Rattle.redo_store.specs.Records.{length_bytes, spelling_of}

pub length-length_bytes : (n : ℕ) → length (length_bytes n) ≡ 8
unfolding length_bytes
length-length_bytes n = refl

pub length_of-length_bytes : (n : ℕ) → n < 2 ^ 64 → length_of (length_bytes n) ≡ n
unfolding length_bytes length_of
length_of-length_bytes n lt = from_be_bytes-to_be_bytes_8 n lt

skip_to : (place k : ℕ) (bytes : List ℕ) → k ≤ length bytes → records_from place k bytes ≡ records_from (place + k) 0 (drop k bytes)
skip_to place zero bytes le = ap (λ p. records_from p 0 bytes) (omega arith)
skip_to place (suc k) [] le = absurd (omega arith)
skip_to place (suc k) (byte ∷ rest) le =
    skip_to (suc place) k rest (omega arith) ∙ ap (λ p. records_from p 0 (drop k rest)) (omega arith)

one_step : (place n : ℕ) (rest : List ℕ) → 9 + n ≤ length rest → (if leb (9 + n) (length rest) then with_first (take n (drop 8 rest)) (records_from (suc place) (8 + n) rest) else Err place) ≡ with_first (take n (drop 8 rest)) (records_from (place + 9 + n) 0 (drop (8 + n) rest))
one_step place n rest le =
    let test : leb (9 + n) (length rest) ≡ true = le-leb (9 + n) (length rest) le in
    let ends = skip_to (suc place) (8 + n) rest (omega (arith, le)) ∙ ap (λ p. records_from p 0 (drop (8 + n) rest)) (omega arith) in
    rw test (ap (with_first (take n (drop 8 rest))) ends)

-- an open record that is whole, read by its length
pub open_front : (place n : ℕ) (rest : List ℕ) → length_of (take 8 rest) ≡ n → 9 + n ≤ length rest → records_from place 0 (1 ∷ rest) ≡ with_first (take n (drop 8 rest)) (records_from (place + 9 + n) 0 (drop (8 + n) rest))
open_front place n rest e le = rw e (one_step place n rest le)

pub read_front : (place : ℕ) (payload more : List ℕ) → length payload < 2 ^ 64 → 0 < length more → records_from place 0 (1 ∷ length_bytes (length payload) ++ payload ++ more) ≡ with_first payload (records_from (place + 9 + length payload) 0 more)
read_front place payload more lt some =
    let n = length payload in
    let spells = length_bytes n in
    let rest = spells ++ payload ++ more in
    let apart : rest ≡ spells ++ (payload ++ more) = append_assoc spells payload more in
    let eight = length-length_bytes n in
    let says : length_of (take 8 rest) ≡ n = ap (λ (l : List ℕ). length_of (take 8 l)) apart ∙ ap length_of (take_at spells (payload ++ more) 8 eight) ∙ length_of-length_bytes n lt in
    let first : take n (drop 8 rest) ≡ payload = ap (λ (l : List ℕ). take n (drop 8 l)) apart ∙ ap (take n) (drop_at spells (payload ++ more) 8 eight) ∙ take_at payload more n refl in
    let behind : drop (8 + n) rest ≡ more = drop_at (spells ++ payload) more (8 + n) (omega (arith, eight, length-append spells payload)) in
    let fits : 9 + n ≤ length rest = omega (arith, eight, some, length-append spells payload, length-append (spells ++ payload) more) in
    open_front place n rest says fits
    ∙ ap (λ (l : List ℕ). with_first l (records_from (place + 9 + n) 0 (drop (8 + n) rest))) first
    ∙ ap (λ (l : List ℕ). with_first payload (records_from (place + 9 + n) 0 l)) behind

pub closed_gate : (place gate : ℕ) (rest : List ℕ) → gate ≢ 1 → records_from place 0 (gate ∷ rest) ≡ Ok []
closed_gate place gate rest closed = let test : eqb gate 1 ≡ false = ne_eqb gate 1 closed in rw test refl

pub read_all : (place : ℕ) (records : List (List ℕ)) (gate : ℕ) (rest : List ℕ) → All (λ payload. length payload < 2 ^ 64) records → gate ≢ 1 → records_from place 0 (spelling_of records ++ gate ∷ rest) ≡ Ok records
read_all place [] gate rest lengths closed = closed_gate place gate rest closed
read_all place (payload ∷ records) gate rest lengths closed =
    let P : List ℕ → Type 0 = λ p. length p < 2 ^ 64 in
    ap (records_from place 0) (append_assoc (1 ∷ length_bytes (length payload) ++ payload) (spelling_of records) (gate ∷ rest))
    ∙ read_front place payload (spelling_of records ++ gate ∷ rest) (All-head P payload records lengths) (omega (arith, length-append (spelling_of records) (gate ∷ rest)))
    ∙ ap (with_first payload) (read_all (place + 9 + length payload) records gate rest (All-tail P payload records lengths) closed)

pub read_image : (records : List (List ℕ)) (gate : ℕ) (rest : List ℕ) → All (λ payload. length payload < 2 ^ 64) records → gate ≢ 1 → records_of (magic ++ spelling_of records ++ gate ∷ rest) ≡ Ok records
unfolding records_of
read_image records gate rest lengths closed = read_all 8 records gate rest lengths closed
