-- What was written is read again, whatever follows: numbers, texts and lists.
use Rattle.std.proofs.Common.{◌≡◌, ℕ, ℤ, suc, ◌^◌, ◌<◌, ◌≤◌, Bool, true, false, ltb, List, [], ◌∷◌, ◌++◌, length, Result, Ok, refl, ap, ◌∙◌, append_assoc, arith}
use Rattle.std.specs.Int.{Width, w64, byte_len, from_be_bytes, to_be_bytes}
use Rattle.std.specs.List.{flat_map, AllByRecursion}
use Rattle.std.proofs.lemmas.Bool.{le-ltb}
use Rattle.std.proofs.lemmas.List.{take_at, drop_at, length-append}
use Rattle.std.proofs.lemmas.Nat.{from_be_bytes-to_be_bytes_8}
use Rattle.std.proofs.lemmas.Int.{ints, to_z-of_z}
use Rattle.std.proofs.lemmas.Str.{is_utf8-from_IsUtf8}
use mir.Val.{of_z}
use Rattle.svc_values.specs.meaning.Texts.{is_name}
use Rattle.canon_bytes.specs.declared.fault.Fault.{Fault}
use Rattle.canon_bytes.specs.meaning.Numbers.{spell_u64, spell_i64, spell_bool, wide_at, u64_at, i64_at, bool_at}
use Rattle.canon_bytes.specs.Numbers.{FitsU64, FitsI64, FitsBool}
use Rattle.canon_bytes.specs.meaning.TextBytes.{spell_bytes, bytes_at, name_at, text_at, octets_at}
use Rattle.canon_bytes.specs.TextBytes.{FitsName, FitsText, FitsOctets}
use Rattle.canon_bytes.specs.meaning.Lists.{spell_list, items_at, list_at, listed_at}
use Rattle.canon_bytes.specs.Lists.{FitsList, FitsListed}

wide_again : (w : Width) (n : ℕ) (rest : List ℕ) → length (to_be_bytes w n) ≡ byte_len w
    → from_be_bytes w (to_be_bytes w n) ≡ n → wide_at w (to_be_bytes w n ++ rest) ≡ Ok (n, rest)
wide_again w n rest len back =
    let long : ltb (length (to_be_bytes w n ++ rest)) (byte_len w) ≡ false =
    le-ltb _ _ (omega (arith, length-append (to_be_bytes w n) rest)) in
    rw (
      long,
      take_at (to_be_bytes w n) rest (byte_len w) len,
      drop_at (to_be_bytes w n) rest (byte_len w) len,
      back,
    ) refl

pub u64_again : (n : ℕ) (rest : List ℕ) → FitsU64 n → u64_at (spell_u64 n ++ rest) ≡ Ok (n, rest)
unfolding u64_at spell_u64
u64_again n rest fits = wide_again w64 n rest refl (from_be_bytes-to_be_bytes_8 n fits)

pub i64_again : (z : ℤ) (rest : List ℕ) → FitsI64 z → i64_at (spell_i64 z ++ rest) ≡ Ok (z, rest)
unfolding i64_at spell_i64 spell_u64
i64_again z rest fits =
    let below : of_z w64 z < 2 ^ 64 = omega (arith, ints) in
    let first : u64_at (spell_u64 (of_z w64 z) ++ rest) ≡ Ok (of_z w64 z, rest) =
    u64_again (of_z w64 z) rest below in
    rw (first, to_z-of_z w64 z fits) refl

pub bool_again : (b : Bool) (rest : List ℕ) → FitsBool b
    → bool_at (spell_bool b ++ rest) ≡ Ok (b, rest)
unfolding bool_at
bool_again true rest fits = refl
bool_again false rest fits = refl

pub bytes_again : (limit : ℕ) (bytes rest : List ℕ) → limit < 2 ^ 64 → length bytes ≤ limit
    → bytes_at limit (spell_bytes bytes ++ rest) ≡ Ok (bytes, rest)
unfolding bytes_at spell_bytes
bytes_again limit bytes rest small le =
    let few : ltb limit (length bytes) ≡ false = le-ltb _ _ le in
    let long : ltb (length (bytes ++ rest)) (length bytes) ≡ false =
    le-ltb _ _ (omega (arith, length-append bytes rest)) in
    let below : length bytes < 2 ^ 64 = omega arith in
    rw (
      append_assoc (spell_u64 (length bytes)) bytes rest,
      u64_again (length bytes) (bytes ++ rest) below,
      few,
      long,
      take_at bytes rest (length bytes) refl,
      drop_at bytes rest (length bytes) refl,
    ) refl

pub octets_again : (bytes rest : List ℕ) → FitsOctets bytes
    → octets_at (spell_bytes bytes ++ rest) ≡ Ok (bytes, rest)
unfolding octets_at
octets_again bytes rest fits = bytes_again 64 bytes rest (omega arith) fits

pub text_again : (text rest : List ℕ) → FitsText text → text_at (spell_bytes text ++ rest) ≡ Ok
    (text, rest)
unfolding text_at
text_again text rest fits = rw (
  bytes_again 64 text rest (omega arith) fits.0,
  is_utf8-from_IsUtf8 text fits.1,
) refl

is_name-short : (name : List ℕ) → is_name name ≡ true → length name ≤ 16
is_name-short [] is = omega arith
is_name-short (b ∷ name) is = grind arith

pub name_again : (name rest : List ℕ) → FitsName name → name_at (spell_bytes name ++ rest) ≡ Ok
    (name, rest)
unfolding name_at
name_again name rest fits =
    let is : is_name name ≡ true = fits in
    rw (bytes_again 16 name rest (omega arith) (is_name-short name is), is) refl

-- ---- lists

items_again : {X : Type 0} (spell : X → List ℕ) (fits : X → Type 0)
    (item_at : List ℕ → Result (X × List ℕ) Fault)
    → ((x : X) (rest : List ℕ) → fits x → item_at (spell x ++ rest) ≡ Ok (x, rest))
    → (xs : List X) (rest : List ℕ) → AllByRecursion fits xs
    → items_at item_at (length xs) (flat_map spell xs ++ rest) ≡ Ok (xs, rest)
unfolding items_at
items_again spell fits item_at again [] rest all = refl
items_again spell fits item_at again (x ∷ xs) rest all =
    let regrouped : flat_map spell (x ∷ xs) ++ rest ≡ spell x ++ (flat_map spell xs ++ rest) =
    append_assoc (spell x) (flat_map spell xs) rest in
    ap (items_at item_at (suc (length xs))) regrouped ∙ rw (
      again x (flat_map spell xs ++ rest) all.0,
      items_again spell fits item_at again xs rest all.1,
    ) refl

pub list_again : {X : Type 0} (spell : X → List ℕ) (fits : X → Type 0)
    (item_at : List ℕ → Result (X × List ℕ) Fault)
    → ((x : X) (rest : List ℕ) → fits x → item_at (spell x ++ rest) ≡ Ok (x, rest))
    → (limit : ℕ) (xs : List X) (rest : List ℕ) → FitsList fits limit xs
    → list_at item_at limit (spell_list spell xs ++ rest) ≡ Ok (xs, rest)
unfolding list_at spell_list
list_again spell fits item_at again limit xs rest all =
    let few : ltb limit (length xs) ≡ false = le-ltb _ _ all.0 in
    rw (
      append_assoc (spell_u64 (length xs)) (flat_map spell xs) rest,
      u64_again (length xs) (flat_map spell xs ++ rest) all.1.0,
      few,
    ) (items_again spell fits item_at again xs rest all.1.1)

pub listed_again : {X : Type 0} (spell : X → List ℕ) (fits : X → Type 0)
    (item_at : List ℕ → Result (X × List ℕ) Fault)
    → ((x : X) (rest : List ℕ) → fits x → item_at (spell x ++ rest) ≡ Ok (x, rest))
    → (xs : List X) (rest : List ℕ) → FitsListed fits xs
    → listed_at item_at (spell_list spell xs ++ rest) ≡ Ok (xs, rest)
unfolding listed_at spell_list
listed_again spell fits item_at again xs rest all =
    rw (
      append_assoc (spell_u64 (length xs)) (flat_map spell xs) rest,
      u64_again (length xs) (flat_map spell xs ++ rest) all.0,
    )
    (items_again spell fits item_at again xs rest all.1)
