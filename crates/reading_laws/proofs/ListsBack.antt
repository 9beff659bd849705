-- Numbers, octets and lists are read of what is written of them.
use Rattle.std.proofs.Common.{◌≡◌, ℕ, zero, suc, ◌^◌, ◌-◌, ◌/◌, ◌%◌, ◌&&◌, ℤ, pos, negsuc, nat_le, List, [], ◌∷◌, ◌++◌, map, length, Bool, true, false, Result, Ok, refl, sym, ap, ◌∙◌, arith, append_assoc, append-nil}
use Rattle.std.specs.Prelude.{⊤}
use Rattle.std.specs.List.{AllByRecursion, list_all, list_any, slice_index}
use Rattle.std.proofs.lemmas.Bool.{ltb-true, le-leb, or_parts, or_from}
use Rattle.hex.specs.Hex.{IsBytes, encode_with, lower_digits}
use Rattle.hex.proofs.HexLemmas.{decode_of-encode_lower}
use Rattle.serde_json.specs.Data.{Data}
use Rattle.serde_json.specs.View.{items_of}
use Rattle.serde_json.specs.Events.{items_len}
use Rattle.json_form.specs.declared.hexadecimal.Digits.TheVariants as case
use Rattle.json_form.specs.meaning.Faults.{Fault}
use Rattle.json_form.specs.meaning.Values.{fits_i64, whole_of, integer_of}
use Rattle.json_form.specs.meaning.Texts.{is_capital, octets_of}
use Rattle.json_form.specs.meaning.Arrays.{each_after, each_of, list_of, array_of}
use Rattle.json_form.specs.meaning.Writing.{whole, integer, list_by}
use Rattle.json_form.proofs.Offered.{first_true, second_true, both_true}
use Rattle.answer_forms.specs.meaning.Parts.{number_in}
use Rattle.report_text.specs.meaning.Values.{digits}
use Rattle.report_limits.specs.meaning.Limits.{fits_u64}

pub number_back : (n : ℕ) → fits_u64 n ≡ true → number_in (whole n) ≡ Ok n
unfolding whole_of
number_back n fits =
    let below = ltb-true n (2 ^ 64) fits in
    rw (both_true _ _ (le-leb 0 n (omega arith)) (le-leb n (2 ^ 64 - 1) (omega (arith, below)))) refl

pub integer_back : (z : ℤ) → fits_i64 z ≡ true → integer_of (integer z) ≡ Ok z
unfolding integer_of
integer_back (pos n) fits = rw fits refl
integer_back (negsuc n) fits = rw fits refl

-- ---- octets

plain_digit : (table : List ℕ) (n : ℕ) → list_any is_capital table ≡ false → is_capital (slice_index table n) ≡ false
plain_digit [] zero plain = refl
plain_digit [] (suc n) plain = refl
plain_digit (x ∷ table) zero plain = (or_parts (is_capital x) (list_any is_capital table) plain).0
plain_digit (x ∷ table) (suc n) plain = plain_digit table n (or_parts (is_capital x) (list_any is_capital table) plain).1

pub no_capitals : (octets : List ℕ) → list_any is_capital (encode_with lower_digits octets) ≡ false
unfolding encode_with
no_capitals [] = refl
no_capitals (b ∷ octets) =
    or_from (is_capital (slice_index lower_digits (b / 16))) _ (plain_digit lower_digits (b / 16) refl)
    (or_from (is_capital (slice_index lower_digits (b % 16))) _ (plain_digit lower_digits (b % 16) refl) (no_capitals octets))

pub octets_back : (octets : List ℕ) → IsBytes octets → octets_of case.Lower (digits octets) ≡ Ok octets
octets_back octets are = rw (no_capitals octets, decode_of-encode_lower octets are) refl

-- ---- lists

-- the items that are left, behind those that were read
pub each_back : {A : Type 0} (P : A → Type 0) (fits : A → Bool) (reads : Data → Result A Fault) (writes : A → Data)
    → ((x : A) → P x → fits x ≡ true → reads (writes x) ≡ Ok x)
    → (before xs : List A) → AllByRecursion P xs → list_all fits xs ≡ true → each_after (λ before. reads) before (items_of (map writes xs)) ≡ Ok (before ++ xs)
each_back P fits reads writes back before [] all good = ap Ok (sym (append-nil before))
each_back P fits reads writes back before (x ∷ xs) all good =
    rw (back x all.0 (first_true _ _ good))
    (each_back P fits reads writes back (before ++ x ∷ []) xs all.1 (second_true _ _ good) ∙ ap Ok (append_assoc before (x ∷ []) xs))

-- an array of any length
pub list_back : {A : Type 0} (P : A → Type 0) (fits : A → Bool) (reads : Data → Result A Fault) (writes : A → Data)
    → ((x : A) → P x → fits x ≡ true → reads (writes x) ≡ Ok x)
    → (xs : List A) → AllByRecursion P xs → list_all fits xs ≡ true → list_of (each_of reads) (list_by writes xs) ≡ Ok xs
list_back P fits reads writes back xs all good = each_back P fits reads writes back [] xs all good

nothing_asked : {A : Type 0} (xs : List A) → AllByRecursion (λ _. ⊤) xs
nothing_asked [] = tt
nothing_asked (x ∷ xs) = (tt, nothing_asked xs)

-- where nothing is asked of the items but their limits
pub plain_back : {A : Type 0} (fits : A → Bool) (reads : Data → Result A Fault) (writes : A → Data)
    → ((x : A) → fits x ≡ true → reads (writes x) ≡ Ok x)
    → (xs : List A) → list_all fits xs ≡ true → list_of (each_of reads) (list_by writes xs) ≡ Ok xs
plain_back fits reads writes back xs good = list_back (λ _. ⊤) fits reads writes (λ x _ h. back x h) xs (nothing_asked xs) good

-- as many items as there are things
pub as_many : {A : Type 0} (writes : A → Data) (xs : List A) → items_len (items_of (map writes xs)) ≡ length xs
as_many writes [] = refl
as_many writes (x ∷ xs) = ap suc (as_many writes xs)

-- an array of low to high items
pub array_back : {A : Type 0} (P : A → Type 0) (fits : A → Bool) (reads : Data → Result A Fault) (writes : A → Data)
    → ((x : A) → P x → fits x ≡ true → reads (writes x) ≡ Ok x)
    → (low high : ℕ) (xs : List A) → AllByRecursion P xs → list_all fits xs ≡ true → (nat_le low (length xs) && nat_le (length xs) high) ≡ true
    → array_of low high (each_of reads) (list_by writes xs) ≡ Ok xs
array_back P fits reads writes back low high xs all good count =
    rw (as_many writes xs, count) (each_back P fits reads writes back [] xs all good)

-- at most so many
pub few : (n high : ℕ) → nat_le n high ≡ true → (nat_le 0 n && nat_le n high) ≡ true
few n high below = both_true _ _ (le-leb 0 n (omega arith)) below

-- both sides of a conjunction of tests
pub both_of : (a b : Bool) → (a && b) ≡ true → (a ≡ true) × (b ≡ true)
both_of a b h = (first_true a b h, second_true a b h)

-- both facts of each
pub joined : {A : Type 0} (P : A → Type 0) (fits : A → Bool) (xs : List A) → AllByRecursion P xs → list_all fits xs ≡ true → AllByRecursion (λ x. P x × (fits x ≡ true)) xs
joined P fits [] all good = tt
joined P fits (x ∷ xs) all good = ((all.0, first_true _ _ good), joined P fits xs all.1 (second_true _ _ good))
