-- What stands where in a JSON value: null, 0 or nothing where there is no such place.
use Rattle.std.proofs.Common.{◌≡◌, ℕ, zero, suc, ℤ, pos, negsuc, Bool, true, false, List, [], ◌∷◌, map, Result, Ok, Err, refl, ap, if◌then◌else◌}
use Rattle.std.specs.Str.{bytes_eq}
use Rattle.std.specs.List.{AllByRecursion}
use Rattle.hex.specs.Hex.{IsBytes, decode_of}
use Rattle.hex.specs.declared.error.FromHexError.{FromHexError}
use Rattle.hex.proofs.HexLemmas.{decode_of-encode_lower}
use Rattle.serde_json.specs.Data.{Num, unsigned, negative, float, Data, null, boolean, number, string, array, object, Items, no_items, item, Members, no_members, member}
use Rattle.serde_json.specs.View.{items_of}
use Rattle.json_form.specs.meaning.Writing.{integer, list_by}
use Rattle.report_text.specs.meaning.Values.{digits}

abbrev pub nat_in : Data → ℕ
nat_in (number (unsigned n)) = n
nat_in _ = 0

abbrev pub int_of : Num → ℤ
int_of (unsigned n) = pos n
int_of (negative z) = z
int_of (float x) = pos 0

abbrev pub int_in : Data → ℤ
int_in (number n) = int_of n
int_in _ = pos 0

abbrev pub text_in : Data → List ℕ
text_in (string s) = s
text_in _ = []

abbrev pub flag_in : Data → Bool
flag_in (boolean b) = b
flag_in _ = false

abbrev pub is_flag : Data → Bool
is_flag (boolean b) = true
is_flag _ = false

abbrev pub is_text : List ℕ → Data → Bool
is_text word d = bytes_eq word (text_in d)

abbrev pub listed : Items → List Data
listed no_items = []
listed (item d ds) = d ∷ listed ds

abbrev pub items : Data → List Data
items (array ds) = listed ds
items _ = []

abbrev pub part : ℕ → List Data → Data
part n [] = null
part zero (d ∷ ds) = d
part (suc n) (d ∷ ds) = part n ds

abbrev pub behind : List Data → List Data
behind [] = []
behind (d ∷ ds) = ds

abbrev pub members_in : Data → Members
members_in (object ms) = ms
members_in _ = no_members

-- the name of the first member
abbrev pub first_name : Members → List ℕ
first_name no_members = []
first_name (member name d ms) = name

-- the value of the first member
abbrev pub first_value : Members → Data
first_value no_members = null
first_value (member name d ms) = d

abbrev pub value_at : List ℕ → Members → Data
value_at name no_members = null
value_at name (member other d ms) = if bytes_eq name other then d else value_at name ms

abbrev pub octets_or_none : Result (List ℕ) FromHexError → List ℕ
octets_or_none (Ok octets) = octets
octets_or_none (Err e) = []

abbrev pub digits_in : Data → List ℕ
digits_in d = octets_or_none (decode_of (text_in d))

abbrev pub list_in : {A : Type 0} → (Data → A) → Data → List A
list_in reads d = map reads (items d)

pub int_back : (z : ℤ) → int_in (integer z) ≡ z
int_back (pos n) = refl
int_back (negsuc n) = refl

pub digits_back : (octets : List ℕ) → IsBytes octets → digits_in (digits octets) ≡ octets
digits_back octets are = ap octets_or_none (decode_of-encode_lower octets are)

pub listed_back : (ds : List Data) → listed (items_of ds) ≡ ds
listed_back [] = refl
listed_back (d ∷ ds) = ap (λ rest. d ∷ rest) (listed_back ds)

-- a list that is read item by item, where each item P is read again
pub list_back : {A : Type 0} (P : A → Type 0) (reads : Data → A) (writes : A → Data) → ((x : A) → P x → reads (writes x) ≡ x) → (xs : List A) → AllByRecursion P xs → list_in reads (list_by writes xs) ≡ xs
list_back P reads writes back [] all = refl
list_back P reads writes back (x ∷ xs) all = rw (back x all.0, list_back P reads writes back xs all.1) refl

-- where every item is read again
pub all_back : {A : Type 0} (reads : Data → A) (writes : A → Data) → ((x : A) → reads (writes x) ≡ x) → (xs : List A) → list_in reads (list_by writes xs) ≡ xs
all_back reads writes back [] = refl
all_back reads writes back (x ∷ xs) = rw (back x, all_back reads writes back xs) refl
