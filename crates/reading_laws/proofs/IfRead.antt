-- What readings keep to that give a value.
use Rattle.std.proofs.Common.{◌≡◌, ℕ, ◌&&◌, nat_le, List, [], ◌∷◌, ◌++◌, length, Bool, true, false, cond, Option, Some, None, Result, Ok, Err, refl, decimal, arith, subst}
use Rattle.std.specs.List.{AllByRecursion, list_all}
use Rattle.std.proofs.lemmas.Bool.{le-leb}
use Rattle.serde_json.specs.Data.{Data, Items, no_items, item}
use Rattle.json_form.specs.meaning.Faults.{Fault, ◌>>=◌, within_step}
use Rattle.json_form.specs.meaning.Values.{items_of, expected}
use Rattle.json_form.specs.meaning.Arrays.{Placed, each_after, each_of, list_of, array_of, part}
use Rattle.json_form.specs.meaning.Objects.{Named, required, member_in, optional, read_or}
use Rattle.json_form.specs.meaning.Pointers.{escaped}
use Rattle.json_form.proofs.Offered.{both_true, each_long, read_array}

-- it keeps to this, if it is read
abbrev pub IfRead : {A : Type 0} → (A → Type 0) → Result A Fault → Type 0
IfRead P (Ok x) = P x
IfRead P (Err e) = Unit {0}

pub by_reading : {A : Type 0} (P : A → Type 0) (r : Result A Fault) → ((x : A) → r ≡ Ok x → P x) → IfRead P r
by_reading P (Ok x) kept = kept x refl
by_reading P (Err e) kept = tt

pub if_kept : {A : Type 0} (P : A → Type 0) (b : Bool) (x : A) (e : Fault) → (b ≡ true → P x) → IfRead P (cond b (Ok x) (Err e))
if_kept P true x e kept = kept refl
if_kept P false x e kept = tt

pub either_kept : {A : Type 0} (P : A → Type 0) (b : Bool) (r s : Result A Fault) → IfRead P r → IfRead P s → IfRead P (cond b r s)
either_kept P true r s first second = first
either_kept P false r s first second = second

pub then_kept : {A B : Type 0} (P : A → Type 0) (Q : B → Type 0) (r : Result A Fault) (f : A → Result B Fault) → IfRead P r → ((x : A) → P x → IfRead Q (f x)) → IfRead Q (r >>= f)
then_kept P Q (Ok x) f kept next = next x kept
then_kept P Q (Err e) f kept next = tt

-- whatever was read first
pub any_kept : {A B : Type 0} (Q : B → Type 0) (r : Result A Fault) (f : A → Result B Fault) → ((x : A) → IfRead Q (f x)) → IfRead Q (r >>= f)
any_kept Q (Ok x) f next = next x
any_kept Q (Err e) f next = tt

pub within_kept : {A : Type 0} (P : A → Type 0) (step : List ℕ) (r : Result A Fault) → IfRead P r → IfRead P (within_step step r)
within_kept P step (Ok x) kept = kept
within_kept P step (Err e) kept = tt

expected_kept : {A : Type 0} (P : A → Type 0) (step : List ℕ) (read : Data → Result A Fault) (o : Option Data) → ((d : Data) → IfRead P (read d))
    → IfRead P (expected o >>= λ d. within_step step (read d))
expected_kept P step read None kept = tt
expected_kept P step read (Some d) kept = within_kept P step (read d) (kept d)

pub part_kept : {A : Type 0} (P : A → Type 0) (at : ℕ) (read : Data → Result A Fault) (ds : Placed) → ((d : Data) → IfRead P (read d)) → IfRead P (part at read ds)
unfolding part
part_kept P at read ds kept = expected_kept P (decimal at) read (ds at) kept

pub part_then_kept : {A B : Type 0} (P : A → Type 0) (Q : B → Type 0) (at : ℕ) (read : Data → Result A Fault) (ds : Placed) (f : A → Result B Fault)
    → ((d : Data) → IfRead P (read d)) → ((x : A) → P x → IfRead Q (f x)) → IfRead Q (part at read ds >>= f)
part_then_kept P Q at read ds f kept next = then_kept P Q (part at read ds) f (part_kept P at read ds kept) next

pub member_kept : {A : Type 0} (P : A → Type 0) (name : List ℕ) (read : Data → Result A Fault) (ms : Named) → ((d : Data) → IfRead P (read d)) → IfRead P (member_in name read ms)
unfolding member_in
member_kept P name read ms kept = any_kept P (required name ms) (λ d. within_step (escaped name) (read d)) (λ d. within_kept P (escaped name) (read d) (kept d))

pub member_then_kept : {A B : Type 0} (P : A → Type 0) (Q : B → Type 0) (name : List ℕ) (read : Data → Result A Fault) (ms : Named) (f : A → Result B Fault)
    → ((d : Data) → IfRead P (read d)) → ((x : A) → P x → IfRead Q (f x)) → IfRead Q (member_in name read ms >>= f)
member_then_kept P Q name read ms f kept next = then_kept P Q (member_in name read ms) f (member_kept P name read ms kept) next

pub read_or_kept : {A : Type 0} (P : A → Type 0) (name : List ℕ) (otherwise : A) (read : Data → Result A Fault) (o : Option Data) → P otherwise → ((d : Data) → IfRead P (read d)) → IfRead P (read_or name otherwise read o)
read_or_kept P name otherwise read None missing kept = missing
read_or_kept P name otherwise read (Some d) missing kept = within_kept P (escaped name) (read d) (kept d)

pub optional_then_kept : {A B : Type 0} (P : A → Type 0) (Q : B → Type 0) (name : List ℕ) (otherwise : A) (read : Data → Result A Fault) (ms : Named) (f : A → Result B Fault)
    → P otherwise → ((d : Data) → IfRead P (read d)) → ((x : A) → P x → IfRead Q (f x)) → IfRead Q (optional name otherwise read ms >>= f)
unfolding optional
optional_then_kept P Q name otherwise read ms f missing kept next =
    then_kept P Q (optional name otherwise read ms) f (read_or_kept P name otherwise read (ms name) missing kept) next

-- ---- lists

push_kept : {A : Type 0} (P : A → Type 0) (xs : List A) (x : A) → AllByRecursion P xs → P x → AllByRecursion P (xs ++ x ∷ [])
push_kept P [] x all one = (one, tt)
push_kept P (y ∷ xs) x all one = (all.0, push_kept P xs x all.1 one)

pub rest_kept : {A : Type 0} (P : A → Type 0) (reads : List A → Data → Result A Fault) → ((before : List A) (d : Data) → IfRead P (reads before d))
    → (before : List A) (ds : Items) → AllByRecursion P before → IfRead (AllByRecursion P) (each_after reads before ds)
rest_kept P reads each before no_items all = all
rest_kept P reads each before (item d ds) all =
    then_kept P (AllByRecursion P) (within_step (decimal (length before)) (reads before d)) (λ x. each_after reads (before ++ x ∷ []) ds)
    (within_kept P (decimal (length before)) (reads before d) (each before d))
    (λ x one. rest_kept P reads each (before ++ x ∷ []) ds (push_kept P before x all one))

pub list_kept : {A : Type 0} (P : A → Type 0) (reads : Data → Result A Fault) → ((d : Data) → IfRead P (reads d)) → (d : Data) → IfRead (AllByRecursion P) (list_of (each_of reads) d)
list_kept P reads each d = any_kept (AllByRecursion P) (items_of d) (each_of reads) (λ ds. rest_kept P (λ before. reads) (λ before. each) [] ds tt)

pub read_is : {A : Type 0} (P : A → Type 0) (r : Result A Fault) (x : A) → IfRead P r → r ≡ Ok x → P x
read_is P r x kept same = subst (IfRead P) same kept

-- of so many items
pub array_kept : {A : Type 0} (P : A → Type 0) (low high : ℕ) (reads : Data → Result A Fault) → ((d : Data) → IfRead P (reads d)) → (d : Data)
    → IfRead (λ (xs : List A). ((nat_le low (length xs) && nat_le (length xs) high) ≡ true) × AllByRecursion P xs) (array_of low high (each_of reads) d)
array_kept P low high reads each d =
    by_reading _ (array_of low high (each_of reads) d) (λ xs h.
    let made = read_array low high (each_of reads) d xs h in
    let long = each_long (λ before. reads) [] made.items xs made.gave in
    let enough = made.enough in
    let few = made.few in
    (both_true _ _ (le-leb low (length xs) (omega (arith, long, enough))) (le-leb (length xs) high (omega (arith, long, few))), read_is (AllByRecursion P) (each_of reads made.items) xs (rest_kept P (λ before. reads) (λ before. each) [] made.items tt) made.gave))

-- facts of two kinds
pub apart : {A : Type 0} (P : A → Type 0) (fits : A → Bool) (xs : List A) → AllByRecursion (λ x. P x × (fits x ≡ true)) xs → AllByRecursion P xs × (list_all fits xs ≡ true)
apart P fits [] all = (tt, refl)
apart P fits (x ∷ xs) all = let rest = apart P fits xs all.1 in ((all.0.0, rest.0), both_true _ _ all.0.1 rest.1)

pub all_fit : {A : Type 0} (fits : A → Bool) (xs : List A) → AllByRecursion (λ x. fits x ≡ true) xs → list_all fits xs ≡ true
all_fit fits [] all = refl
all_fit fits (x ∷ xs) all = both_true _ _ all.0 (all_fit fits xs all.1)

pub weaker : {A : Type 0} (P Q : A → Type 0) (r : Result A Fault) → ((x : A) → P x → Q x) → IfRead P r → IfRead Q r
weaker P Q (Ok x) so kept = so x kept
weaker P Q (Err e) so kept = tt
