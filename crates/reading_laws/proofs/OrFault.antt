-- Readings that give this, or a fault.
use Rattle.std.proofs.Common.{◌≡◌, ℕ, ◌&&◌, nat_le, List, [], ◌∷◌, ◌++◌, map, length, Bool, true, false, cond, Some, None, Result, Ok, Err, refl, sym, subst, decimal, append_assoc, append-nil}
use Rattle.serde_json.specs.Data.{Data}
use Rattle.serde_json.specs.View.{items_of}
use Rattle.serde_json.specs.Events.{items_len}
use Rattle.json_form.specs.declared.fault.DocCode.TheVariants.{Limit}
use Rattle.json_form.specs.meaning.Faults.{Fault, ◌>>=◌, here, within_step}
use Rattle.json_form.specs.meaning.Arrays.{Placed, each_after, each_of, list_of, array_of, part}
use Rattle.json_form.specs.meaning.Objects.{Named, required, member_in, optional}
use Rattle.json_form.specs.meaning.Pointers.{escaped}
use Rattle.json_form.specs.meaning.Writing.{list_by}

-- this, or a fault
abbrev pub OrFault : {A : Type 0} → A → Result A Fault → Type 0
OrFault x (Ok y) = y ≡ x
OrFault x (Err e) = Unit {0}

pub or_if : {A : Type 0} (b : Bool) (x : A) (e : Fault) → OrFault x (cond b (Ok x) (Err e))
or_if true x e = refl
or_if false x e = tt

pub if_then : {A B : Type 0} (b : Bool) (x : A) (e : Fault) (f : A → Result B Fault) (y : B) → OrFault y (f x) → OrFault y (cond b (Ok x) (Err e) >>= f)
if_then true x e f y next = next
if_then false x e f y next = tt

pub and_then : {A B : Type 0} (r : Result A Fault) (f : A → Result B Fault) (x : A) (y : B) → OrFault x r → OrFault y (f x) → OrFault y (r >>= f)
and_then (Ok z) f x y same next = subst (λ z. OrFault y (f z)) (sym same) next
and_then (Err e) f x y same next = tt

pub within_so : {A : Type 0} (step : List ℕ) (r : Result A Fault) (x : A) → OrFault x r → OrFault x (within_step step r)
within_so step (Ok z) x same = same
within_so step (Err e) x same = tt

pub within_then : {A B : Type 0} (step : List ℕ) (r : Result A Fault) (f : A → Result B Fault) (x : A) (y : B) → OrFault x r → OrFault y (f x) → OrFault y (within_step step r >>= f)
within_then step r f x y same next = and_then (within_step step r) f x y (within_so step r x same) next

-- what stands at a position
pub part_so : {A : Type 0} (at : ℕ) (read : Data → Result A Fault) (ds : Placed) (d : Data) (x : A) → ds at ≡ Some d → OrFault x (read d) → OrFault x (part at read ds)
unfolding part
part_so at read ds d x there same = rw there (within_so (decimal at) (read d) x same)

pub part_then : {A B : Type 0} (at : ℕ) (read : Data → Result A Fault) (ds : Placed) (f : A → Result B Fault) (d : Data) (x : A) (y : B)
    → ds at ≡ Some d → OrFault x (read d) → OrFault y (f x) → OrFault y (part at read ds >>= f)
part_then at read ds f d x y there same next = and_then (part at read ds) f x y (part_so at read ds d x there same) next

-- what stands at a name
pub member_so : {A : Type 0} (name : List ℕ) (read : Data → Result A Fault) (ms : Named) (d : Data) (x : A) → ms name ≡ Some d → OrFault x (read d) → OrFault x (member_in name read ms)
unfolding member_in required
member_so name read ms d x there same = rw there (within_so (escaped name) (read d) x same)

pub member_then : {A B : Type 0} (name : List ℕ) (read : Data → Result A Fault) (ms : Named) (f : A → Result B Fault) (d : Data) (x : A) (y : B)
    → ms name ≡ Some d → OrFault x (read d) → OrFault y (f x) → OrFault y (member_in name read ms >>= f)
member_then name read ms f d x y there same next = and_then (member_in name read ms) f x y (member_so name read ms d x there same) next

pub missing_then : {A B : Type 0} (name : List ℕ) (otherwise : A) (read : Data → Result A Fault) (ms : Named) (f : A → Result B Fault) (y : B)
    → ms name ≡ None → OrFault y (f otherwise) → OrFault y (optional name otherwise read ms >>= f)
unfolding optional
missing_then name otherwise read ms f y there next = rw there next

pub optional_then : {A B : Type 0} (name : List ℕ) (otherwise : A) (read : Data → Result A Fault) (ms : Named) (f : A → Result B Fault) (d : Data) (x : A) (y : B)
    → ms name ≡ Some d → OrFault x (read d) → OrFault y (f x) → OrFault y (optional name otherwise read ms >>= f)
unfolding optional
optional_then name otherwise read ms f d x y there same next = rw there (within_then (escaped name) (read d) f x y same next)

-- ---- lists

-- the items that are left, each read in the light of those before it
pub rest_so : {A : Type 0} (reads : List A → Data → Result A Fault) (writes : A → Data) → ((before : List A) (x : A) → OrFault x (reads before (writes x)))
    → (before xs : List A) → OrFault (before ++ xs) (each_after reads before (items_of (map writes xs)))
rest_so reads writes each before [] = sym (append-nil before)
rest_so reads writes each before (x ∷ xs) =
    within_then (decimal (length before)) (reads before (writes x)) (λ y. each_after reads (before ++ y ∷ []) (items_of (map writes xs))) x (before ++ x ∷ xs) (each before x)
    (subst (λ l. OrFault l (each_after reads (before ++ x ∷ []) (items_of (map writes xs)))) (append_assoc before (x ∷ []) xs) (rest_so reads writes each (before ++ x ∷ []) xs))

pub list_so : {A : Type 0} (reads : Data → Result A Fault) (writes : A → Data) → ((x : A) → OrFault x (reads (writes x)))
    → (xs : List A) → OrFault xs (list_of (each_of reads) (list_by writes xs))
list_so reads writes each xs = rest_so (λ before. reads) writes (λ before. each) [] xs

pub array_so : {A : Type 0} (reads : Data → Result A Fault) (writes : A → Data) → ((x : A) → OrFault x (reads (writes x)))
    → (low high : ℕ) (xs : List A) → OrFault xs (array_of low high (each_of reads) (list_by writes xs))
array_so reads writes each low high xs =
    let is = items_of (map writes xs) in
    if_then (nat_le low (items_len is) && nat_le (items_len is) high) is (here Limit) (each_of reads) xs (list_so reads writes each xs)
