-- What a reading did that gave a value.
use Rattle.std.proofs.Common.{◌≡◌, ◌≤◌, ℕ, ◌+◌, ◌&&◌, nat_le, List, [], ◌∷◌, ◌++◌, length, Bool, true, false, cond, Option, Some, None, Result, Ok, Err, refl, subst, ap, decimal, arith, ◌∙◌}
use Rattle.std.proofs.lemmas.Bool.{leb-true}
use Rattle.std.proofs.lemmas.List.{length_push}
use Rattle.std.specs.Prelude.{⊤}
use Rattle.std.specs.List.{list_all}
use Rattle.std.proofs.lemmas.List.Folds.{list_all-append}
use Rattle.serde_json.specs.Data.{Data, Items, no_items, item}
use Rattle.serde_json.specs.Events.{items_len}
use Rattle.json_form.specs.declared.fault.DocCode.TheVariants.{Limit, Duplicate}
use Rattle.json_form.specs.meaning.Faults.{Fault, ◌>>=◌, here, within_step, within, within_item}
use Rattle.json_form.specs.meaning.Values.{items_of, expected}
use Rattle.json_form.specs.meaning.Arrays.{Placed, each_after, each_of, in_count, counted_of, array_of, part, fresh}
use Rattle.json_form.specs.meaning.Objects.{Named, read_or, optional, required, member_in}
use Rattle.json_form.specs.meaning.Pointers.{escaped}

-- both readings gave a value
pub after : {A B : Type 0} (r : Result A Fault) (f : A → Result B Fault) (y : B) → (r >>= f) ≡ Ok y → (x : A) × (r ≡ Ok x) × (f x ≡ Ok y)
after (Ok x) f y h = (x, refl, h)
after (Err e) f y h = absurd (cc)

-- a reading that gave this value
abbrev pub given : {A : Type 0} → A → Result A Fault
given x = Ok x

pub ok_is : {A : Type 0} (x y : A) → given x ≡ given y → x ≡ y
ok_is x y e = cc

pub within_ok : {A : Type 0} (step : List ℕ) (r : Result A Fault) (x : A) → within_step step r ≡ Ok x → r ≡ Ok x
within_ok step (Ok y) x h = h
within_ok step (Err f) x h = absurd (cc)

-- the test was passed
pub passed : {A : Type 0} (b : Bool) (r : Result A Fault) (e : Fault) (y : A) → cond b r (Err e) ≡ Ok y → (b ≡ true) × (r ≡ Ok y)
passed true r e y h = (refl, h)
passed false r e y h = absurd (cc)

-- what each item read keeps, all of them keep
pub each_keeps : {A : Type 0} (Good : List A → Type 0) (read : List A → Data → Result A Fault) → ((before : List A) (d : Data) (x : A) → Good before → read before d ≡ Ok x → Good (before ++ x ∷ []))
    → (before : List A) (ds : Items) (xs : List A) → Good before → each_after read before ds ≡ Ok xs → Good xs
each_keeps Good read step before no_items xs good h = let same : before ≡ xs = cc in subst Good same good
each_keeps Good read step before (item d ds) xs good h =
    let a = after (within_item (length before) (read before d)) (λ x. each_after read (before ++ x ∷ []) ds) xs h in
    each_keeps Good read step (before ++ a.0 ∷ []) ds xs (step before d a.0 good (within_ok (decimal (length before)) (read before d) a.0 a.1)) a.2

-- as many were read as there are items
pub each_long : {A : Type 0} (read : List A → Data → Result A Fault) (before : List A) (ds : Items) (xs : List A) → each_after read before ds ≡ Ok xs → length xs ≡ length before + items_len ds
each_long read before no_items xs h = let same : before ≡ xs = cc in let e = ap length same in omega (arith, e)
each_long read before (item d ds) xs h =
    let a = after (within_item (length before) (read before d)) (λ x. each_after read (before ++ x ∷ []) ds) xs h in
    let e = each_long read (before ++ a.0 ∷ []) ds xs a.2 in
    omega (arith, e, length_push before a.0)

pub first_true : (a b : Bool) → (a && b) ≡ true → a ≡ true
first_true true b h = refl
first_true false b h = absurd (cc)

pub second_true : (a b : Bool) → (a && b) ≡ true → b ≡ true
second_true true b h = h
second_true false b h = absurd (cc)

-- an array's items were read, and there are as many as it may have
pub record ReadArray {A : Type 0} (low high : ℕ) (read : Items → Result (List A) Fault) (xs : List A) : Type 0 where
  pub items : Items
  pub enough : low ≤ items_len items
  pub few : items_len items ≤ high
  pub gave : read items ≡ Ok xs

pub read_array : {A : Type 0} (low high : ℕ) (read : Items → Result (List A) Fault) (d : Data) (xs : List A) → array_of low high read d ≡ Ok xs → ReadArray low high read xs
read_array low high read d xs h =
    let a = after (counted_of low high d) read xs h in
    let b = after (items_of d) (in_count low high) a.0 a.1 in
    let c = passed (nat_le low (items_len b.0) && nat_le (items_len b.0) high) (Ok b.0) (here Limit) a.0 b.2 in
    let same : b.0 ≡ a.0 = cc in record {
      items = b.0;
      enough = leb-true low (items_len b.0) (first_true _ _ c.0);
      few = leb-true (items_len b.0) high (second_true _ _ c.0);
      gave = ap read same ∙ a.2;
    }

pub both_true : (a b : Bool) → a ≡ true → b ≡ true → (a && b) ≡ true
both_true true b ha hb = hb
both_true false b ha hb = absurd (cc)

-- one more item that passes
pub all_push : {A : Type 0} (p : A → Bool) (xs : List A) (x : A) → list_all p xs ≡ true → p x ≡ true → list_all p (xs ++ x ∷ []) ≡ true
all_push p xs x all one = list_all-append p xs (x ∷ []) ∙ both_true (list_all p xs) (p x && true) all (both_true (p x) true one refl)

-- each item that is read passes
pub all_read : {A : Type 0} (p : A → Bool) (read : Data → Result A Fault) → ((d : Data) (x : A) → read d ≡ Ok x → p x ≡ true) → (ds : Items) (xs : List A) → each_of read ds ≡ Ok xs → list_all p xs ≡ true
all_read p read pass ds xs h =
    each_keeps (λ (ys : List _). list_all p ys ≡ true) (λ before. read) (λ before d x all one. all_push p before x all (pass d x one)) [] ds xs refl h

pub part_read : {A : Type 0} (i : ℕ) (read : Data → Result A Fault) (ds : Placed) (x : A) → part i read ds ≡ Ok x → (inner : Data) × (read inner ≡ Ok x)
unfolding part
part_read i read ds x h =
    let a = after (expected (ds i)) (λ inner. within_item i (read inner)) x h in (a.0, within_ok (decimal i) (read a.0) x a.2)

-- the member was there, and was read
pub member_read : {A : Type 0} (name : List ℕ) (read : Data → Result A Fault) (ms : Named) (x : A) → member_in name read ms ≡ Ok x → (d : Data) × (read d ≡ Ok x)
unfolding member_in
member_read name read ms x h =
    let a = after (required name ms) (λ d. within name (read d)) x h in (a.0, within_ok (escaped name) (read a.0) x a.2)

-- a member that may be missing keeps what its reading keeps, and what stands for it where it is
-- missing
read_or_keeps : {A : Type 0} (Good : A → Type 0) (name : List ℕ) (otherwise : A) (read : Data → Result A Fault) (o : Option Data) (x : A) → Good otherwise → ((d : Data) (y : A) → read d ≡ Ok y → Good y) → read_or name otherwise read o ≡ Ok x → Good x
read_or_keeps Good name otherwise read None x good keeps h = subst Good (ok_is otherwise x h) good
read_or_keeps Good name otherwise read (Some d) x good keeps h = keeps d x (within_ok (escaped name) (read d) x h)

pub optional_keeps : {A : Type 0} (Good : A → Type 0) (name : List ℕ) (otherwise : A) (read : Data → Result A Fault) (ms : Named) (x : A) → Good otherwise → ((d : Data) (y : A) → read d ≡ Ok y → Good y) → optional name otherwise read ms ≡ Ok x → Good x
unfolding optional
optional_keeps Good name otherwise read ms x good keeps h = read_or_keeps Good name otherwise read (ms name) x good keeps h

not_taken : (b : Bool) (u : ⊤) → cond b (Err (here Duplicate)) (Ok tt) ≡ Ok u → b ≡ false
not_taken true u h = absurd (cc)
not_taken false u h = refl

-- a key that was tested is new
pub new_key : {K : Type 0} (read : Result K Fault) (taken : K → Bool) (key : K) → (read >>= λ k. fresh taken k >>= λ _. Ok k) ≡ Ok key → taken key ≡ false
new_key read taken key h =
    let a = after read (λ k. fresh taken k >>= λ _. Ok k) key h in
    let b = after (fresh taken a.0) (λ _. Ok a.0) key a.2 in
    let same : key ≡ a.0 = cc in ap taken same ∙ not_taken (taken a.0) b.0 b.1
