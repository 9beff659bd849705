-- Items that are read with different keys.
use Rattle.std.proofs.Common.{◌≡◌, List, [], ◌∷◌, ◌++◌, map, Bool, true, false, ◌||◌, Result, Ok, refl, ◌∙◌}
use Rattle.std.specs.List.{list_all, list_any}
use Rattle.std.proofs.lemmas.Bool.{not-true, not_from_false}
use Rattle.std.proofs.lemmas.List.Folds.{list_any-append}
use Rattle.serde_json.specs.Data.{Data, Items}
use Rattle.json_form.specs.meaning.Faults.{Fault}
use Rattle.json_form.specs.meaning.Arrays.{is_key, distinct}
use Rattle.json_form.specs.Arrays.{have_distinct_keys}
use Rattle.json_form.proofs.Readings.{each_keeps, first_true, second_true, both_true, all_push}

first_false : (a b : Bool) → (a || b) ≡ false → a ≡ false
first_false false b h = refl
first_false true b h = absurd (cc)

second_false : (a b : Bool) → (a || b) ≡ false → b ≡ false
second_false false b h = h
second_false true b h = absurd (cc)

both_false : (a b : Bool) → a ≡ false → b ≡ false → (a || b) ≡ false
both_false false b ha hb = hb
both_false true b ha hb = absurd (cc)

-- one more item, whose key does not stand before
distinct_push : {A K : Type 0} (same : K → K → Bool) (key : A → K) (xs : List A) (x : A) → have_distinct_keys same key xs ≡ true → is_key same (map key xs) (key x) ≡ false → have_distinct_keys same key (xs ++ x ∷ []) ≡ true
distinct_push same key [] x apart new = refl
distinct_push same key (y ∷ ys) x apart new =
    let others : list_any (λ z. same (key z) (key y)) ys ≡ false = not-true _ (first_true _ _ apart) in
    let one : (same (key x) (key y) || false) ≡ false = both_false (same (key x) (key y)) false (first_false _ _ new) refl in
    let none : list_any (λ z. same (key z) (key y)) (ys ++ x ∷ []) ≡ false = list_any-append (λ z. same (key z) (key y)) ys (x ∷ []) ∙ both_false (list_any (λ z. same (key z) (key y)) ys) (same (key x) (key y) || false) others one in
    both_true _ _ (not_from_false _ none) (distinct_push same key ys x (second_true _ _ apart) (second_false _ _ new))

-- items whose keys were new at their turns have different keys
pub distinct_read : {A K : Type 0} (same : K → K → Bool) (key : A → K) (read : (K → Bool) → Data → Result A Fault) → ((taken : K → Bool) (d : Data) (x : A) → read taken d ≡ Ok x → taken (key x) ≡ false)
    → (ds : Items) (xs : List A) → distinct same key read ds ≡ Ok xs → have_distinct_keys same key xs ≡ true
distinct_read same key read new ds xs h =
    each_keeps (λ (ys : List _). have_distinct_keys same key ys ≡ true) (λ before. read (is_key same (map key before)))
    (λ before d x apart one. distinct_push same key before x apart (new (is_key same (map key before)) d x one)) [] ds xs refl h

-- each item passes that passes by itself
pub distinct_all : {A K : Type 0} (same : K → K → Bool) (key : A → K) (p : A → Bool) (read : (K → Bool) → Data → Result A Fault) → ((taken : K → Bool) (d : Data) (x : A) → read taken d ≡ Ok x → p x ≡ true)
    → (ds : Items) (xs : List A) → distinct same key read ds ≡ Ok xs → list_all p xs ≡ true
distinct_all same key p read pass ds xs h =
    each_keeps (λ (ys : List _). list_all p ys ≡ true) (λ before. read (is_key same (map key before)))
    (λ before d x all one. all_push p before x all (pass (is_key same (map key before)) d x one)) [] ds xs refl h
