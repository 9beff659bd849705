-- Connections at their places.
use Rattle.std.proofs.Common.{◌≡◌, refl, sym, ap, ◌∙◌, ℕ, suc, ◌-◌, ◌<◌, ◌≤◌, Bool, true, false, cond, length, get_or, set, List, [], ◌∷◌, map, Option, Some, None, arith}
use Rattle.std.specs.Prelude.{◌==◌, ◌||◌, is_some, unwrap_or}
use Rattle.std.specs.Bool.{Decides, one_answer}
use Rattle.std.proofs.lemmas.Bool.{eq-eqb, ne_eqb, eqb-true, eqb-false}
use Rattle.std.proofs.lemmas.List.{length-map, map-set, set-get_or}
use Rattle.svc_values.specs.Keys.{value_of}
use Rattle.svc_values.specs.declared.entry.SessionId.{SessionId}
use Rattle.svc_values.specs.meaning.Identifiers.{same_session}
use Rattle.svc_values.specs.SameLaws.{same_session_decides}
use Rattle.shown_clauses.specs.meaning.Fronts.{changed_if, with_changed, first_from, first_of}
use Rattle.shown_clauses.specs.meaning.Links.{Link}
use Rattle.report_story.specs.declared.which.Which.{Which}
use Rattle.report_story.specs.declared.which.Which.TheVariants as which
use Rattle.report_story.specs.Placing.{Identity, identity_of, is_one, is_which, place_of, older_at, changed_at, IsSingle, key_of, same_key, noted_place, IsIndexed}

pub some_same : (n m : ℕ) → Some n ≡ Some m → n ≡ m
some_same n m same = ap (λ (o : Option ℕ). unwrap_or o 0) same

-- ---- the first that meets a test

module _ {A : Type 0} (test : A → Bool) where
  next_from : (x : A) (xs : List A) → first_from test false x xs ≡ first_of test xs
  next_from x [] = refl
  next_from x (y ∷ xs) = refl

  pub place_below : (xs : List A) (p : ℕ) → place_of test xs ≡ Some p → p < length xs
  place_below [] p is = absurd (let never : ⊥ = cc in never)
  place_below (x ∷ xs) p is = by (test x) is (place_below xs p)
    where
      by : (b : Bool) → cond b (Some (length xs)) (place_of test xs) ≡ Some p → (place_of test xs ≡ Some p → p < length xs) → p < length (x ∷ xs)
      by true here rest = let same = some_same (length xs) p here in omega (arith, same)
      by false here rest = let below = rest here in omega (arith, below)

  pub found_first : (xs : List A) (p : ℕ) → place_of test xs ≡ Some p → first_of test xs ≡ older_at p xs
  found_first [] p is = refl
  found_first (x ∷ xs) p is = by (test x) is (found_first xs p)
    where
      by : (b : Bool) → cond b (Some (length xs)) (place_of test xs) ≡ Some p → (place_of test xs ≡ Some p → first_of test xs ≡ older_at p xs)
          → first_from test b x xs ≡ cond (length xs == p) (Some x) (older_at p xs)
      by true here rest = sym (ap (λ c. cond c (Some x) (older_at p xs)) (eq-eqb (length xs) p (some_same (length xs) p here)))
      by false here rest =
          let below = place_below xs p here in
          next_from x xs ∙ rest here ∙ sym (ap (λ c. cond c (Some x) (older_at p xs)) (ne_eqb (length xs) p (λ e. omega (arith, below, e))))

  pub found_none : (xs : List A) → place_of test xs ≡ None → first_of test xs ≡ None
  found_none [] is = refl
  found_none (x ∷ xs) is = by (test x) is (found_none xs)
    where
      by : (b : Bool) → cond b (Some (length xs)) (place_of test xs) ≡ None → (place_of test xs ≡ None → first_of test xs ≡ None) → first_from test b x xs ≡ None
      by true here rest = absurd (let never : ⊥ = cc in never)
      by false here rest = next_from x xs ∙ rest here

  pub unchanged : (change : A → A) (xs : List A) → place_of test xs ≡ None → with_changed test change xs ≡ xs
  unchanged change [] is = refl
  unchanged change (x ∷ xs) is = by (test x) is (unchanged change xs)
    where
      by : (b : Bool) → cond b (Some (length xs)) (place_of test xs) ≡ None → (place_of test xs ≡ None → with_changed test change xs ≡ xs) → changed_if b change x ∷ with_changed test change xs ≡ x ∷ xs
      by true here rest = absurd (let never : ⊥ = cc in never)
      by false here rest = ap (λ (others : List A). x ∷ others) (rest here)

  pub changed_one : (change : A → A) (xs : List A) (p : ℕ) → IsSingle test xs → place_of test xs ≡ Some p → with_changed test change xs ≡ changed_at change p xs
  changed_one change [] p single is = refl
  changed_one change (x ∷ xs) p single is = by (test x) refl is (changed_one change xs p single.1)
    where
      by : (b : Bool) → test x ≡ b → cond b (Some (length xs)) (place_of test xs) ≡ Some p → (place_of test xs ≡ Some p → with_changed test change xs ≡ changed_at change p xs)
          → changed_if b change x ∷ with_changed test change xs ≡ cond (length xs == p) (change x ∷ xs) (x ∷ changed_at change p xs)
      by true meets here rest =
          ap (λ (others : List A). change x ∷ others) (unchanged change xs (single.0 meets))
          ∙ sym (ap (λ c. cond c (change x ∷ xs) (x ∷ changed_at change p xs)) (eq-eqb (length xs) p (some_same (length xs) p here)))
      by false meets here rest =
          let below = place_below xs p here in
          ap (λ (others : List A). x ∷ others) (rest here)
          ∙ sym (ap (λ c. cond c (change x ∷ xs) (x ∷ changed_at change p xs)) (ne_eqb (length xs) p (λ e. omega (arith, below, e))))

-- ---- places in the list

module _ {A : Type 0} where
  pub read_older : (xs : List A) (p : ℕ) (d : A) → p < length xs → older_at p xs ≡ Some (get_or xs (length xs - 1 - p) d)
  read_older [] p d within = absurd (omega (arith, within))
  read_older (x ∷ xs) p d within = by (length xs == p) refl (read_older xs p d)
    where
      by : (b : Bool) → (length xs == p) ≡ b → (p < length xs → older_at p xs ≡ Some (get_or xs (length xs - 1 - p) d)) → cond b (Some x) (older_at p xs) ≡ Some (get_or (x ∷ xs) (length (x ∷ xs) - 1 - p) d)
      by true is rest =
          let same = eqb-true (length xs) p is in
          let at : length (x ∷ xs) - 1 - p ≡ 0 = omega (arith, same) in
          sym (ap (λ i. Some (get_or (x ∷ xs) i d)) at)
      by false is rest =
          let other = eqb-false (length xs) p is in
          let below : p < length xs = omega (arith, within, other) in
          let at : length (x ∷ xs) - 1 - p ≡ suc (length xs - 1 - p) = omega (arith, below) in
          rest below ∙ sym (ap (λ i. Some (get_or (x ∷ xs) i d)) at)

  pub none_older : (xs : List A) (p : ℕ) → length xs ≤ p → older_at p xs ≡ None
  none_older [] p past = refl
  none_older (x ∷ xs) p past =
      ap (λ b. cond b (Some x) (older_at p xs)) (ne_eqb (length xs) p (λ e. omega (arith, past, e))) ∙ none_older xs p (omega (arith, past))

  pub set_older : (change : A → A) (xs : List A) (p : ℕ) (d : A) → p < length xs → changed_at change p xs ≡ set xs (length xs - 1 - p) (change (get_or xs (length xs - 1 - p) d))
  set_older change [] p d within = absurd (omega (arith, within))
  set_older change (x ∷ xs) p d within = by (length xs == p) refl (set_older change xs p d)
    where
      put : ℕ → List A
      put i = set (x ∷ xs) i (change (get_or (x ∷ xs) i d))

      by : (b : Bool) → (length xs == p) ≡ b → (p < length xs → changed_at change p xs ≡ set xs (length xs - 1 - p) (change (get_or xs (length xs - 1 - p) d)))
          → cond b (change x ∷ xs) (x ∷ changed_at change p xs) ≡ put (length (x ∷ xs) - 1 - p)
      by true is rest =
          let same = eqb-true (length xs) p is in
          let at : length (x ∷ xs) - 1 - p ≡ 0 = omega (arith, same) in
          sym (ap put at)
      by false is rest =
          let other = eqb-false (length xs) p is in
          let below : p < length xs = omega (arith, within, other) in
          let at : length (x ∷ xs) - 1 - p ≡ suc (length xs - 1 - p) = omega (arith, below) in
          ap (λ (others : List A). x ∷ others) (rest below) ∙ sym (ap put at)

  pub same_older : (change : A → A) (xs : List A) (p : ℕ) → length xs ≤ p → changed_at change p xs ≡ xs
  same_older change [] p past = refl
  same_older change (x ∷ xs) p past =
      ap (λ b. cond b (change x ∷ xs) (x ∷ changed_at change p xs)) (ne_eqb (length xs) p (λ e. omega (arith, past, e)))
      ∙ ap (λ (others : List A). x ∷ others) (same_older change xs p (omega (arith, past)))

-- ---- what stays

module _ {A B : Type 0} (f : A → B) where
  -- one of a list, put anew
  pub stays_set : (xs : List A) (i : ℕ) (new d : A) → f new ≡ f (get_or xs i d) → map f (set xs i new) ≡ map f xs
  stays_set xs i new d same = map-set f xs i new ∙ ap (set (map f xs) i) same ∙ sym (map-set f xs i (get_or xs i d)) ∙ ap (map f) (set-get_or xs i d)

  pub stays_changed : (change : A → A) → ((x : A) → f (change x) ≡ f x) → (p : ℕ) (xs : List A) → map f (changed_at change p xs) ≡ map f xs
  stays_changed change stays p [] = refl
  stays_changed change stays p (x ∷ xs) = by (length xs == p) (stays_changed change stays p xs)
    where
      by : (b : Bool) → map f (changed_at change p xs) ≡ map f xs → map f (cond b (change x ∷ xs) (x ∷ changed_at change p xs)) ≡ map f (x ∷ xs)
      by true rest = ap (λ (y : B). y ∷ map f xs) (stays x)
      by false rest = ap (λ (others : List B). f x ∷ others) rest

  place_mapped : (test : B → Bool) (xs : List A) → place_of test (map f xs) ≡ place_of (λ x. test (f x)) xs
  place_mapped test [] = refl
  place_mapped test (x ∷ xs) = λ i. cond (test (f x)) (Some (length-map xs f i)) (place_mapped test xs i)

  single_mapped : (test : B → Bool) (xs : List A) → IsSingle test (map f xs) → IsSingle (λ x. test (f x)) xs
  single_mapped test [] single = tt
  single_mapped test (x ∷ xs) single = (λ meets. sym (place_mapped test xs) ∙ single.0 meets, single_mapped test xs single.1)

-- ---- the maps

module _ (numbers : List (ℕ × ℕ)) (sessions : List ((ℕ × ℕ) × ℕ)) (twice : Bool) where
  module _ (links : List Link) (indexed : IsIndexed numbers sessions twice (map identity_of links)) (named : Which) where
    pub place_noted : noted_place named numbers sessions ≡ place_of (is_which named) links
    place_noted = indexed.places named ∙ place_mapped identity_of (is_one named) links

    pub single_noted : twice ≡ false → IsSingle (is_which named) links
    single_noted once = single_mapped identity_of (is_one named) links (indexed.single once named)

  -- one more

  none_some : (o : Option ℕ) → is_some o ≡ false → o ≡ None
  none_some None is = refl
  none_some (Some n) is = absurd (let never : ⊥ = cc in never)

  or_first : (a b : Bool) → (a || b) ≡ false → a ≡ false
  or_first false b is = refl
  or_first true b is = is

  or_second : (a b : Bool) → (a || b) ≡ false → b ≡ false
  or_second false b is = is
  or_second true b is = absurd (let never : ⊥ = let no : true ≡ false = is in cc in never)

  flipped : (a b : SessionId) → Decides (same_session b a) (a ≡ b)
  flipped a b = let d = same_session_decides b a in (λ h. sym (d.0 h), λ e. d.1 (sym e))

  same_symm : (a b : SessionId) → same_session a b ≡ same_session b a
  same_symm a b = one_answer (same_session a b) (same_session b a) (same_session_decides a b) (flipped a b)

  number_symm : (n m : ℕ) → (n == m) ≡ (m == n)
  number_symm n m = by (m == n) refl
    where
      by : (b : Bool) → (m == n) ≡ b → (n == m) ≡ b
      by true is = eq-eqb n m (sym (eqb-true m n is))
      by false is = ne_eqb n m (λ e. eqb-false m n is (sym e))

  module _ (all : List Identity) (indexed : IsIndexed numbers sessions twice all) (one : Identity) (new_twice : Bool) (place : ℕ) (new_numbers : List (ℕ × ℕ)) (new_sessions : List ((ℕ × ℕ) × ℕ))
      (knows : new_twice ≡ ((twice || is_some (value_of (λ a b. a == b) numbers one.connection)) || is_some (value_of same_key sessions (key_of one.session))))
      (by_number : (k : ℕ) → value_of (λ a b. a == b) new_numbers k ≡ cond (k == one.connection) (Some place) (value_of (λ a b. a == b) numbers k))
      (by_session : (k : ℕ × ℕ) → value_of same_key new_sessions k ≡ cond (same_key k (key_of one.session)) (Some place) (value_of same_key sessions k))
      (last : place ≡ length all) where
    new_places : (named : Which) → noted_place named new_numbers new_sessions ≡ place_of (is_one named) (one ∷ all)
    new_places (which.Number n) =
        by_number n ∙ λ i. cond (number_symm n one.connection i) (Some (last i)) (indexed.places (which.Number n) i)
    new_places (which.Session session) =
        by_session (key_of session) ∙ λ i. cond (same_symm session one.session i) (Some (last i)) (indexed.places (which.Session session) i)

    new_number : new_twice ≡ false → (twice || is_some (value_of (λ a b. a == b) numbers one.connection)) ≡ false
    new_number once = or_first _ _ (sym knows ∙ once)

    none_before : new_twice ≡ false → (named : Which) → is_one named one ≡ true → place_of (is_one named) all ≡ None
    none_before once (which.Number n) meets =
        let none = none_some (value_of (λ a b. a == b) numbers one.connection) (or_second twice _ (new_number once)) in
        sym (indexed.places (which.Number n)) ∙ sym (ap (value_of (λ a b. a == b) numbers) (eqb-true one.connection n meets)) ∙ none
    none_before once (which.Session session) meets =
        let none = none_some (value_of same_key sessions (key_of one.session)) (or_second _ _ (sym knows ∙ once)) in
        sym (indexed.places (which.Session session)) ∙ sym (ap (λ (s : SessionId). value_of same_key sessions (key_of s)) ((same_session_decides one.session session).0 meets)) ∙ none

    pub indexed_more : IsIndexed new_numbers new_sessions new_twice (one ∷ all)
    indexed_more = record {
      places = new_places;
      single = λ once named. (λ meets. none_before once named meets, indexed.single (or_first twice _ (new_number once)) named);
    }
