-- Numbers among others.
use Rattle.std.proofs.Common.{◌≡◌, ℕ, ◌==◌, ◌&&◌, ◌||◌, Bool, true, false, not, cond, List, [], ◌∷◌, ◌++◌, refl, sym, ap, ◌∙◌, arith}
use Rattle.std.specs.List.{list_any}
use Rattle.std.proofs.lemmas.List.Folds.{list_any-append}
use Rattle.std.proofs.lemmas.Bool.Decides.{nat_tests}
use Rattle.std.proofs.Math.Bool.{or-false}
use Rattle.pool_core.specs.meaning.Slots.{is_among, without}

-- no number stands twice
abbrev pub all_differ : List ℕ → Bool
all_differ [] = true
all_differ (x ∷ xs) = not (is_among x xs) && all_differ xs

pub is_among-last : (k : ℕ) (xs : List ℕ) (x : ℕ) → is_among k (xs ++ x ∷ []) ≡ (is_among k xs || (x == k))
is_among-last k xs x = list_any-append (λ other. other == k) xs (x ∷ []) ∙ ap (λ b. is_among k xs || b) (or-false (x == k))

pub is_among-without : (k x : ℕ) (xs : List ℕ) → is_among k (without xs x) ≡ true → is_among k xs ≡ true
is_among-without k x [] is = is
is_among-without k x (y ∷ ys) is = by (y == x) (is_among-without k x ys) is
  where
    by : (same : Bool) → (is_among k (without ys x) ≡ true → is_among k ys ≡ true)
        → list_any (λ other. other == k) (cond (not same) (y ∷ without ys x) (without ys x)) ≡ true → ((y == k) || is_among k ys) ≡ true
    by true later e = grind (arith, nat_tests, later e)
    by false later e = both (y == k) e
      where
        both : (first : Bool) → (first || is_among k (without ys x)) ≡ true → (first || is_among k ys) ≡ true
        both true h = refl
        both false h = later h

pub is_among-without_itself : (x : ℕ) (xs : List ℕ) → is_among x (without xs x) ≡ false
is_among-without_itself x [] = refl
is_among-without_itself x (y ∷ ys) = by (y == x) refl (is_among-without_itself x ys)
  where
    by : (same : Bool) → (y == x) ≡ same → is_among x (without ys x) ≡ false → is_among x (cond (not same) (y ∷ without ys x) (without ys x)) ≡ false
    by true e later = later
    by false e later = ap (λ b. b || is_among x (without ys x)) e ∙ later

pub without-absent : (x : ℕ) (xs : List ℕ) → is_among x xs ≡ false → without xs x ≡ xs
without-absent x [] not_there = refl
without-absent x (y ∷ ys) not_there = by (y == x) (without-absent x ys) not_there
  where
    by : (same : Bool) → (is_among x ys ≡ false → without ys x ≡ ys) → (same || is_among x ys) ≡ false → cond (not same) (y ∷ without ys x) (without ys x) ≡ y ∷ ys
    by true later e = absurd (let none : ⊥ = cc in none)
    by false later e = ap (λ zs. y ∷ zs) (later e)

pub among_none : (k x : ℕ) (xs : List ℕ) → is_among k xs ≡ false → is_among k (without xs x) ≡ false
among_none k x xs none = by (is_among k (without xs x)) refl
  where
    by : (b : Bool) → is_among k (without xs x) ≡ b → is_among k (without xs x) ≡ false
    by false e = e
    by true e = absurd (let clash : true ≡ false = sym (is_among-without k x xs e) ∙ none in let no : ⊥ = cc in no)

pub differ_first : (x : ℕ) (xs : List ℕ) → all_differ (x ∷ xs) ≡ true → is_among x xs ≡ false
differ_first x xs h = by (is_among x xs) h
  where
    by : (b : Bool) → (not b && all_differ xs) ≡ true → b ≡ false
    by false e = refl
    by true e = sym e

pub differ_later : (x : ℕ) (xs : List ℕ) → all_differ (x ∷ xs) ≡ true → all_differ xs ≡ true
differ_later x xs h = by (is_among x xs) h
  where
    by : (b : Bool) → (not b && all_differ xs) ≡ true → all_differ xs ≡ true
    by false e = e
    by true e = absurd (let no : ⊥ = cc in no)

pub all_differ-without : (x : ℕ) (xs : List ℕ) → all_differ xs ≡ true → all_differ (without xs x) ≡ true
all_differ-without x [] h = refl
all_differ-without x (y ∷ ys) h = by (y == x) (all_differ-without x ys (differ_later y ys h))
  where
    by : (same : Bool) → all_differ (without ys x) ≡ true → all_differ (cond (not same) (y ∷ without ys x) (without ys x)) ≡ true
    by true later = later
    by false later = ap (λ b. not b && all_differ (without ys x)) (among_none y x ys (differ_first y ys h)) ∙ later

pub all_differ-last : (xs : List ℕ) (x : ℕ) → all_differ xs ≡ true → is_among x xs ≡ false → all_differ (xs ++ x ∷ []) ≡ true
all_differ-last [] x h not_there = refl
all_differ-last (y ∷ ys) x h not_there =
    let first : is_among y ys ≡ false = differ_first y ys h in
    let apart : (y == x) ≡ false = head (y == x) not_there in
    ap (λ b. not b && all_differ (ys ++ x ∷ [])) (is_among-last y ys x ∙ ap (λ b. b || (x == y)) first ∙ flip (y == x) refl apart)
    ∙ all_differ-last ys x (differ_later y ys h) (tail (y == x) not_there)
  where
    head : (b : Bool) → (b || is_among x ys) ≡ false → b ≡ false
    head false e = refl
    head true e = e

    tail : (b : Bool) → (b || is_among x ys) ≡ false → is_among x ys ≡ false
    tail false e = e
    tail true e = absurd (let no : ⊥ = cc in no)

    flip : (b : Bool) → (y == x) ≡ b → b ≡ false → (x == y) ≡ false
    flip b e is = let other : (y == x) ≡ false = e ∙ is in grind (arith, nat_tests)
