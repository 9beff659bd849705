-- Lists that are made item by item, by a recursion over how many there are.
use Rattle.std.proofs.Common.{◌≡◌, ◌∙◌, ℕ, suc, ◌+◌, ◌-◌, ◌<◌, ◌≤◌, List, [], ◌∷◌, ◌++◌, sym, ap, append_assoc, append-nil, arith}

-- one item less is left, where it was put behind those before it
pub one_more : {A : Type 0} (made : ℕ → ℕ → List A) (front : List A) (item : A) (n i before after : ℕ) → i < n
    → ((m : ℕ) → made (suc m) before ≡ item ∷ made m after)
    → (front ++ item ∷ []) ++ made (n - (i + 1)) after ≡ front ++ made (n - i) before
one_more made front item n i before after below comes =
    let left : n - i ≡ suc (n - (i + 1)) = omega (arith, below) in
    append_assoc front (item ∷ []) (made (n - (i + 1)) after) ∙ ap (λ rest. front ++ rest) (sym (comes (n - (i + 1))))
    ∙ ap (λ k. front ++ made k before) (sym left)

-- none is left
pub no_more : {A : Type 0} (made : ℕ → ℕ → List A) (front : List A) (n i before : ℕ) → n ≤ i → made 0 before ≡ []
    → front ++ made (n - i) before ≡ front
no_more made front n i before over none =
    let left : n - i ≡ 0 = omega (arith, over) in
    ap (λ k. front ++ made k before) left ∙ ap (λ rest. front ++ rest) none ∙ append-nil front

-- so it is of a state
pub one_step : (steps : ℕ → ℕ → ℕ) (n i before after : ℕ) → i < n → ((m : ℕ) → steps (suc m) before ≡ steps m after)
    → steps (n - (i + 1)) after ≡ steps (n - i) before
one_step steps n i before after below comes =
    let left : n - i ≡ suc (n - (i + 1)) = omega (arith, below) in
    sym (comes (n - (i + 1))) ∙ ap (λ k. steps k before) (sym left)

pub no_step : (steps : ℕ → ℕ → ℕ) (n i before : ℕ) → n ≤ i → steps 0 before ≡ before → steps (n - i) before ≡ before
no_step steps n i before over none =
    let left : n - i ≡ 0 = omega (arith, over) in
    ap (λ k. steps k before) left ∙ none
