-- A list that is compared with one list and another behind it.
use Rattle.std.proofs.Common.{◌≡◌, ◌<◌, ◌≤◌, List, [], ◌∷◌, ◌++◌, length, take, drop, Bool, true, false, ◌&&◌, refl, sym, ap, ◌∙◌, arith}
use Rattle.std.specs.Cmp.Lexicographic.{pointwise}

and_apart : (a b c : Bool) → (a && (b && c)) ≡ ((a && b) && c)
and_apart true b c = refl
and_apart false b c = refl

pub joined_is : {A : Type 0} (same : A → A → Bool) (all first more : List A) → length first ≤ length all
    → pointwise same all (first ++ more) ≡ (pointwise same (take (length first) all) first && pointwise same (drop (length first) all) more)
joined_is same all [] more within = refl
joined_is same [] (b ∷ first) more within = absurd (omega (arith, within))
joined_is same (a ∷ all) (b ∷ first) more within =
    ap (λ rest. same a b && rest) (joined_is same all first more (omega (arith, within)))
    ∙ and_apart (same a b) (pointwise same (take (length first) all) first) (pointwise same (drop (length first) all) more)

pub joined_not : {A : Type 0} (same : A → A → Bool) (all first more : List A) → length all < length first → pointwise same all (first ++ more) ≡ false
joined_not same all [] more short = absurd (omega (arith, short))
joined_not same [] (b ∷ first) more short = refl
joined_not same (a ∷ all) (b ∷ first) more short = ap (λ rest. same a b && rest) (joined_not same all first more (omega (arith, short))) ∙ none (same a b)
  where
    none : (t : Bool) → (t && false) ≡ false
    none true = refl
    none false = refl

-- the first ones differ
pub joined_other : {A : Type 0} (same : A → A → Bool) (all first more : List A) → length first ≤ length all → (front : List A) → front ≡ take (length first) all → pointwise same front first ≡ false
    → pointwise same all (first ++ more) ≡ false
joined_other same all first more within front is other =
    joined_is same all first more within
    ∙ (ap (λ l. pointwise same l first && pointwise same (drop (length first) all) more) (sym is)
    ∙ ap (λ b. b && pointwise same (drop (length first) all) more) other)

-- they are the same
pub joined_same : {A : Type 0} (same : A → A → Bool) (all first more : List A) → length first ≤ length all → (front : List A) → front ≡ take (length first) all → pointwise same front first ≡ true
    → (rest : List A) → rest ≡ drop (length first) all → pointwise same rest more ≡ pointwise same all (first ++ more)
joined_same same all first more within front is one rest left =
    sym (joined_is same all first more within
    ∙ (ap (λ l. pointwise same l first && pointwise same (drop (length first) all) more) (sym is)
    ∙ (ap (λ b. b && pointwise same (drop (length first) all) more) one
    ∙ ap (λ l. pointwise same l more) (sym left))))
