-- Parts of lists between two places.
use Rattle.std.proofs.Common.{◌≡◌, ℕ, zero, suc, ◌+◌, ◌-◌, ◌≤◌, ◌<◌, List, [], ◌∷◌, ◌++◌, length, take, drop, get_or, refl, sym, ap, ◌∙◌, arith}
use Rattle.std.specs.Prelude.{Option, None, Some, slice_get}
use Rattle.std.specs.List.{last_or}
use Rattle.std.proofs.lemmas.List.{take_more}
use Rattle.std.proofs.Math.Seq.{drop-nil}

-- from one place on, and then from another
pub drop_both : {A : Type 0} (from n : ℕ) (xs : List A) → drop n (drop from xs) ≡ drop (from + n) xs
drop_both zero n xs = let same : n ≡ 0 + n = omega arith in ap (λ k. drop k xs) same
drop_both (suc from) n [] = drop-nil n ∙ sym (drop-nil (suc from + n))
drop_both (suc from) n (x ∷ xs) = let same : suc (from + n) ≡ suc from + n = omega arith in drop_both from n xs ∙ ap (λ k. drop k (x ∷ xs)) same

take_long : {A : Type 0} (k : ℕ) (xs : List A) → k ≤ length xs → length (take k xs) ≡ k
take_long zero xs within = refl
take_long (suc k) [] within = absurd (omega (arith, within))
take_long (suc k) (x ∷ xs) within = ap (λ n. suc n) (take_long k xs (omega (arith, within)))

-- so many items
pub span_long : {A : Type 0} (from k : ℕ) (xs : List A) → from + k ≤ length xs → length (take k (drop from xs)) ≡ k
span_long zero k xs within = take_long k xs (omega (arith, within))
span_long (suc from) k [] within = absurd (omega (arith, within))
span_long (suc from) k (x ∷ xs) within = span_long from k xs (omega (arith, within))

-- and one more
pub span_more : {A : Type 0} (from k at : ℕ) (xs : List A) (x : A) → at ≡ from + k → at < length xs → x ≡ get_or xs at x
    → take k (drop from xs) ++ x ∷ [] ≡ take (k + 1) (drop from xs)
span_more {A} zero k at xs x there within is =
    let same : at ≡ k = omega (arith, there) in
    let here : k < length xs = omega (arith, there, within) in
    ap (λ (last : A). take k xs ++ last ∷ []) (is ∙ ap (λ n. get_or xs n x) same) ∙ sym (take_more xs k x here)
span_more (suc from) k at [] x there within is = absurd (omega (arith, within))
span_more (suc from) k zero (y ∷ xs) x there within is = absurd (omega (arith, there))
span_more (suc from) k (suc at) (y ∷ xs) x there within is = span_more from k at xs x (omega (arith, there)) (omega (arith, within)) is

-- the last item stands at the last place
last_at_end : {A : Type 0} (a : A) (items : List A) (before : Option A) → slice_get (a ∷ items) (length items) ≡ last_or before (a ∷ items)
last_at_end a [] before = refl
last_at_end a (b ∷ items) before = last_at_end b items (Some a)

-- the last one stands at the last place
pub last_at : {A : Type 0} (items : List A) → slice_get items (length items - 1) ≡ last_or None items
last_at [] = refl
last_at (a ∷ items) = let here : suc (length items) - 1 ≡ length items = omega arith in ap (λ i. slice_get (a ∷ items) i) here ∙ last_at_end a items None
