-- The greatest horizon that is wanted.
use Rattle.std.proofs.Common.{◌≡◌, ℕ, ◌+◌, max, List, [], ◌∷◌, ◌++◌, map, reverse, Bool, true, false, cond, refl, ap, ◌∙◌, arith}
use Rattle.std.specs.Prelude.{nat_lt, filter, fold}
use Rattle.std.proofs.lemmas.Grind.{reverse_onto}
use Rattle.run_clauses.specs.meaning.Horizons.{Ended, Wanted, raised}
use Rattle.report_horizons.specs.Horizons.{part_of, part_before, most_by}

fold_most : (a : ℕ) (all : List ℕ) → fold max a all ≡ max a (fold max 0 all)
fold_most a [] = omega arith
fold_most a (n ∷ all) = let one = fold_most (max a n) all in let other = fold_most (max 0 n) all in omega (arith, one, other)

one_more : {A : Type 0} (test : A → Bool) (part : A → ℕ) (one : A) (all : List A) (b : Bool) → test one ≡ b → fold max 0 (map part (filter test all)) ≡ most_by (λ x. cond (test x) (part x) 0) all
    → fold max 0 (map part (filter test (one ∷ all))) ≡ max (cond (test one) (part one) 0) (most_by (λ x. cond (test x) (part x) 0) all)
one_more test part one all true is rest = rw is (let first = fold_most (max 0 (part one)) (map part (filter test all)) in omega (arith, first, rest))
one_more test part one all false is rest = rw is (omega (arith, rest))

pub most_is : {A : Type 0} (test : A → Bool) (part : A → ℕ) (all : List A) → fold max 0 (map part (filter test all)) ≡ most_by (λ x. cond (test x) (part x) 0) all
most_is test part [] = refl
most_is test part (one ∷ all) = one_more test part one all (test one) refl (most_is test part all)

pub most-append : {A : Type 0} (part : A → ℕ) (a b : List A) → most_by part (a ++ b) ≡ max (most_by part a) (most_by part b)
most-append part [] b = omega arith
most-append part (one ∷ a) b = let rest = most-append part a b in omega (arith, rest)

most-reverse : {A : Type 0} (part : A → ℕ) (all : List A) → most_by part (reverse all) ≡ most_by part all
most-reverse part [] = refl
most-reverse part (one ∷ all) =
    let turned = ap (most_by part) (reverse_onto all one []) in
    let apart = most-append part (reverse all) (one ∷ []) in
    let rest = most-reverse part all in
    omega (arith, turned, apart, rest)

-- the horizon that is wanted, by the incarnations that ended in any order
pub wanted_is : (retention tick : ℕ) (all : List Ended) → fold max 0 (map (λ one. one.incarnation + 1) (filter (λ one. nat_lt (one.tick + retention) tick) (reverse all))) ≡ most_by (part_of retention tick) all
wanted_is retention tick all =
    most_is (λ (one : Ended). nat_lt (one.tick + retention) tick) (λ one. one.incarnation + 1) (reverse all) ∙ most-reverse (part_of retention tick) all

-- the horizon at an event
pub raised_is : (image event : ℕ) (all : List Wanted) → raised image all event ≡ max image (most_by (part_before event) all)
raised_is image event all =
    let start = fold_most image (map (λ (one : Wanted). one.horizon) (filter (λ (one : Wanted). nat_lt one.event event) all)) in
    let most = most_is (λ (one : Wanted). nat_lt one.event event) (λ one. one.horizon) all in
    omega (arith, start, most)
