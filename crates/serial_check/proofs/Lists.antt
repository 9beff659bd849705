-- The item at a place of a list, those before it and those behind.
use Rattle.std.proofs.Common.{◌≡◌, ℕ, ◌+◌, ◌<◌, ◌==◌, false, List, [], ◌∷◌, ◌++◌, length, get_or, take, drop, sym, ap, ◌∙◌, arith}
use Rattle.std.proofs.lemmas.Bool.Decides.{nat_tests}
use Rattle.std.proofs.lemmas.List.{drop_more, take_more}

-- the item at a place, and those behind it
pub left_is : {A : Type 0} (all : List A) (i : ℕ) (one : A) → i < length all → one ≡ get_or all i one → drop i all ≡ one ∷ drop (i + 1) all
left_is all i one within is = drop_more all i one within ∙ ap (λ x. x ∷ drop (i + 1) all) (sym is)

-- the items up to it
pub front_is : {A : Type 0} (all : List A) (i : ℕ) (one : A) → i < length all → one ≡ get_or all i one → take i all ++ one ∷ [] ≡ take (i + 1) all
front_is all i one within is = ap (λ x. take i all ++ x ∷ []) is ∙ sym (take_more all i one within)

-- there is one
pub one_there : {A : Type 0} (one : A) (more : List A) → (length (one ∷ more) == 0) ≡ false
one_there one more = grind (arith, nat_tests)
