-- The item at a place of a list, and those behind it.
use Rattle.std.proofs.Common.{◌≡◌, ℕ, ◌+◌, ◌<◌, List, ◌∷◌, length, get_or, drop, sym, ap, ◌∙◌}
use Rattle.std.proofs.lemmas.List.{drop_more}

pub left_is : {A : Type 0} (all : List A) (i : ℕ) (one : A) → i < length all → one ≡ get_or all i one → drop i all ≡ one ∷ drop (i + 1) all
left_is all i one within is = drop_more all i one within ∙ ap (λ x. x ∷ drop (i + 1) all) (sym is)
