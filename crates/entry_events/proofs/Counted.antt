-- How many of a list pass a test.
use Rattle.std.proofs.Common.{◌≡◌, ◌+◌, List, [], ◌∷◌, map, length, Bool, refl, sym, ap, ◌∙◌}
use Rattle.std.specs.Prelude.{cond, count_by, filter}
use Rattle.std.proofs.lemmas.List.Sums.{length-filter, sum_by-cons}

pub by_map : {A B : Type 0} (p : B → Bool) (f : A → B) (all : List A) → count_by (λ x. p (f x)) all ≡ count_by p (map f all)
by_map p f [] = refl
by_map p f (x ∷ all) =
    sum_by-cons (λ x. cond (p (f x)) 1 0) x all
    ∙ ap (λ n. cond (p (f x)) 1 0 + n) (by_map p f all)
    ∙ sym (sum_by-cons (λ y. cond (p y) 1 0) (f x) (map f all))

pub counted : {A B : Type 0} (p : B → Bool) (f : A → B) (all : List A) → length (filter (λ x. p (f x)) all) ≡ count_by p (map f all)
counted p f all = length-filter (λ x. p (f x)) all ∙ by_map p f all
