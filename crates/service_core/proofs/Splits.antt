-- An element of a list that stands between others.
use Rattle.std.proofs.Common.{◌≡◌, ◌∙◌, ap, List, [], ◌∷◌, ◌++◌, append_assoc}

-- the list is these two parts with the element between them
pub record Between {A : Type 0} (list : List A) (one : A) : Type 0 where
  pub front : List A
  pub back : List A
  pub split : list ≡ front ++ one ∷ back

-- where another element is replaced, it stands there still
pub stays_between : {A : Type 0} (front back front' back' : List A) (old new one : A) → front ++ old ∷ back ≡ front' ++ one ∷ back' → (old ≡ one → ⊥) → Between (front ++ new ∷ back) one
stays_between [] back [] back' old new one same apart = absurd (let heads : old ≡ one = cc in apart heads)
stays_between [] back (first ∷ front') back' old new one same apart = record { front = new ∷ front'; back = back'; split = let tails : back ≡ front' ++ one ∷ back' = cc in ap (λ l. new ∷ l) tails }
stays_between (first ∷ front) back [] back' old new one same apart = record { front = []; back = front ++ new ∷ back; split = let heads : first ≡ one = cc in ap (λ x. x ∷ (front ++ new ∷ back)) heads }
stays_between (first ∷ front) back (other ∷ front') back' old new one same apart =
    let tails : front ++ old ∷ back ≡ front' ++ one ∷ back' = cc in
    let rest = stays_between front back front' back' old new one tails apart in
    record { front = first ∷ rest.front; back = rest.back; split = ap (λ l. first ∷ l) rest.split }

-- and where one more stands behind the list
pub more_between : {A : Type 0} (list : List A) (one last : A) → Between list one → Between (list ++ last ∷ []) one
more_between list one last between = record {
  front = between.front;
  back = between.back ++ last ∷ [];
  split = ap (λ l. l ++ last ∷ []) between.split ∙ append_assoc between.front (one ∷ between.back) (last ∷ []);
}
