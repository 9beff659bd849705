-- Rows in order of key have keys that differ.
use Rattle.std.proofs.Common.{◌≡◌, inl, inr, ℕ, suc, ◌+◌, arith, List, [], ◌∷◌, map, length, get_or, true, false, not, ◌&&◌, ◌||◌, refl, sym, ap, subst, ◌∙◌}
use Rattle.std.specs.List.{AllByRecursion, AllAdjacentBelow, list_any}
use Rattle.std.specs.List.Sorted.{IsStrictlySortedBy}
use Rattle.std.specs.Ordering.{is_lt}
use Rattle.std.specs.declared.cmp.Ordering.{Ordering}
use Rattle.std.specs.declared.cmp.Ordering.TheVariants.{Less, Equal, Greater}
use Rattle.std.proofs.lemmas.Bool.{cases_Bool}
use Rattle.std.proofs.lemmas.Cmp.{tied_itself}
use Rattle.svc_values.specs.declared.value.Value.{Value}
use Rattle.svc_values.specs.meaning.Order.{value_cmp}
use Rattle.svc_values.specs.meaning.Same.{same_value}
use Rattle.svc_values.specs.SameLaws.{same_value_decides}
use Rattle.svc_values.specs.meaning.Schemas.{key_of}
use Rattle.svc_values.proofs.Offered.{value_cmp_total}
use Rattle.commit_log.specs.meaning.Bases.{keys_differ}
use Rattle.commit_log.specs.Bases.{has_lower_key}

less_from_lower : (o : Ordering) → true ≡ is_lt o → o ≡ Less
less_from_lower Less h = refl
less_from_lower Equal h = cc
less_from_lower Greater h = cc

-- what is below the first of keys that rise is below them all
below_rest : (key first : Value) (rest : List Value) → value_cmp key first ≡ Less → AllByRecursion (λ k. value_cmp first k ≡ Less) rest → AllByRecursion (λ k. value_cmp key k ≡ Less) rest
below_rest key first [] below above = tt
below_rest key first (k ∷ rest) below above = (value_cmp_total.trans key first k below above.0, below_rest key first rest below above.1)

-- rows of which each has a lower key than the next
keys_rising : (rows : List (List Value)) → AllAdjacentBelow (λ row next. true ≡ has_lower_key row next) rows (length rows) → IsStrictlySortedBy value_cmp (map key_of rows)
unfolding IsStrictlySortedBy
keys_rising [] lower = tt
keys_rising (row ∷ []) lower = (tt, tt)
keys_rising (row ∷ next ∷ rest) lower =
    let less : value_cmp (key_of row) (key_of next) ≡ Less = less_from_lower (value_cmp (key_of row) (key_of next)) (lower 0 row (omega arith)) in
    let behind : IsStrictlySortedBy value_cmp (map key_of (next ∷ rest)) = keys_rising (next ∷ rest) (λ k d within. later k d (lower (suc k) d (omega arith))) in
    ((less, below_rest (key_of row) (key_of next) (map key_of rest) less behind.0), behind)
  where
    later : (k : ℕ) (d : List Value) → true ≡ has_lower_key (get_or (row ∷ next ∷ rest) (suc k) d) (get_or (row ∷ next ∷ rest) (suc k + 1) d) → true ≡ has_lower_key (get_or (next ∷ rest) k d) (get_or (next ∷ rest) (k + 1) d)
    later k d h =
        let one_more : suc k + 1 ≡ suc (k + 1) = omega arith in
        subst (λ (n : ℕ). true ≡ has_lower_key (get_or (next ∷ rest) k d) (get_or (row ∷ next ∷ rest) n d)) one_more h

-- a key that is below others is none of them
none_same : (row : List Value) (rest : List (List Value)) → AllByRecursion (λ k. value_cmp (key_of row) k ≡ Less) (map key_of rest) → list_any (λ other. same_value (key_of other) (key_of row)) rest ≡ false
none_same row [] below = refl
none_same row (other ∷ rest) below =
    elim (cases_Bool (same_value (key_of other) (key_of row))) [
      | inl here ↦
          let same : key_of other ≡ key_of row = (same_value_decides (key_of other) (key_of row)).0 here in
          let less : value_cmp (key_of row) (key_of row) ≡ Less = subst (λ (k : Value). value_cmp (key_of row) k ≡ Less) same below.0 in
          let never : Less ≡ Equal = sym less ∙ tied_itself value_cmp_total (key_of row) in cc
      | inr apart ↦ ap (λ b. b || list_any (λ other. same_value (key_of other) (key_of row)) rest) apart ∙ none_same row rest below.1
    ]

rising_differ : (rows : List (List Value)) → IsStrictlySortedBy value_cmp (map key_of rows) → keys_differ rows ≡ true
unfolding IsStrictlySortedBy
rising_differ [] rising = refl
rising_differ (row ∷ rows) rising = ap (λ b. not b && keys_differ rows) (none_same row rows rising.0) ∙ rising_differ rows rising.1

pub lower_differ : (rows : List (List Value)) → AllAdjacentBelow (λ row next. true ≡ has_lower_key row next) rows (length rows) → keys_differ rows ≡ true
lower_differ rows lower = rising_differ rows (keys_rising rows lower)
