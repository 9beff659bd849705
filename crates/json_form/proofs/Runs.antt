-- Runs of keys that rise.
use Rattle.std.proofs.Common.{◌≡◌, ◌+◌, ℕ, List, [], ◌∷◌, ◌++◌, length, Bool, true, false, ◌↔◌, IsTrue, Result, Ok, Err, ⊎_elim, refl, sym, ap, subst, ◌∙◌, arith}
use Rattle.std.specs.Cmp.{IsTotalOrder}
use Rattle.std.specs.List.{AllByRecursion}
use Rattle.std.specs.List.Sorted.{IsStrictlySortedBy, IsSortedBy, IsBinarySearchResult, IsSearchInRange}
use Rattle.std.specs.Ordering.{is_eq, is_lt, ordering_reverse}
use Rattle.std.specs.Result.{is_ok}
use Rattle.std.specs.declared.cmp.Ordering.{Ordering}
use Rattle.std.specs.declared.cmp.Ordering.TheVariants.{Less, Equal, Greater}
use Rattle.std.proofs.lemmas.Bool.{cases_lt, or_from}
use Rattle.std.proofs.lemmas.List.Folds.{list_any_at, list_any_none}
use Rattle.std.proofs.lemmas.List.Sorted.{searchable_from_sorted}
use Rattle.std.proofs.lemmas.Map.Keys.{Less-from_sorted}
use Rattle.json_form.specs.meaning.Arrays.{is_key}

last_of : {K : Type 0} (P : K → Type 0) (xs : List K) (y : K) → AllByRecursion P (xs ++ y ∷ []) → P y
last_of P [] y all = all.0
last_of P (x ∷ xs) y all = last_of P xs y all.1

one_more : {K : Type 0} (P : K → Type 0) (xs : List K) (y : K) → AllByRecursion P xs → P y → AllByRecursion P (xs ++ y ∷ [])
one_more P [] y all one = (one, tt)
one_more P (x ∷ xs) y all one = (all.0, one_more P xs y all.1 one)

module _ {K : Type 0} {R : K → K → Ordering} (o : IsTotalOrder R) where
  longer : (rest : List K) (last key : K) → IsStrictlySortedBy R (rest ++ last ∷ []) → R last key ≡ Less → IsStrictlySortedBy R ((rest ++ last ∷ []) ++ key ∷ [])
  unfolding IsStrictlySortedBy
  longer [] last key rises less = ((less, tt), (tt, tt))
  longer (x ∷ xs) last key rises less =
      (one_more (λ y. R x y ≡ Less) (xs ++ last ∷ []) key rises.0 (o.trans x last key (last_of (λ y. R x y ≡ Less) xs last rises.0) less), longer xs last key rises.1 less)

  above_last : (rest : List K) (last key : K) → IsStrictlySortedBy R ((rest ++ last ∷ []) ++ key ∷ []) → R last key ≡ Less
  unfolding IsStrictlySortedBy
  above_last [] last key rises = rises.0.0
  above_last (x ∷ xs) last key rises = above_last xs last key rises.1

  is_less : (r : Ordering) → is_lt r ≡ true → r ≡ Less
  is_less Less h = refl
  is_less Equal h = absurd (cc)
  is_less Greater h = absurd (cc)

  -- a run still rises with a key behind it just where the key is greater than its last
  pub rises_behind : (run rest : List K) (last key : K) (above : Bool) → run ≡ rest ++ last ∷ [] → IsStrictlySortedBy R run → above ≡ is_lt (R last key) → IsTrue above ↔ IsStrictlySortedBy R (run ++ key ∷ [])
  rises_behind run rest last key above is rises test =
      let whole : IsStrictlySortedBy R (rest ++ last ∷ []) = subst (IsStrictlySortedBy R) is rises in (
        (λ yes. subst (λ (ks : List K). IsStrictlySortedBy R (ks ++ key ∷ [])) (sym is) (longer rest last key whole (is_less (R last key) (sym test ∙ yes)))),
        (λ more. test ∙ ap is_lt (above_last rest last key (subst (λ (ks : List K). IsStrictlySortedBy R (ks ++ key ∷ [])) is more))),
      )

  -- a run of one key rises
  pub rises_alone : (run : List K) (key : K) → length run ≡ 0 → IsStrictlySortedBy R (run ++ key ∷ [])
  unfolding IsStrictlySortedBy
  rises_alone [] key none = (tt, tt)
  rises_alone (x ∷ xs) key none = absurd (omega arith)

  module _ (same : K → K → Bool) (ties : (x y : K) → same x y ≡ is_eq (R x y)) where
    -- what a comparison the other way round says of the test
    told : (x key : K) (r : Ordering) → R x key ≡ r → same key x ≡ is_eq (ordering_reverse r)
    told x key r is = ties key x ∙ ap is_eq (o.antisymm key x ∙ ap ordering_reverse is)

    -- a key that may go behind a run that rises does not stand in it
    pub none_above : (run : List K) (key : K) → IsStrictlySortedBy R (run ++ key ∷ []) → is_key same run key ≡ false
    unfolding IsStrictlySortedBy
    none_above [] key rises = refl
    none_above (x ∷ xs) key rises = or_from _ _ (told x key Less (last_of (λ y. R x y ≡ Less) xs key rises.0)) (none_above xs key rises.1)

    falls_nowhere : (run : List K) → IsStrictlySortedBy R run → IsSortedBy (λ a b. is_lt (R a b)) run
    falls_nowhere run rises k d _ short = ap is_lt (o.antisymm _ _ ∙ ap ordering_reverse (Less-from_sorted R run k (k + 1) d rises (omega arith) short))

    -- a binary search of a run that rises finds the key just where it stands in the run
    pub found_in_run : (run : List K) (key : K) (r : Result ℕ ℕ) → IsStrictlySortedBy R run → IsSearchInRange r (length run) → IsBinarySearchResult (λ y. R y key) run r → is_ok r ≡ is_key same run key
    found_in_run run key (Ok i) rises bound at = sym (list_any_at (same key) run i key bound (told _ key Equal (at key)))
    found_in_run run key (Err i) rises bound parts =
        let apart = parts (searchable_from_sorted o (λ x. x) run key (falls_nowhere run rises)) in
        sym (list_any_none (same key) run (λ k d short. ⊎_elim (λ low. told _ key Less (apart.0 k d (omega arith) low)) (λ high. told _ key Greater (apart.1 k d high short)) (cases_lt k i)))
