-- Keys by their order are keys by their test, and what one more key changes.
use Rattle.std.proofs.Common.{◌≡◌, List, Bool, true, false, cond, ◌||◌, refl, sym, ap, ◌∙◌}
use Rattle.std.proofs.Math.Path.{fun_ext}
use Rattle.std.specs.Prelude.{Some}
use Rattle.std.specs.List.{list_any}
use Rattle.std.specs.Map.{lookup}
use Rattle.std.specs.Ordering.{is_eq}
use Rattle.std.specs.declared.cmp.Ordering.{Ordering}
use Rattle.std.specs.BTreeMap.{is_at}
use Rattle.svc_values.specs.Keys.{is_key, value_of}

or_by_cases : (a b : Bool) → cond a true b ≡ (b || a)
or_by_cases true true = refl
or_by_cases true false = refl
or_by_cases false true = refl
or_by_cases false false = refl

module _ {K : Type 0} (same : K → K → Bool) (cmp : K → K → Ordering)
    (ties : (x y : K) → same x y ≡ is_eq (cmp x y)) where
  -- a key is there exactly where its place in the order is taken
  key_at : (keys : List K) (k : K) → list_any (is_at (cmp k)) keys ≡ is_key same keys k
  key_at keys k = ap (λ p. list_any p keys) (sym (fun_ext (ties k)))

  -- the value of a key is the one at its place in the order
  pub value_at : {V : Type 0} (pairs : List (K × V)) (k : K)
      → lookup (is_at (cmp k)) pairs ≡ value_of same pairs k
  value_at pairs k = ap (λ p. lookup p pairs) (sym (fun_ext (ties k)))

  module _ (symm : (x y : K) → same x y ≡ same y x) (key : K) where
    at_key : (k : K) → is_at (cmp key) k ≡ same k key
    at_key k = sym (ties key k) ∙ symm key k

    -- a set with one more key has those of before and that key
    pub has_added : (old new : List K)
        → ((q : K) → list_any (is_at (cmp q)) new
        ≡ cond (is_at (cmp key) q) true (list_any (is_at (cmp q)) old))
        → (k : K) → is_key same new k ≡ (is_key same old k || same k key)
    has_added old new updates k =
        sym (key_at new k)
        ∙ updates k
        ∙ ap (λ t. cond t true (list_any (is_at (cmp k)) old)) (at_key k)
        ∙ ap (λ b. cond (same k key) true b) (key_at old k)
        ∙ or_by_cases (same k key) (is_key same old k)

    -- a map in which a value was put has it at that key, and at each other key what it had
    pub value_put : {V : Type 0} (old new : List (K × V)) (value : V)
        → ((q : K) → lookup (is_at (cmp q)) new
        ≡ cond (is_at (cmp key) q) (Some value) (lookup (is_at (cmp q)) old))
        → (k : K) → value_of same new k ≡ cond (same k key) (Some value) (value_of same old k)
    value_put old new value updates k =
        sym (value_at new k)
        ∙ updates k
        ∙ ap (λ t. cond t (Some value) (lookup (is_at (cmp k)) old)) (at_key k)
        ∙ ap (λ o. cond (same k key) (Some value) o) (value_at old k)
