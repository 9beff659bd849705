-- Keys in an ordered set, and keys of the items of a list.
use Rattle.std.proofs.Common.{◌≡◌, List, [], ◌∷◌, ◌++◌, map, Bool, true, false, cond, ◌||◌, refl, sym, ap, ◌∙◌}
use Rattle.std.proofs.Math.Path.{fun_ext}
use Rattle.std.specs.List.{list_any}
use Rattle.std.proofs.lemmas.List.Folds.{list_any-append}
use Rattle.std.specs.Ordering.{is_eq}
use Rattle.std.specs.declared.cmp.Ordering.{Ordering}
use Rattle.std.specs.BTreeMap.{is_at}
use Rattle.json_form.specs.meaning.Arrays.{is_key}

or_by_cases : (a b : Bool) → cond a true b ≡ (b || a)
or_by_cases true true = refl
or_by_cases true false = refl
or_by_cases false true = refl
or_by_cases false false = refl

or_assoc : (a b c : Bool) → (a || (b || c)) ≡ ((a || b) || c)
or_assoc true b c = refl
or_assoc false b c = refl

or_false : (a : Bool) → (a || false) ≡ a
or_false true = refl
or_false false = refl

-- a set with one more key has those of before and that key
pub has_added : {K : Type 0} (same : K → K → Bool) (cmp : K → K → Ordering) → ((x y : K) → same x y ≡ is_eq (cmp x y)) → ((x y : K) → same x y ≡ same y x) → (old new : List K) (key : K)
    → ((q : K) → list_any (is_at (cmp q)) new ≡ cond (is_at (cmp key) q) true (list_any (is_at (cmp q)) old)) → (k : K) → is_key same new k ≡ (is_key same old k || same k key)
has_added same cmp ties symm old new key updates k =
    let at_k : same k ≡ is_at (cmp k) = fun_ext (ties k) in
    let now : is_key same new k ≡ list_any (is_at (cmp k)) new = ap (λ p. list_any p new) at_k in
    let before : list_any (is_at (cmp k)) old ≡ is_key same old k = ap (λ p. list_any p old) (sym at_k) in
    let test : is_at (cmp key) k ≡ same k key = sym (ties key k) ∙ symm key k in
    now ∙ updates k ∙ ap (λ t. cond t true (list_any (is_at (cmp k)) old)) test ∙ ap (λ b. cond (same k key) true b) before ∙ or_by_cases (same k key) (is_key same old k)

-- the keys of a list with one more item
key_of_more : {A K : Type 0} (same : K → K → Bool) (key : A → K) (found : List A) (x : A) (k : K) → is_key same (map key (found ++ x ∷ [])) k ≡ (is_key same (map key found) k || same k (key x))
key_of_more same key [] x k = or_false (same k (key x))
key_of_more same key (y ∷ ys) x k = ap (λ b. same k (key y) || b) (key_of_more same key ys x k) ∙ or_assoc (same k (key y)) (is_key same (map key ys) k) (same k (key x))

-- a set that has the keys of a list keeps them with one more item
pub still_has : {A K : Type 0} (same : K → K → Bool) (key : A → K) (found : List A) (x : A) (old new : List K) → ((k : K) → is_key same old k ≡ is_key same (map key found) k) → ((k : K) → is_key same new k ≡ (is_key same old k || same k (key x)))
    → (k : K) → is_key same new k ≡ is_key same (map key (found ++ x ∷ [])) k
still_has same key found x old new has added k =
    added k ∙ ap (λ b. b || same k (key x)) (has k) ∙ sym (key_of_more same key found x k)

-- the same where a list stands before the set
pub has_added_behind : {K : Type 0} (same : K → K → Bool) (run old new : List K) (key : K) → ((k : K) → is_key same new k ≡ (is_key same old k || same k key)) → (k : K) → is_key same (run ++ new) k ≡ (is_key same (run ++ old) k || same k key)
has_added_behind same run old new key added k =
    list_any-append (same k) run new ∙ ap (λ b. is_key same run k || b) (added k) ∙ or_assoc (is_key same run k) (is_key same old k) (same k key) ∙ ap (λ b. b || same k key) (sym (list_any-append (same k) run old))
