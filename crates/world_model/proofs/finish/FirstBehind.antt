-- The first item behind so many that meets a test.
use Rattle.std.proofs.Common.{◌≡◌, refl, sym, ap, subst, ◌∙◌, Bool, true, false, ℕ, suc, zero, ◌+◌, ◌-◌, ◌≤◌, ◌<◌, cond, length, drop, List, [], ◌∷◌, Option, Some, None, arith}
use Rattle.std.specs.Prelude.{not, nat_lt, position, slice_get, option_map, ◌||◌}
use Rattle.std.specs.List.{position_or_len, list_any}
use Rattle.std.proofs.lemmas.Bool.{or_from}
use Rattle.std.proofs.lemmas.Bool.Decides.{nat_tests}
use Rattle.world_model.specs.meaning.Finishing.{first_behind}
use Rattle.world_model.proofs.events.Lists.{at_any}

-- what is found
pub record IsFirst {A : Type 0} (test : A → Bool) (passed : ℕ) (all : List A) (number : ℕ) : Type 0 where
  pub index : ℕ
  pub is_number : number ≡ suc index
  pub behind : passed ≤ index
  pub item : A
  pub there : slice_get all index ≡ Some item
  pub meets : test item ≡ true
  pub before : (other : ℕ) (one : A) → passed ≤ other → other < index → slice_get all other ≡ Some one → test one ≡ false

-- none is found
abbrev pub NoneBehind : {A : Type 0} → (A → Bool) → ℕ → List A → Type 0
NoneBehind {A} test passed all = (other : ℕ) (one : A) → passed ≤ other → slice_get all other ≡ Some one → test one ≡ false

-- the place of the first in a list, counted from its head
data Found {A : Type 0} (test : A → Bool) (xs : List A) : Option ℕ → Type 0 where
  FoundAt : (index : ℕ) (item : A) → slice_get xs index ≡ Some item → test item ≡ true → ((other : ℕ) (one : A) → other < index → slice_get xs other ≡ Some one → test one ≡ false) → Found test xs (Some index)
  FoundNone : ((other : ℕ) (one : A) → slice_get xs other ≡ Some one → test one ≡ false) → Found test xs None

-- one more before it
abbrev pub counted : Option ℕ → Option ℕ
counted found = option_map (λ index. index + 1) found

pub position_cons : {A : Type 0} (test : A → Bool) (x : A) (xs : List A) (here : Bool) → test x ≡ here → position test (x ∷ xs) ≡ (cond here (Some 0) (counted (position test xs)))
position_cons test x xs here is = by here is
  where
    rest : ℕ
    rest = position_or_len test xs

    longer : (short : Bool) → nat_lt rest (length xs) ≡ short → cond (nat_lt (1 + rest) (length (x ∷ xs))) (Some (1 + rest)) None ≡ counted (cond short (Some rest) None)
    longer true is =
        let more : nat_lt (1 + rest) (length (x ∷ xs)) ≡ true = grind (arith, nat_tests) in
        let same : 1 + rest ≡ rest + 1 = omega arith in
        ap (λ (b : Bool). cond b (Some (1 + rest)) None) more ∙ ap Some same
    longer false is =
        let more : nat_lt (1 + rest) (length (x ∷ xs)) ≡ false = grind (arith, nat_tests) in
        ap (λ (b : Bool). cond b (Some (1 + rest)) None) more

    by : (here : Bool) → test x ≡ here → position test (x ∷ xs) ≡ cond here (Some 0) (counted (position test xs))
    by true is =
        let zero_is : position_or_len test (x ∷ xs) ≡ 0 = ap (λ (b : Bool). cond (not b) (1 + rest) 0) is in
        let some : nat_lt 0 (length (x ∷ xs)) ≡ true = grind (arith, nat_tests) in
        ap (λ (n : ℕ). cond (nat_lt n (length (x ∷ xs))) (Some n) None) zero_is ∙ ap (λ (b : Bool). cond b (Some 0) None) some
    by false is =
        let more_is : position_or_len test (x ∷ xs) ≡ 1 + rest = ap (λ (b : Bool). cond (not b) (1 + rest) 0) is in
        ap (λ (n : ℕ). cond (nat_lt n (length (x ∷ xs))) (Some n) None) more_is ∙ longer (nat_lt rest (length xs)) refl

found_in : {A : Type 0} (test : A → Bool) (xs : List A) → Found test xs (position test xs)
found_in test [] = FoundNone (λ other one is. absurd (let none : ⊥ = cc in none))
found_in {A} test (x ∷ xs) = by (test x) refl (found_in test xs)
  where
    later : (found : Option ℕ) → test x ≡ false → Found test xs found → Found test (x ∷ xs) (counted found)
    later _ differs (FoundAt index item there meets before) =
        let same : index + 1 ≡ suc index = omega arith in
        subst (λ (n : ℕ). Found test (x ∷ xs) (Some n)) (sym same) (FoundAt (suc index) item there meets earlier)
      where
        earlier : (other : ℕ) (one : A) → other < suc index → slice_get (x ∷ xs) other ≡ Some one → test one ≡ false
        earlier zero one below is = let same : x ≡ one = cc in ap test (sym same) ∙ differs
        earlier (suc other) one below is = before other one (omega arith) is
    later _ differs (FoundNone none) = FoundNone all
      where
        all : (other : ℕ) (one : A) → slice_get (x ∷ xs) other ≡ Some one → test one ≡ false
        all zero one is = let same : x ≡ one = cc in ap test (sym same) ∙ differs
        all (suc other) one is = none other one is

    by : (here : Bool) → test x ≡ here → Found test xs (position test xs) → Found test (x ∷ xs) (position test (x ∷ xs))
    by true is found = subst (Found test (x ∷ xs)) (sym (position_cons test x xs true is)) (FoundAt 0 x refl is (λ other one below at. absurd (let never : ⊥ = omega arith in never)))
    by false is found = subst (Found test (x ∷ xs)) (sym (position_cons test x xs false is)) (later (position test xs) is found)

pub get_behind : {A : Type 0} (passed : ℕ) (xs : List A) (index : ℕ) → slice_get (drop passed xs) index ≡ slice_get xs (passed + index)
get_behind zero xs index = ap (slice_get xs) (let same : index ≡ 0 + index = omega arith in same)
get_behind (suc passed) [] index = refl
get_behind (suc passed) (x ∷ xs) index = get_behind passed xs index ∙ ap (slice_get (x ∷ xs)) (let same : suc (passed + index) ≡ suc passed + index = omega arith in same)

-- The first one behind so many: there is one, or there is none.
pub first_is : {A : Type 0} (test : A → Bool) (passed : ℕ) (all : List A) (number : ℕ) → first_behind test passed all ≡ Some number → IsFirst test passed all number
first_is {A} test passed all number e = by (position test (drop passed all)) (found_in test (drop passed all)) e
  where
    by : (found : Option ℕ) → Found test (drop passed all) found → option_map (λ index. passed + index + 1) found ≡ Some number → IsFirst test passed all number
    by _ (FoundAt index item there meets before) e =
        let same : passed + index + 1 ≡ number = cc in
        record {
          index = passed + index;
          is_number = omega arith;
          behind = omega arith;
          item = item;
          there = sym (get_behind passed all index) ∙ there;
          meets = meets;
          before = λ other one least below at.
              let split : other ≡ passed + (other - passed) = omega arith in
              before (other - passed) one (omega arith) (get_behind passed all (other - passed) ∙ (ap (slice_get all) (sym split) ∙ at));
        }
    by _ (FoundNone none) e = absurd (let never : ⊥ = cc in never)

pub none_is : {A : Type 0} (test : A → Bool) (passed : ℕ) (all : List A) → first_behind test passed all ≡ None → NoneBehind test passed all
none_is {A} test passed all e = by (position test (drop passed all)) (found_in test (drop passed all)) e
  where
    by : (found : Option ℕ) → Found test (drop passed all) found → option_map (λ index. passed + index + 1) found ≡ None → NoneBehind test passed all
    by _ (FoundAt index item there meets before) e = absurd (let never : ⊥ = cc in never)
    by _ (FoundNone none) e = λ other one least at.
        let split : other ≡ passed + (other - passed) = omega arith in
        none (other - passed) one (get_behind passed all (other - passed) ∙ (ap (slice_get all) (sym split) ∙ at))

-- one that is the first is found
pub first_there : {A : Type 0} (test : A → Bool) (passed : ℕ) (all : List A) (number : ℕ) → IsFirst test passed all number → first_behind test passed all ≡ Some number
first_there {A} test passed all number first = by (first_behind test passed all) refl
  where
    by : (found : Option ℕ) → first_behind test passed all ≡ found → found ≡ Some number
    by None is =
        let clash : true ≡ false = sym first.meets ∙ none_is test passed all is first.index first.item first.behind first.there in
        absurd (let never : ⊥ = cc in never)
    by (Some other) is = ap Some (same_first other (first_is test passed all other is))
      where
        same_first : (other : ℕ) → IsFirst test passed all other → other ≡ number
        same_first other one = at (nat_lt one.index first.index) (nat_lt first.index one.index) refl refl
          where
            at : (less more : Bool) → nat_lt one.index first.index ≡ less → nat_lt first.index one.index ≡ more → other ≡ number
            at true more is_less is_more =
                let below : one.index < first.index = grind (arith, nat_tests) in
                let clash : true ≡ false = sym one.meets ∙ first.before one.index one.item one.behind below one.there in
                absurd (let never : ⊥ = cc in never)
            at false true is_less is_more =
                let below : first.index < one.index = grind (arith, nat_tests) in
                let clash : true ≡ false = sym first.meets ∙ one.before first.index first.item first.behind below first.there in
                absurd (let never : ⊥ = cc in never)
            at false false is_less is_more = grind (arith, nat_tests, one.is_number, first.is_number)

-- and where there is none, none is
pub none_there : {A : Type 0} (test : A → Bool) (passed : ℕ) (all : List A) → NoneBehind test passed all → first_behind test passed all ≡ None
none_there {A} test passed all none = by (first_behind test passed all) refl
  where
    by : (found : Option ℕ) → first_behind test passed all ≡ found → found ≡ None
    by None is = refl
    by (Some other) is =
        let one = first_is test passed all other is in
        let clash : true ≡ false = sym one.meets ∙ none one.index one.item one.behind one.there in
        absurd (let never : ⊥ = cc in never)

-- and none meets the test then
pub none_any : {A : Type 0} (test : A → Bool) (all : List A) → NoneBehind test 0 all → list_any test all ≡ false
none_any test [] none = refl
none_any test (x ∷ xs) none = or_from (test x) (list_any test xs) (none 0 x (omega arith) refl) (none_any test xs (λ other one least at. none (suc other) one (omega arith) at))

-- where one is found, one meets the test
pub position_any : {A : Type 0} (test : A → Bool) (xs : List A) (index : ℕ) → position test xs ≡ Some index → list_any test xs ≡ true
position_any test xs index at = by (position test xs) (found_in test xs) at
  where
    by : (found : Option ℕ) → Found test xs found → found ≡ Some index → list_any test xs ≡ true
    by _ (FoundAt place item there meets before) at = at_any test xs place item there meets
    by _ (FoundNone none) at = absurd (let never : ⊥ = cc in never)

any_or : {A : Type 0} (test : A → Bool) (x : A) (xs : List A) → ((index : ℕ) × (item : A) × ((slice_get xs index ≡ Some item) × (test item ≡ true))) → (index : ℕ) × (item : A) × ((slice_get (x ∷ xs) index ≡ Some item) × (test item ≡ true))
any_or test x xs found = (suc found.0, found.1, found.2)

-- where one meets the test, it is somewhere
pub any_found : {A : Type 0} (test : A → Bool) (xs : List A) → list_any test xs ≡ true → (index : ℕ) × (item : A) × ((slice_get xs index ≡ Some item) × (test item ≡ true))
any_found test [] any = absurd (let never : ⊥ = cc in never)
any_found {A} test (x ∷ xs) any = by (test x) refl any (λ later. any_found test xs later)
  where
    by : (here : Bool) → test x ≡ here → (here || list_any test xs) ≡ true → (list_any test xs ≡ true → (index : ℕ) × (item : A) × ((slice_get xs index ≡ Some item) × (test item ≡ true))) → (index : ℕ) × (item : A) × ((slice_get (x ∷ xs) index ≡ Some item) × (test item ≡ true))
    by true is any later = (0, x, (refl, is))
    by false is any later = any_or test x xs (later any)
