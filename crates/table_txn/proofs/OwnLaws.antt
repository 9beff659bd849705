-- The writes of a transaction with the places of the last ones.
use Rattle.std.proofs.Common.{◌≡◌, ◌⊎◌, inl, inr, ℕ, ◌+◌, ◌<◌, Bool, true, false, cond, List, [], ◌∷◌, ◌++◌, length, slice_set, take, get_or, refl, sym, ◌∙◌, ap, subst, append_assoc, append-nil, arith}
use Rattle.std.proofs.lemmas.Option.{slice_get_within, get_or_from_slice_get}
use Rattle.std.specs.Prelude.{Option, Some, None, IsSome, slice_get}
use Rattle.std.proofs.lemmas.Bool.{cases_Bool}
use Rattle.std.proofs.lemmas.List.{take_at, take-take, length_push}
use Rattle.std.specs.Ordering.{nat_cmp, is_eq}
use Rattle.std.specs.Cmp.Lexicographic.{slice_cmp}
use Rattle.svc_values.specs.declared.value.Value.{Value}
use Rattle.svc_values.specs.declared.entry.Write.{Write}
use Rattle.svc_values.specs.meaning.Order.{value_cmp}
use Rattle.table_store.specs.Shelves.{is_place}
use Rattle.table_store.proofs.Offered.{same_if_equal, keys_equal, equal_if_same, keys_equal_if}
use Rattle.table_txn.specs.Own.{Latest, or_else, last_from, last_at, place_kept, AreLatest, AreBeforeFrom, AreBefore, AreOwn, HasPlace, HasSamePlaces}
use Rattle.table_txn.proofs.Same.{both, both_if}

-- a place is the one that it is
pub place_is : (table : List ℕ) (key : Value) (t : List ℕ) (k : Value) → is_place table key t k ≡ true → (table ≡ t) × (key ≡ k)
place_is table key t k here =
    let parts = both (is_eq (slice_cmp nat_cmp table t)) (is_eq (value_cmp key k)) here in
    (same_if_equal table t parts.0, keys_equal key k parts.1)

pub own_place : (table : List ℕ) (key : Value) → is_place table key table key ≡ true
own_place table key = both_if (is_eq (slice_cmp nat_cmp table table)) (is_eq (value_cmp key key)) (equal_if_same table table refl) (keys_equal_if key key refl)

else_some : {A : Type 0} (b : Bool) (x : A) (o other : Option A) → or_else (cond b (Some x) o) other ≡ cond b (Some x) (or_else o other)
else_some true x o other = refl
else_some false x o other = refl

-- the last write, with one more behind
pub last_from-push : (n : ℕ) (writes : List Write) (write : Write) (table : List ℕ) (key : Value)
    → last_from n (writes ++ write ∷ []) table key ≡ cond (is_place write.table write.key table key) (Some (n + length writes)) (last_from n writes table key)
last_from-push n [] write table key = let e : n + 0 ≡ n = omega arith in ap (λ m. cond (is_place write.table write.key table key) (Some m) None) (sym e)
last_from-push n (first ∷ writes) write table key =
    let e : (n + 1) + length writes ≡ n + length (first ∷ writes) = omega arith in
    let here = is_place write.table write.key table key in
    let other : Option ℕ = cond (is_place first.table first.key table key) (Some n) None in
    ap (λ o. or_else o other) (last_from-push (n + 1) writes write table key ∙ ap (λ m. cond here (Some m) (last_from (n + 1) writes table key)) e)
    ∙ else_some here (n + length (first ∷ writes)) (last_from (n + 1) writes table key) other

pub last_at-push : (writes : List Write) (write : Write) (table : List ℕ) (key : Value)
    → last_at (writes ++ write ∷ []) table key ≡ cond (is_place write.table write.key table key) (Some (length writes)) (last_at writes table key)
last_at-push writes write table key =
    let e : 0 + length writes ≡ length writes = omega arith in
    last_from-push 0 writes write table key ∙ ap (λ m. cond (is_place write.table write.key table key) (Some m) (last_at writes table key)) e

-- ---- the places before

pub before_kept : (first writes : List Write) (before more : List (Option ℕ)) → AreBeforeFrom first writes before → AreBeforeFrom first writes (take (length writes) before ++ more)
before_kept first [] before more are = tt
before_kept first (write ∷ writes) [] more are = absurd are
before_kept first (write ∷ writes) (at ∷ before) more are = (are.0, before_kept (first ++ write ∷ []) writes before more are.1)

pub before_push : (first writes : List Write) (write : Write) (before : List (Option ℕ)) → AreBeforeFrom first writes before
    → AreBeforeFrom first (writes ++ write ∷ []) (take (length writes) before ++ last_at (first ++ writes) write.table write.key ∷ [])
before_push first [] write before are = (ap (λ l. last_at l write.table write.key) (append-nil first), tt)
before_push first (one ∷ writes) write [] are = absurd are
before_push first (one ∷ writes) write (at ∷ before) are = (
  are.0,
  subst (λ (l : List Write). AreBeforeFrom (first ++ one ∷ []) (writes ++ write ∷ []) (take (length writes) before ++ last_at l write.table write.key ∷ [])) (append_assoc first (one ∷ []) writes)
      (before_push (first ++ one ∷ []) writes write before are.1),
)

before_room : (first writes : List Write) (before : List (Option ℕ)) (spare : Option ℕ) → AreBeforeFrom first writes before → length writes < length (take (length writes) before ++ spare ∷ [])
before_room first [] before spare are = omega arith
before_room first (write ∷ writes) [] spare are = absurd are
before_room first (write ∷ writes) (at ∷ before) spare are = let more = before_room (first ++ write ∷ []) writes before spare are.1 in omega (arith, more)

before_set : (first writes : List Write) (before : List (Option ℕ)) (spare one : Option ℕ) → AreBeforeFrom first writes before
    → slice_set (take (length writes) before ++ spare ∷ []) (length writes) one ≡ take (length writes) before ++ one ∷ []
before_set first [] before spare one are = refl
before_set first (write ∷ writes) [] spare one are = absurd are
before_set first (write ∷ writes) (at ∷ before) spare one are = ap (λ l. at ∷ l) (before_set (first ++ write ∷ []) writes before spare one are.1)

pub before_pop : (first writes : List Write) (write : Write) (before : List (Option ℕ)) → AreBeforeFrom first (writes ++ write ∷ []) before
    → AreBeforeFrom first writes before × (slice_get before (length writes) ≡ Some (last_at (first ++ writes) write.table write.key))
before_pop first [] write [] are = absurd are
before_pop first [] write (at ∷ before) are = (tt, ap (λ o. Some o) (are.0 ∙ ap (λ l. last_at l write.table write.key) (sym (append-nil first))))
before_pop first (one ∷ writes) write [] are = absurd are
before_pop first (one ∷ writes) write (at ∷ before) are =
    let more = before_pop (first ++ one ∷ []) writes write before are.1 in
    ((are.0, more.0), more.1 ∙ ap (λ l. Some (last_at l write.table write.key)) (append_assoc first (one ∷ []) writes))

-- ---- one write more

pub latest_push : (writes : List Write) (write : Write) (old new : Latest) → AreLatest writes old → HasPlace old write.table write.key (Some (length writes)) new → AreLatest (writes ++ write ∷ []) new
latest_push writes write old new are has table key =
    has table key ∙ ap (cond (is_place write.table write.key table key) (Some (length writes))) (are table key) ∙ sym (last_at-push writes write table key)

latest_same : (writes : List Write) (old new : Latest) → AreLatest writes old → HasSamePlaces old new → AreLatest writes new
latest_same writes old new are same table key = same table key ∙ are table key

module _ (writes : List Write) (before : List (Option ℕ)) (latest : Latest) (own : AreOwn writes before latest) (at : ℕ) (here : at ≡ length writes) where
  pub own_kept : (more : List (Option ℕ)) → AreOwn writes (take at before ++ more) latest
  own_kept more = record { before_each = subst (λ n. AreBefore writes (take n before ++ more)) (sym here) (before_kept [] writes before more own.before_each); last = own.last }

  -- before it was put
  pub own_cut : AreOwn writes (take at before) latest
  own_cut = subst (λ l. AreOwn writes l latest) (append-nil (take at before)) (own_kept [])

  -- there is room for the place before the next write
  pub room_last : (spare : Option ℕ) → at < length (take at before ++ spare ∷ [])
  room_last spare = subst (λ n. n < length (take n before ++ spare ∷ [])) (sym here) (before_room [] writes before spare own.before_each)

  module _ (write : Write) (new : Latest) (spare : Option ℕ) where
    pub own_pushed : (one : Option ℕ) → one ≡ place_kept latest write.table write.key → HasPlace latest write.table write.key (Some at) new → AreOwn (writes ++ write ∷ []) (slice_set (take at before ++ spare ∷ []) at one) new
    own_pushed one is has = record {
      before_each = subst (λ n. AreBefore (writes ++ write ∷ []) (slice_set (take n before ++ spare ∷ []) n one)) (sym here)
          (subst (AreBefore (writes ++ write ∷ [])) (sym (before_set [] writes before spare one own.before_each))
          (subst (λ o. AreBefore (writes ++ write ∷ []) (take (length writes) before ++ o ∷ [])) (sym (is ∙ own.last write.table write.key)) (before_push [] writes write before own.before_each)));
      last = latest_push writes write latest new own.last (subst (λ n. HasPlace latest write.table write.key (Some n) new) here has);
    }

    -- there was no memory for its place
    pub own_refused : HasSamePlaces latest new → (short : List Write) → short ≡ take at (writes ++ write ∷ []) → AreOwn short (take at before ++ spare ∷ []) new
    own_refused same short cut =
        let back : short ≡ writes = cut ∙ take_at writes (write ∷ []) at (sym here) in
        subst (λ w. AreOwn w (take at before ++ spare ∷ []) new) (sym back)
        (record { before_each = (own_kept (spare ∷ [])).before_each; last = latest_same writes latest new own.last same })

-- ---- one write less

module _ (left : List Write) (write : Write) (before : List (Option ℕ)) (latest : Latest) (own : AreOwn (left ++ write ∷ []) before latest) where
  pub is_kept : IsSome (place_kept latest write.table write.key)
  is_kept =
      subst IsSome (sym (own.last write.table write.key ∙ last_at-push left write write.table write.key ∙ ap (λ b. cond b (Some (length left)) (last_at left write.table write.key)) (own_place write.table write.key))) refl

  pub before_last : slice_get before (length left) ≡ Some (last_at left write.table write.key)
  before_last = (before_pop [] left write before own.before_each).1

  pub own_popped : (one : Option ℕ) → one ≡ last_at left write.table write.key → (new : Latest) → HasPlace latest write.table write.key one new → AreOwn left before new
  own_popped one is new has = record { before_each = (before_pop [] left write before own.before_each).0; last = λ table key. by_place table key (cases_Bool (is_place write.table write.key table key)) }
    where
      by_place : (table : List ℕ) (key : Value) → (is_place write.table write.key table key ≡ true) ⊎ (is_place write.table write.key table key ≡ false) → place_kept new table key ≡ last_at left table key
      by_place table key (inl here) =
          let same = place_is write.table write.key table key here in
          has table key ∙ ap (λ b. cond b one (place_kept latest table key)) here ∙ is
          ∙ ap (λ (t : List ℕ). last_at left t write.key) same.0 ∙ ap (last_at left table) same.1
      by_place table key (inr apart) =
          has table key ∙ ap (λ b. cond b one (place_kept latest table key)) apart ∙ own.last table key
          ∙ last_at-push left write table key ∙ ap (λ b. cond b (Some (length left)) (last_at left table key)) apart

-- the front of a list whose last item is gone
pub front_of : (all longer left : List Write) (write : Write) → longer ≡ take (length longer) all → longer ≡ left ++ write ∷ [] → left ≡ take (length left) all
front_of all longer left write is split =
    let n : length longer ≡ length left + 1 = ap length split ∙ length_push left write in
    sym (take_at left (write ∷ []) (length left) refl) ∙ ap (take (length left)) (sym split ∙ is) ∙ take-take (length left) (length longer) all (omega arith)

-- what stands last
pub at_end : {A : Type 0} (xs : List A) (x : A) → slice_get (xs ++ x ∷ []) (length xs) ≡ Some x
at_end [] x = refl
at_end (y ∷ ys) x = at_end ys x

-- one step of taking writes back
pub own_step : (longer left : List Write) (write : Write) (before : List (Option ℕ)) (latest new : Latest) (n : ℕ) (one : Option ℕ) → AreOwn longer before latest → longer ≡ left ++ write ∷ [] → n ≡ length left → one ≡ get_or before n one
    → HasPlace latest write.table write.key one new → AreOwn left before new
own_step longer left write before latest new n one own split here is has =
    let there : AreOwn (left ++ write ∷ []) before latest = subst (λ w. AreOwn w before latest) split own in
    let found = get_or_from_slice_get before (length left) (last_at left write.table write.key) one (before_last left write before latest there) in
    own_popped left write before latest there one (is ∙ ap (λ m. get_or before m one) here ∙ found) new has

-- and what it asks for
pub step_within : (longer left : List Write) (write : Write) (before : List (Option ℕ)) (latest : Latest) → AreOwn longer before latest → longer ≡ left ++ write ∷ [] → length left < length before
step_within longer left write before latest own split =
    slice_get_within before (length left) (last_at left write.table write.key) (before_last left write before latest (subst (λ w. AreOwn w before latest) split own))

pub step_kept : (longer left : List Write) (write : Write) (before : List (Option ℕ)) (latest : Latest) → AreOwn longer before latest → longer ≡ left ++ write ∷ [] → IsSome (place_kept latest write.table write.key)
step_kept longer left write before latest own split = is_kept left write before latest (subst (λ w. AreOwn w before latest) split own)
