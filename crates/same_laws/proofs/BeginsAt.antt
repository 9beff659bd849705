-- Where a transaction begins: behind the last call that ended one as it was shown.
use Rattle.std.proofs.Common.{◌≡◌, refl, sym, ap, ◌∙◌, Bool, true, false, ℕ, zero, suc, ◌+◌, ◌-◌, ◌<◌, ◌≤◌, ◌||◌, cond, take, List, [], ◌∷◌, Option, Some, None, ◌⊎◌, inl, inr, arith}
use Rattle.std.specs.Prelude.{◌==◌, slice_get}
use Rattle.std.specs.Option.{option_map_or}
use Rattle.std.proofs.lemmas.Bool.{or_cases}
use Rattle.outage_schedule.specs.declared.request.ShownCall.{ShownCall}
use Rattle.invariant_laws.specs.EntryParts.{ended_at}
use Rattle.invariant_laws.specs.Same.{begins_at, behind_ends}
use Rattle.same_laws.proofs.ShownTxns.{ends_one}
use Rattle.world_model.proofs.Offered.{eq_from}

-- none ends one
none_behind : (found index : ℕ) (xs : List ShownCall) → ((k : ℕ) (x : ShownCall) → slice_get xs k ≡ Some x → ends_one x ≡ false) → behind_ends found index xs ≡ found
none_behind found index [] none = refl
none_behind found index (x ∷ xs) none =
    ap (λ (ends : Bool). behind_ends (cond ends (index + 1) found) (index + 1) xs) (none 0 x refl) ∙ none_behind found (index + 1) xs (λ k y at. none (suc k) y at)

-- this one does, and none behind it
last_behind : (found index n : ℕ) (xs : List ShownCall) (one : ShownCall) → slice_get xs n ≡ Some one → ends_one one ≡ true → ((k : ℕ) (x : ShownCall) → n < k → slice_get xs k ≡ Some x → ends_one x ≡ false) → behind_ends found index xs ≡ index + n + 1
last_behind found index n [] one at ends none = absurd (let never : ⊥ = cc in never)
last_behind found index zero (x ∷ xs) one at ends none =
    let same : x ≡ one = cc in
    ap (λ (b : Bool). behind_ends (cond b (index + 1) found) (index + 1) xs) (ap ends_one same ∙ ends)
    ∙ (none_behind (index + 1) (index + 1) xs (λ k y is. none (suc k) y (omega arith) is) ∙ (let sum : index + 1 ≡ index + 0 + 1 = omega arith in sum))
last_behind found index (suc n) (x ∷ xs) one at ends none =
    last_behind (cond (ends_one x) (index + 1) found) (index + 1) n xs one at ends (λ k y less is. none (suc k) y (omega (arith, less)) is)
    ∙ (let sum : (index + 1) + n + 1 ≡ index + suc n + 1 = omega arith in sum)

-- a front of a list
take_got : {A : Type 0} (n k : ℕ) (xs : List A) (x : A) → slice_get (take n xs) k ≡ Some x → (k < n) × (slice_get xs k ≡ Some x)
take_got zero k xs x is = absurd (let never : ⊥ = cc in never)
take_got (suc n) k [] x is = absurd (let never : ⊥ = cc in never)
take_got (suc n) zero (y ∷ ys) x is = (omega arith, is)
take_got (suc n) (suc k) (y ∷ ys) x is = let rest = take_got n k ys x is in (let less : suc k < suc n = omega (arith, rest.0) in less, rest.1)

pub got_take : {A : Type 0} (n k : ℕ) (xs : List A) (x : A) → k < n → slice_get xs k ≡ Some x → slice_get (take n xs) k ≡ Some x
got_take zero k xs x less is = absurd (let never : ⊥ = omega (arith, less) in never)
got_take (suc n) k [] x less is = absurd (let never : ⊥ = cc in never)
got_take (suc n) zero (y ∷ ys) x less is = is
got_take (suc n) (suc k) (y ∷ ys) x less is = let below : k < n = omega (arith, less) in got_take n k ys x below is

-- The first call of the request, or one behind a call that ended a transaction, with none from
-- there on that did.
pub begins_there : (shown : List ShownCall) (first at : ℕ) → first ≤ at → ((first == 0) || ended_at shown (first - 1)) ≡ true → ((k : ℕ) (x : ShownCall) → first ≤ k → k < at → slice_get shown k ≡ Some x → ends_one x ≡ false) → begins_at shown at ≡ first
begins_there shown first at most starts none = by (or_cases (first == 0) (ended_at shown (first - 1)) starts)
  where
    later : (k : ℕ) (x : ShownCall) → first ≤ k → slice_get (take at shown) k ≡ Some x → ends_one x ≡ false
    later k x least is = let got = take_got at k shown x is in none k x least got.0 got.1

    whole : first ≡ 0 → begins_at shown at ≡ first
    whole zero_is = none_behind 0 0 (take at shown) (λ k x is. later k x (omega (arith, zero_is)) is) ∙ sym zero_is

    behind : (n : ℕ) → first ≡ n + 1 → (found : Option ShownCall) → slice_get shown n ≡ found → option_map_or ends_one found false ≡ true → begins_at shown at ≡ first
    behind n is None got ends = absurd (let never : ⊥ = cc in never)
    behind n is (Some one) got ends =
        last_behind 0 0 n (take at shown) one (got_take at n shown one (omega (arith, most, is)) got) ends (λ k x less at_k. later k x (omega (arith, is, less)) at_k)
        ∙ (let sum : 0 + n + 1 ≡ first = omega (arith, is) in sum)

    split : (n : ℕ) → first ≡ n → ended_at shown (n - 1) ≡ true → begins_at shown at ≡ first
    split zero is ended = whole is
    split (suc n) is ended =
        let less : suc n - 1 ≡ n = omega arith in
        behind n (let next : first ≡ n + 1 = omega (arith, is) in next) (slice_get shown n) refl (ap (ended_at shown) (sym less) ∙ ended)

    by : ((first == 0) ≡ true) ⊎ (ended_at shown (first - 1) ≡ true) → begins_at shown at ≡ first
    by (inl zero_is) = whole (eq_from first 0 zero_is)
    by (inr ended) = split first refl ended
