-- Places of calls that were shown: which are of one transaction, and how one ends that a replay
-- repeats.
use Rattle.std.proofs.Common.{◌≡◌, refl, sym, ap, ◌∙◌, arith, Bool, true, false, ℕ, suc, zero, ◌+◌, ◌<◌, ◌≤◌, ◌||◌, cond, take, List, [], ◌∷◌, Option, Some, None}
use Rattle.std.specs.Prelude.{slice_get}
use Rattle.std.specs.List.{last_or}
use Rattle.std.specs.Option.{option_map_or}
use Rattle.svc_values.specs.declared.answer.Answer.{Answer}
use Rattle.svc_values.specs.declared.answer.Answer.TheVariants as answer
use Rattle.svc_values.specs.meaning.Endings.{is_committed, is_conflict, is_rolled_back, ends_transaction}
use Rattle.request_bounds.specs.meaning.Replies.{ends_decided}
use Rattle.outage_schedule.specs.declared.request.ShownCall.{ShownCall}
use Rattle.server_model.specs.meaning.Walk.{ends, is_ending}
use Rattle.once_laws.specs.CallEndings.{ends_rolled_back}
use Rattle.invariant_laws.specs.Once.{transaction_at}
use Rattle.world_model.specs.records.Script.{behind_decided, recorded_from}
use Rattle.invariant_laws.proofs.Offered.{place_behind}

-- TRANSACTIONS ------------------------------------------------------------------------------------

-- where none before the later place is shown as an end, from the first one on
pub same_transaction : (calls : List ShownCall) (at last : ℕ) → at ≤ last → ((index : ℕ) (shown : ShownCall) → at ≤ index → index < last → slice_get calls index ≡ Some shown → ends_transaction shown.answers ≡ false) → transaction_at calls at ≡ transaction_at calls last
same_transaction [] at last most none = nothing at ∙ sym (nothing last)
  where
    nothing : (n : ℕ) → transaction_at [] n ≡ 0
    nothing zero = refl
    nothing (suc n) = refl
same_transaction (call ∷ calls) zero zero most none = refl
same_transaction (call ∷ calls) (suc at) zero most none = absurd (let never : ⊥ = omega (arith, most) in never)
same_transaction (call ∷ calls) zero (suc last) most none =
    let behind : transaction_at (call ∷ calls) (suc last) ≡ cond (ends_transaction call.answers) 1 0 + transaction_at calls last = place_behind call calls last in
    let plain : ◌≡◌ {A = ℕ} (cond (ends_transaction call.answers) 1 0) 0 = ap (λ (test : Bool). cond test 1 0) (none 0 call (omega arith) (omega arith) refl) in
    let first : ◌≡◌ {A = ℕ} (transaction_at (call ∷ calls) 0) 0 = refl in
    let start : transaction_at calls 0 ≡ 0 = none_first calls in
    let rest : transaction_at calls 0 ≡ transaction_at calls last = same_transaction calls 0 last (omega arith) (λ index shown from below at. none (suc index) shown (omega arith) (omega (arith, below)) at) in
    omega (arith, behind, plain, first, rest, start)
  where
    none_first : (list : List ShownCall) → transaction_at list 0 ≡ 0
    none_first [] = refl
    none_first (one ∷ list) = refl
same_transaction (call ∷ calls) (suc at) (suc last) most none =
    let behind : transaction_at (call ∷ calls) (suc last) ≡ cond (ends_transaction call.answers) 1 0 + transaction_at calls last = place_behind call calls last in
    let front : transaction_at (call ∷ calls) (suc at) ≡ cond (ends_transaction call.answers) 1 0 + transaction_at calls at = place_behind call calls at in
    let rest : transaction_at calls at ≡ transaction_at calls last = same_transaction calls at last (omega (arith, most)) (λ index shown from below found. none (suc index) shown (omega (arith, from)) (omega (arith, below)) found) in
    omega (arith, behind, front, rest)

-- RECORDED CALLS ----------------------------------------------------------------------------------

behind_least : (found index : ℕ) (shown : List ShownCall) → found ≤ index → found ≤ behind_decided found index shown
behind_least found index [] most = omega arith
behind_least found index (one ∷ shown) most = by (ends_decided one.answers) (behind_least (index + 1) (index + 1) shown (omega arith)) (behind_least found (index + 1) shown (omega (arith, most)))
  where
    by : (test : Bool) → index + 1 ≤ behind_decided (index + 1) (index + 1) shown → found ≤ behind_decided found (index + 1) shown → found ≤ behind_decided (cond test (index + 1) found) (index + 1) shown
    by true later rest = omega (arith, later, most)
    by false later rest = rest

-- a call that was decided stands before it
behind_decides : (found index : ℕ) (shown : List ShownCall) (place : ℕ) (one : ShownCall) → found ≤ index → slice_get shown place ≡ Some one → ends_decided one.answers ≡ true → index + place < behind_decided found index shown
behind_decides found index [] place one most at is = absurd (let none : ⊥ = cc in none)
behind_decides found index (first ∷ shown) zero one most at is = by (ends_decided first.answers) (let same : first ≡ one = cc in ap (λ (s : ShownCall). ends_decided s.answers) same ∙ is)
  where
    by : (test : Bool) → test ≡ true → index + 0 < behind_decided (cond test (index + 1) found) (index + 1) shown
    by true decided = let least : index + 1 ≤ behind_decided (index + 1) (index + 1) shown = behind_least (index + 1) (index + 1) shown (omega arith) in omega (arith, least)
    by false decided = absurd (let none : ⊥ = cc in none)
behind_decides found index (first ∷ shown) (suc place) one most at is = by (ends_decided first.answers) (λ next so. behind_decides next (index + 1) shown place one so at is)
  where
    by : (test : Bool) → ((next : ℕ) → next ≤ index + 1 → index + 1 + place < behind_decided next (index + 1) shown) → index + suc place < behind_decided (cond test (index + 1) found) (index + 1) shown
    by true later = let rest = later (index + 1) (omega arith) in omega (arith, rest)
    by false later = let rest = later found (omega (arith, most)) in omega (arith, rest)

take_get : {A : Type 0} (xs : List A) (n place : ℕ) → place < n → slice_get (take n xs) place ≡ slice_get xs place
take_get [] zero place less = absurd (let none : ⊥ = omega (arith, less) in none)
take_get [] (suc n) place less = refl
take_get (x ∷ xs) zero place less = absurd (let none : ⊥ = omega (arith, less) in none)
take_get (x ∷ xs) (suc n) zero less = refl
take_get (x ∷ xs) (suc n) (suc place) less = take_get xs n place (omega (arith, less))

-- so from it on none was
pub never_decided : (shown : List ShownCall) (next place : ℕ) (one : ShownCall) → recorded_from (take next shown) ≤ place → place < next → slice_get shown place ≡ Some one → ends_decided one.answers ≡ false
never_decided shown next place one from below at = by (ends_decided one.answers) refl
  where
    by : (test : Bool) → ends_decided one.answers ≡ test → test ≡ false
    by false is = refl
    by true is =
        let before = behind_decides 0 0 (take next shown) place one (omega arith) (take_get shown next place below ∙ at) is in
        absurd (let never : ⊥ = omega (arith, before, from) in never)

-- ENDINGS -----------------------------------------------------------------------------------------

-- what ends without a decision was rolled back
pub ended_rolled : (answers : List Answer) → ends_transaction answers ≡ true → ends_decided answers ≡ false → ends_rolled_back answers ≡ true
ended_rolled answers ended none = by (last_or None answers) ended none
  where
    by : (found : Option Answer) → option_map_or (λ a. is_committed a || (is_conflict a || is_rolled_back a)) found false ≡ true → (option_map_or is_committed found false || option_map_or is_conflict found false) ≡ false → option_map_or is_rolled_back found false ≡ true
    by None ended none = absurd (let never : ⊥ = cc in never)
    by (Some a) ended none = one (is_committed a) (is_conflict a) (is_rolled_back a) ended none
      where
        one : (committed conflict rolled : Bool) → (committed || (conflict || rolled)) ≡ true → (committed || conflict) ≡ false → rolled ≡ true
        one true conflict rolled ended none = absurd (let never : ⊥ = cc in never)
        one false true rolled ended none = absurd (let never : ⊥ = cc in never)
        one false false rolled ended none = ended

pub rolled_ends : (answers : List Answer) → ends_rolled_back answers ≡ true → ends answers ≡ true
rolled_ends answers is = by (last_or None answers) is
  where
    by : (found : Option Answer) → option_map_or is_rolled_back found false ≡ true → option_map_or is_ending found false ≡ true
    by None is = absurd (let none : ⊥ = cc in none)
    by (Some answer.RolledBack) is = refl
    by (Some other) is = absurd (let none : ⊥ = cc in none)

pub open_goes_on : (answers : List Answer) → ends answers ≡ false → ends_transaction answers ≡ false
open_goes_on answers is = by (last_or None answers) is
  where
    by : (found : Option Answer) → option_map_or is_ending found false ≡ false → option_map_or (λ a. is_committed a || (is_conflict a || is_rolled_back a)) found false ≡ false
    by None is = refl
    by (Some answer.Committed) is = absurd (let none : ⊥ = cc in none)
    by (Some answer.Conflict) is = absurd (let none : ⊥ = cc in none)
    by (Some answer.RolledBack) is = absurd (let none : ⊥ = cc in none)
    by (Some other) is = refl

-- no rollback ends with Committed
pub rolled_not_committed : {A : Type 0} (answers : List Answer) → ends_rolled_back answers ≡ true → option_map_or is_committed (last_or None answers) false ≡ true → A
rolled_not_committed answers rolled committed = by (last_or None answers) rolled committed
  where
    by : {A : Type 0} (found : Option Answer) → option_map_or is_rolled_back found false ≡ true → option_map_or is_committed found false ≡ true → A
    by None rolled committed = absurd (let none : ⊥ = cc in none)
    by (Some answer.RolledBack) rolled committed = absurd (let none : ⊥ = cc in none)
    by (Some other) rolled committed = absurd (let none : ⊥ = cc in none)
