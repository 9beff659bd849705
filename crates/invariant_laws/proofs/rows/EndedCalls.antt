-- What the calls that were shown tell of a place: how the call of it ended, and which transaction
-- it is of.
use Rattle.std.proofs.Common.{◌≡◌, refl, sym, ap, ◌∙◌, Bool, true, false, ℕ, suc, zero, ◌+◌, ◌<◌, ◌||◌, cond, length, take, List, [], ◌∷◌, ◌++◌, Option, Some, None, arith}
use Rattle.std.specs.Prelude.{slice_get}
use Rattle.std.specs.List.{last_or}
use Rattle.std.specs.Option.{option_map_or}
use Rattle.std.proofs.lemmas.List.Sums.{sum_by-cons}
use Rattle.std.proofs.lemmas.Option.{slice_get_within}
use Rattle.svc_values.specs.declared.answer.Answer.{Answer}
use Rattle.svc_values.specs.declared.answer.Answer.TheVariants as answer
use Rattle.svc_values.specs.meaning.Endings.{ends_committed, ends_transaction, is_committed, is_conflict, is_rolled_back}
use Rattle.svc_values.specs.meaning.Same.{same_answers}
use Rattle.svc_values.specs.SameLaws.{same_answers_decide}
use Rattle.outage_schedule.specs.declared.request.ShownCall.{ShownCall}
use Rattle.invariant_laws.specs.Once.{shows_at, transaction_at}
use Rattle.world_model.proofs.Offered.{get_further, get_last}

-- what was shown at a place stays
pub shows_further : (test : List Answer → Bool) (calls more : List ShownCall) (at : ℕ) → shows_at test calls at ≡ true → shows_at test (calls ++ more) at ≡ true
shows_further test calls more at here = by (slice_get calls at) refl here
  where
    by : (found : Option ShownCall) → slice_get calls at ≡ found → option_map_or (λ (call : ShownCall). test call.answers) found false ≡ true → shows_at test (calls ++ more) at ≡ true
    by None is here = absurd (let none : ⊥ = cc in none)
    by (Some call) is here = ap (λ (found : Option ShownCall). option_map_or (λ (one : ShownCall). test one.answers) found false) (get_further calls more at call is) ∙ here

-- and the call that is shown is at the next place
pub shows_last : (test : List Answer → Bool) (calls : List ShownCall) (call : ShownCall) (at : ℕ) → at ≡ length calls → test call.answers ≡ true → shows_at test (calls ++ call ∷ []) at ≡ true
shows_last test calls call at place here =
    ap (λ (n : ℕ). shows_at test (calls ++ call ∷ []) n) place ∙ (ap (λ (found : Option ShownCall). option_map_or (λ (one : ShownCall). test one.answers) found false) (get_last calls call) ∙ here)

pub shows_weaker : (test next : List Answer → Bool) → ((answers : List Answer) → test answers ≡ true → next answers ≡ true) → (calls : List ShownCall) (at : ℕ) → shows_at test calls at ≡ true → shows_at next calls at ≡ true
shows_weaker test next weaker calls at here = by (slice_get calls at) here
  where
    by : (found : Option ShownCall) → option_map_or (λ (call : ShownCall). test call.answers) found false ≡ true → option_map_or (λ (call : ShownCall). next call.answers) found false ≡ true
    by None here = here
    by (Some call) here = weaker call.answers here

-- a commit ends its transaction
pub committed_ends : (answers : List Answer) → ends_committed answers ≡ true → ends_transaction answers ≡ true
committed_ends answers here = by (last_or None answers) here
  where
    by : (found : Option Answer) → option_map_or is_committed found false ≡ true → option_map_or (λ (a : Answer). is_committed a || (is_conflict a || is_rolled_back a)) found false ≡ true
    by None here = here
    by (Some answer.Committed) here = refl
    by (Some other) here = ap (λ (test : Bool). test || (is_conflict other || is_rolled_back other)) here

-- one that was answered so was shown so
pub shown_same : (answers : List Answer) (test : List Answer → Bool) (calls : List ShownCall) (at : ℕ) → test answers ≡ true → shows_at (same_answers answers) calls at ≡ true → shows_at test calls at ≡ true
shown_same answers test calls at is here = shows_weaker (same_answers answers) test (λ other same. ap test (sym ((same_answers_decide answers other).0 same)) ∙ is) calls at here

pub place_behind : (call : ShownCall) (calls : List ShownCall) (at : ℕ) → transaction_at (call ∷ calls) (suc at) ≡ cond (ends_transaction call.answers) 1 0 + transaction_at calls at
place_behind call calls at = sum_by-cons (λ (one : ShownCall). cond (ends_transaction one.answers) 1 0) call (take at calls)

-- a call that ended its transaction is of one before that of each place behind it
pub ended_below : (calls : List ShownCall) (at n : ℕ) → at < n → shows_at ends_transaction calls at ≡ true → transaction_at calls at < transaction_at calls n
ended_below [] at n less here = absurd (let none : ⊥ = cc in none)
ended_below (call ∷ calls) at zero less here = absurd (let never : ⊥ = omega (arith, less) in never)
ended_below (call ∷ calls) zero (suc n) less here =
    let behind : transaction_at (call ∷ calls) (suc n) ≡ cond (ends_transaction call.answers) 1 0 + transaction_at calls n = place_behind call calls n in
    let one : ◌≡◌ {A = ℕ} (cond (ends_transaction call.answers) 1 0) 1 = ap (λ (test : Bool). cond test 1 0) here in
    let first : ◌≡◌ {A = ℕ} (transaction_at (call ∷ calls) 0) 0 = refl in
    omega (arith, behind, one, first)
ended_below (call ∷ calls) (suc at) (suc n) less here =
    let behind : transaction_at (call ∷ calls) (suc n) ≡ cond (ends_transaction call.answers) 1 0 + transaction_at calls n = place_behind call calls n in
    let front : transaction_at (call ∷ calls) (suc at) ≡ cond (ends_transaction call.answers) 1 0 + transaction_at calls at = place_behind call calls at in
    let below : at < n = omega (arith, less) in
    let rest : transaction_at calls at < transaction_at calls n = ended_below calls at n below here in
    omega (arith, behind, front, rest)

-- so it is of one before that of the next call
pub ended_before : (calls : List ShownCall) (at : ℕ) → shows_at ends_transaction calls at ≡ true → transaction_at calls at < transaction_at calls (length calls)
ended_before calls at here = by (slice_get calls at) refl here
  where
    by : (found : Option ShownCall) → slice_get calls at ≡ found → option_map_or (λ (call : ShownCall). ends_transaction call.answers) found false ≡ true → transaction_at calls at < transaction_at calls (length calls)
    by None is shows = absurd (let none : ⊥ = cc in none)
    by (Some call) is shows = ended_below calls at (length calls) (slice_get_within calls at call is) here
