-- The transactions of a request, part by part: the lists that it noted are those of its sendings.
use Rattle.std.proofs.Common.{◌≡◌, refl, sym, ap, ap₂, ◌∙◌, Bool, true, false, ℕ, suc, zero, ◌+◌, ◌-◌, ◌<◌, ◌≤◌, ◌&&◌, cond, length, take, List, [], ◌∷◌, ◌⊎◌, inl, inr, arith}
use Rattle.std.specs.Prelude.{◌==◌, nat_le, nat_lt, count_by}
use Rattle.std.specs.Cmp.Lexicographic.{pointwise}
use Rattle.std.proofs.lemmas.Bool.{and_parts, and_from}
use Rattle.std.proofs.lemmas.Bool.Decides.{nat_tests}
use Rattle.std.proofs.lemmas.List.{take_all}
use Rattle.std.proofs.lemmas.List.Sums.{sum_by-cons}
use Rattle.svc_values.specs.declared.entry.Ltxid.{Ltxid}
use Rattle.svc_values.specs.meaning.Endings.{ends_transaction}
use Rattle.outage_schedule.specs.declared.request.ShownCall.{ShownCall}
use Rattle.client_model.specs.meaning.Tried.{Sending as Noted, tried_upto}
use Rattle.run_clauses.specs.meaning.Transactions.{put_first, txns}
use Rattle.run_clauses.specs.Tried.{tried_among, tried_from, tried_of}
use Rattle.invariant_laws.specs.Once.{is_noted, transaction_at}
use Rattle.world_model.specs.Parts.{Sending}
use Rattle.invariant_laws.proofs.entries.NotedLists.{bool_same, one_part, place, told}
use Rattle.world_model.proofs.Offered.{eq_from, eq_to, le_from, le_to, lt_from, lt_to}

-- how many transactions these calls end
abbrev pub ends_in : List ShownCall → ℕ
ends_in [] = 0
ends_in (call ∷ calls) = cond (ends_transaction call.answers) (suc (ends_in calls)) (ends_in calls)

pub ends_counted : (calls : List ShownCall) → count_by (λ call. ends_transaction call.answers) calls ≡ ends_in calls
ends_counted [] = refl
ends_counted (call ∷ calls) = sum_by-cons (λ (one : ShownCall). cond (ends_transaction one.answers) 1 0) call calls ∙ (ap (λ (n : ℕ). cond (ends_transaction call.answers) 1 0 + n) (ends_counted calls) ∙ by (ends_transaction call.answers))
  where
    by : (test : Bool) → cond test 1 0 + ends_in calls ≡ cond test (suc (ends_in calls)) (ends_in calls)
    by true = omega arith
    by false = omega arith

either : (a b : ℕ) → (a ≤ b) ⊎ (b < a)
either a b = by (nat_le a b) refl
  where
    by : (test : Bool) → nat_le a b ≡ test → (a ≤ b) ⊎ (b < a)
    by true is = inl (le_from a b is)
    by false is = inr (grind (arith, nat_tests))

-- a place from the first one on
record Behind (first at : ℕ) : Type 0 where
  more : ℕ
  is : at ≡ first + more

behind : (first at : ℕ) → first ≤ at → Behind first at
behind first at least = record { more = at - first; is = omega (arith, least) }

pub record Part : Type 0 where
  pub first : List ShownCall
  pub rest : List (List ShownCall)

-- there is always a last part
pub some_part : (calls : List ShownCall) → (p : Part) × (txns calls ≡ p.first ∷ p.rest)
some_part [] = (record { first = []; rest = [] }, refl)
some_part (call ∷ calls) = by (ends_transaction call.answers) (some_part calls)
  where
    by : (ends : Bool) → (p : Part) × (txns calls ≡ p.first ∷ p.rest) → (p : Part) × (put_first ends call (txns calls) ≡ p.first ∷ p.rest)
    by true later = (record { first = call ∷ []; rest = txns calls }, refl)
    by false later = (record { first = call ∷ later.0.first; rest = later.0.rest }, ap (put_first false call) later.1)

module _ (shown : List ShownCall) (noted : List Noted) (sendings : List Sending) (agree : pointwise (is_noted shown) noted sendings ≡ true) where
  abbrev place_of : ℕ → ℕ
  place_of at = place shown noted sendings agree at

  abbrev among : (ℕ → Bool) → List Ltxid
  among is_of = tried_among is_of (told shown noted sendings agree)

  abbrev from : ℕ → List (List ShownCall) → List (List Ltxid)
  from first parts = tried_from first parts (told shown noted sendings agree)

  -- the lists of these parts, the first of which begins before its calls
  abbrev since : ℕ → ℕ → List (List ShownCall) → List (List Ltxid)
  since low first [] = []
  since low first (part ∷ []) = among (λ at. nat_le low at) ∷ []
  since low first (part ∷ next ∷ parts) = among (λ at. nat_le low at && nat_lt at (first + length part)) ∷ from (first + length part) (next ∷ parts)

  since_from : (first : ℕ) (parts : List (List ShownCall)) → since first first parts ≡ from first parts
  since_from first [] = refl
  since_from first (part ∷ []) = refl
  since_from first (part ∷ next ∷ parts) = refl

  -- where these calls stand among all
  record Stands (calls : List ShownCall) (first low k : ℕ) : Type 0 where
    least : low ≤ first
    ahead : (more : ℕ) → place_of (first + more) ≡ k + ends_in (take more calls)
    here : (at : ℕ) → low ≤ at → at < first → place_of at ≡ k
    before : (at : ℕ) → at < low → place_of at < k

  last_part : (first low k : ℕ) → Stands [] first low k → (at : ℕ) → (place_of at == k) ≡ nat_le low at
  last_part first low k stands at = bool_same (place_of at == k) (nat_le low at) to of
    where
      none : (more : ℕ) → ends_in (take more []) ≡ 0
      none zero = refl
      none (suc more) = refl

      to : (place_of at == k) ≡ true → nat_le low at ≡ true
      to is = by (either low at)
        where
          by : (low ≤ at) ⊎ (at < low) → nat_le low at ≡ true
          by (inl least) = le_to low at least
          by (inr below) = let less : place_of at < k = stands.before at below in let same : place_of at ≡ k = eq_from (place_of at) k is in absurd (let never : ⊥ = omega (arith, less, same) in never)

      of : nat_le low at ≡ true → (place_of at == k) ≡ true
      of is = by (either first at)
        where
          by : (first ≤ at) ⊎ (at < first) → (place_of at == k) ≡ true
          by (inr below) = eq_to (place_of at) k (stands.here at (le_from low at is) below)
          by (inl least) =
              let b : Behind first at = behind first at least in
              let ahead : place_of (first + b.more) ≡ k + ends_in (take b.more []) = stands.ahead b.more in
              let zero_ends : ends_in (take b.more []) ≡ 0 = none b.more in
              let value : place_of (first + b.more) ≡ k = omega arith in
              eq_to (place_of at) k (ap place_of b.is ∙ value)

  -- a call that ends its transaction
  ended_part : (call : ShownCall) (calls : List ShownCall) (first low k : ℕ) → ends_transaction call.answers ≡ true → Stands (call ∷ calls) first low k → (at : ℕ) → (place_of at == k) ≡ (nat_le low at && nat_lt at (first + 1))
  ended_part call calls first low k ends stands at = bool_same (place_of at == k) (nat_le low at && nat_lt at (first + 1)) to of
    where
      value_at : (more : ℕ) → at ≡ first + suc more → k < place_of at
      value_at more is =
          let ahead : place_of (first + suc more) ≡ k + cond (ends_transaction call.answers) (suc (ends_in (take more calls))) (ends_in (take more calls)) = stands.ahead (suc more) in
          let one : cond (ends_transaction call.answers) (suc (ends_in (take more calls))) (ends_in (take more calls)) ≡ suc (ends_in (take more calls)) = ap (λ (test : Bool). cond test (suc (ends_in (take more calls))) (ends_in (take more calls))) ends in
          let same : place_of at ≡ place_of (first + suc more) = ap place_of is in
          omega (arith, ahead, one, same)

      to : (place_of at == k) ≡ true → (nat_le low at && nat_lt at (first + 1)) ≡ true
      to is = by (either low at) (either (first + 1) at)
        where
          same : place_of at ≡ k
          same = eq_from (place_of at) k is

          by : (low ≤ at) ⊎ (at < low) → ((first + 1) ≤ at) ⊎ (at < first + 1) → (nat_le low at && nat_lt at (first + 1)) ≡ true
          by (inl least) (inr below) = and_from (nat_le low at) (nat_lt at (first + 1)) (le_to low at least) (lt_to at (first + 1) below)
          by (inr below) other = let less : place_of at < k = stands.before at below in absurd (let never : ⊥ = omega (arith, less, same) in never)
          by (inl least) (inl behind_it) =
              let b : Behind (first + 1) at = behind (first + 1) at behind_it in
              let at_is : at ≡ first + suc b.more = let known : at ≡ (first + 1) + b.more = b.is in omega (arith, known) in
              let more : k < place_of at = value_at b.more at_is in
              absurd (let never : ⊥ = omega (arith, more, same) in never)

      of : (nat_le low at && nat_lt at (first + 1)) ≡ true → (place_of at == k) ≡ true
      of is = by (either first at)
        where
          parts : (nat_le low at ≡ true) × (nat_lt at (first + 1) ≡ true)
          parts = and_parts (nat_le low at) (nat_lt at (first + 1)) is

          by : (first ≤ at) ⊎ (at < first) → (place_of at == k) ≡ true
          by (inr below) = eq_to (place_of at) k (stands.here at (le_from low at parts.0) below)
          by (inl least) =
              let less : at < first + 1 = lt_from at (first + 1) parts.1 in
              let at_is : at ≡ first + 0 = omega (arith, least, less) in
              let ahead : place_of (first + 0) ≡ k + 0 = stands.ahead 0 in
              let value : place_of (first + 0) ≡ k = omega arith in
              eq_to (place_of at) k (ap place_of at_is ∙ value)

  behind_end : (call : ShownCall) (calls : List ShownCall) (first low k : ℕ) → ends_transaction call.answers ≡ true → Stands (call ∷ calls) first low k → Stands calls (first + 1) (first + 1) (suc k)
  behind_end call calls first low k ends stands = record {
    least = omega arith;
    ahead = λ more.
        let known : place_of (first + suc more) ≡ k + cond (ends_transaction call.answers) (suc (ends_in (take more calls))) (ends_in (take more calls)) = stands.ahead (suc more) in
        let one : cond (ends_transaction call.answers) (suc (ends_in (take more calls))) (ends_in (take more calls)) ≡ suc (ends_in (take more calls)) = ap (λ (test : Bool). cond test (suc (ends_in (take more calls))) (ends_in (take more calls))) ends in
        let at_is : (first + 1) + more ≡ first + suc more = omega arith in
        let same : place_of ((first + 1) + more) ≡ place_of (first + suc more) = ap place_of at_is in
        omega (arith, known, one, same);
    here = λ at least below. absurd (let never : ⊥ = omega (arith, least, below) in never);
    before = λ at below. below_end at below (either low at) (either first at);
  }
    where
      below_end : (at : ℕ) → at < first + 1 → (low ≤ at) ⊎ (at < low) → (first ≤ at) ⊎ (at < first) → place_of at < suc k
      below_end at below (inr lower) other = let less : place_of at < k = stands.before at lower in omega (arith, less)
      below_end at below (inl least) (inr lower) = let same : place_of at ≡ k = stands.here at least lower in omega (arith, same)
      below_end at below (inl least) (inl first_so) =
          let at_is : at ≡ first + 0 = omega (arith, first_so, below) in
          let ahead : place_of (first + 0) ≡ k + 0 = stands.ahead 0 in
          let same : place_of at ≡ place_of (first + 0) = ap place_of at_is in
          omega (arith, ahead, same)

  behind_other : (call : ShownCall) (calls : List ShownCall) (first low k : ℕ) → ends_transaction call.answers ≡ false → Stands (call ∷ calls) first low k → Stands calls (first + 1) low k
  behind_other call calls first low k goes_on stands = record {
    least = let known : low ≤ first = stands.least in omega (arith, known);
    ahead = λ more.
        let known : place_of (first + suc more) ≡ k + cond (ends_transaction call.answers) (suc (ends_in (take more calls))) (ends_in (take more calls)) = stands.ahead (suc more) in
        let none : cond (ends_transaction call.answers) (suc (ends_in (take more calls))) (ends_in (take more calls)) ≡ ends_in (take more calls) = ap (λ (test : Bool). cond test (suc (ends_in (take more calls))) (ends_in (take more calls))) goes_on in
        let at_is : (first + 1) + more ≡ first + suc more = omega arith in
        let same : place_of ((first + 1) + more) ≡ place_of (first + suc more) = ap place_of at_is in
        omega (arith, known, none, same);
    here = λ at least below. here_so at least below (either first at);
    before = stands.before;
  }
    where
      here_so : (at : ℕ) → low ≤ at → at < first + 1 → (first ≤ at) ⊎ (at < first) → place_of at ≡ k
      here_so at least below (inr lower) = stands.here at least lower
      here_so at least below (inl first_so) =
          let at_is : at ≡ first + 0 = omega (arith, first_so, below) in
          let ahead : place_of (first + 0) ≡ k + 0 = stands.ahead 0 in
          let same : place_of at ≡ place_of (first + 0) = ap place_of at_is in
          omega (arith, ahead, same)

  -- one call more in the first part
  since_more : (call : ShownCall) (first low : ℕ) (parts : List (List ShownCall)) (p : Part) → parts ≡ p.first ∷ p.rest → since low (first + 1) parts ≡ since low first (put_first false call parts)
  since_more call first low parts p is = ap (since low (first + 1)) is ∙ (by p.first p.rest ∙ sym (ap (λ (all : List (List ShownCall)). since low first (put_first false call all)) is))
    where
      by : (part : List ShownCall) (rest : List (List ShownCall)) → since low (first + 1) (part ∷ rest) ≡ since low first ((call ∷ part) ∷ rest)
      by part [] = refl
      by part (next ∷ rest) =
          let same : (first + 1) + length part ≡ first + length (call ∷ part) = omega arith in
          ap (λ (n : ℕ). among (λ at. nat_le low at && nat_lt at n) ∷ from n (next ∷ rest)) same

  all_parts : (calls : List ShownCall) (first low k : ℕ) → Stands calls first low k → tried_upto (suc (ends_in calls)) k noted ≡ since low first (txns calls)
  all_parts [] first low k stands = ap (λ (ids : List Ltxid). ids ∷ []) (one_part shown noted sendings agree k (λ at. nat_le low at) (last_part first low k stands))
  all_parts (call ∷ calls) first low k stands =
      by (ends_transaction call.answers) refl (λ ends. all_parts calls (first + 1) (first + 1) (suc k) (behind_end call calls first low k ends stands)) (λ other. all_parts calls (first + 1) low k (behind_other call calls first low k other stands))
    where
      by : (ends : Bool) → ends_transaction call.answers ≡ ends
          → (ends_transaction call.answers ≡ true → tried_upto (suc (ends_in calls)) (suc k) noted ≡ since (first + 1) (first + 1) (txns calls)) → (ends_transaction call.answers ≡ false → tried_upto (suc (ends_in calls)) k noted ≡ since low (first + 1) (txns calls))
          → tried_upto (suc (cond ends (suc (ends_in calls)) (ends_in calls))) k noted ≡ since low first (put_first ends call (txns calls))
      by false is later again = again is ∙ since_more call first low (txns calls) (some_part calls).0 (some_part calls).1
      by true is later again =
          ap₂ (λ (ids : List Ltxid) (more : List (List Ltxid)). ids ∷ more) (one_part shown noted sendings agree k (λ at. nat_le low at && nat_lt at (first + 1)) (ended_part call calls first low k is stands)) (later is ∙ since_from (first + 1) (txns calls))
          ∙ (ap (λ (all : List (List ShownCall)). among (λ at. nat_le low at && nat_lt at (first + 1)) ∷ from (first + 1) all) (some_part calls).1
          ∙ sym (ap (λ (all : List (List ShownCall)). since low first ((call ∷ []) ∷ all)) (some_part calls).1))

  whole : Stands shown 0 0 0
  whole = record {
    least = omega arith;
    ahead = λ more.
        let same : 0 + more ≡ more = omega arith in
        let ends : place_of more ≡ ends_in (take more shown) = ends_counted (take more shown) in
        let at : place_of (0 + more) ≡ place_of more = ap place_of same in
        omega (arith, at, ends);
    here = λ at least below. absurd (let never : ⊥ = omega (arith, below) in never);
    before = λ at below. absurd (let never : ⊥ = omega (arith, below) in never);
  }

  pub lists_told : (over : ℕ) → over ≡ transaction_at shown (length shown) → tried_upto (suc over) 0 noted ≡ tried_of shown (told shown noted sendings agree)
  lists_told over is =
      let ends : over ≡ ends_in shown = is ∙ (ap (count_by (λ (call : ShownCall). ends_transaction call.answers)) (take_all (length shown) shown (omega arith)) ∙ ends_counted shown) in
      ap (λ (n : ℕ). tried_upto (suc n) 0 noted) ends ∙ (all_parts shown 0 0 0 whole ∙ since_from 0 (txns shown))
