-- The transactions of a request by the places of its calls: the call that ends one is the last of
-- its part, and is where its place says.
use Rattle.std.proofs.Common.{◌≡◌, refl, sym, ap, subst, ◌∙◌, Bool, true, false, ℕ, suc, zero, ◌+◌, ◌-◌, ◌<◌, ◌≤◌, cond, count_by, length, take, List, [], ◌∷◌, Option, Some, None, ◌⊎◌, inl, inr, arith}
use Rattle.std.specs.Prelude.{◌==◌, nat_le, slice_get}
use Rattle.std.specs.List.{list_all, last_or}
use Rattle.std.specs.Option.{option_map_or}
use Rattle.std.proofs.lemmas.Bool.{and_parts, and_from}
use Rattle.std.proofs.lemmas.Bool.Decides.{nat_tests}
use Rattle.std.proofs.lemmas.List.{take_all}
use Rattle.svc_values.specs.declared.answer.Answer.{Answer}
use Rattle.svc_values.specs.meaning.Endings.{ends_transaction}
use Rattle.outage_schedule.specs.declared.request.ShownCall.{ShownCall}
use Rattle.client_model.specs.meaning.Tried.{Sending as Noted, tried_in, tried_upto}
use Rattle.run_clauses.specs.meaning.Transactions.{Txn, put_first, txns, with_tried}
use Rattle.invariant_laws.specs.Once.{shows_at, transaction_at}
use Rattle.invariant_laws.proofs.rows.EndedCalls.{ended_before, ended_below}
use Rattle.invariant_laws.proofs.entries.NotedParts.{ends_counted, ends_in}
use Rattle.world_model.proofs.Offered.{eq_from, le_from}

-- it ends its transaction, by its last call
abbrev pub is_ended : List ShownCall → Bool
is_ended part = option_map_or (λ call. ends_transaction call.answers) (last_or None part) false

last_split : (call : ShownCall) (part : List ShownCall) → (last_or (Some call) part ≡ Some call) × (part ≡ []) ⊎ (last_or (Some call) part ≡ last_or None part)
last_split call [] = inl (refl, refl)
last_split call (next ∷ part) = inr refl

-- a part of the calls, and which transaction it is
module _ (whole : List ShownCall) where
  pub record IsTxn (k : ℕ) (part : List ShownCall) : Type 0 where
    pub ended : (call : ShownCall) → last_or None part ≡ Some call → ends_transaction call.answers ≡ true → (at : ℕ) × ((slice_get whole at ≡ Some call) × (transaction_at whole at ≡ k))
    pub ender : (at : ℕ) → transaction_at whole at ≡ k → shows_at ends_transaction whole at ≡ true → last_or None part ≡ slice_get whole at
    pub last : is_ended part ≡ false → k ≡ transaction_at whole (length whole)

  -- of the calls from this place on
  record IsFrom (first k : ℕ) (part : List ShownCall) : Type 0 where
    ended : (call : ShownCall) → last_or None part ≡ Some call → ends_transaction call.answers ≡ true → (at : ℕ) × ((slice_get whole at ≡ Some call) × (transaction_at whole at ≡ k))
    ender : (at : ℕ) → first ≤ at → transaction_at whole at ≡ k → shows_at ends_transaction whole at ≡ true → last_or None part ≡ slice_get whole at
    last : is_ended part ≡ false → k ≡ transaction_at whole (length whole)

  abbrev pub AllTxns : ℕ → List (List ShownCall) → Type 0
  AllTxns k [] = ℕ
  AllTxns k (part ∷ parts) = IsTxn k part × AllTxns (suc k) parts

  abbrev HeadTxns : ℕ → ℕ → List (List ShownCall) → Type 0
  HeadTxns first k [] = ⊥
  HeadTxns first k (part ∷ parts) = IsFrom first k part × AllTxns (suc k) parts

  -- where it begins there
  whole_txn : (first k : ℕ) (part : List ShownCall) → transaction_at whole first ≡ k → IsFrom first k part → IsTxn k part
  whole_txn first k part begins from = record {
    ended = from.ended;
    ender = λ at same here. from.ender at (least at same here) same here;
    last = from.last;
  }
    where
      least : (at : ℕ) → transaction_at whole at ≡ k → shows_at ends_transaction whole at ≡ true → first ≤ at
      least at same here = by (nat_le first at) refl
        where
          by : (test : Bool) → nat_le first at ≡ test → first ≤ at
          by true is = le_from first at is
          by false is =
              let less : at < first = grind (arith, nat_tests) in
              let below : transaction_at whole at < transaction_at whole first = ended_below whole at first less here in
              absurd (let never : ⊥ = omega (arith, below, same, begins) in never)

  all_begin : (first k : ℕ) (parts : List (List ShownCall)) → transaction_at whole first ≡ k → HeadTxns first k parts → AllTxns k parts
  all_begin first k [] begins none = absurd none
  all_begin first k (part ∷ parts) begins head = (whole_txn first k part begins head.0, head.1)

  record Stands (calls : List ShownCall) (first k : ℕ) : Type 0 where
    long : length whole ≡ first + length calls
    calls_are : (more : ℕ) → slice_get whole (first + more) ≡ slice_get calls more
    ahead : (more : ℕ) → transaction_at whole (first + more) ≡ k + ends_in (take more calls)

  behind_so : (call : ShownCall) (calls : List ShownCall) (first k : ℕ) → Stands (call ∷ calls) first k → Stands calls (first + 1) (k + cond (ends_transaction call.answers) 1 0)
  behind_so call calls first k stands = record {
    long = let long : length whole ≡ first + length (call ∷ calls) = stands.long in omega (arith, long);
    calls_are = λ more. let same : (first + 1) + more ≡ first + suc more = omega arith in ap (slice_get whole) same ∙ stands.calls_are (suc more);
    ahead = λ more.
        let same : (first + 1) + more ≡ first + suc more = omega arith in
        let known : transaction_at whole (first + suc more) ≡ k + cond (ends_transaction call.answers) (suc (ends_in (take more calls))) (ends_in (take more calls)) = stands.ahead (suc more) in
        let value : cond (ends_transaction call.answers) (suc (ends_in (take more calls))) (ends_in (take more calls)) ≡ cond (ends_transaction call.answers) 1 0 + ends_in (take more calls) = by (ends_transaction call.answers) (ends_in (take more calls)) in
        let at : transaction_at whole ((first + 1) + more) ≡ transaction_at whole (first + suc more) = ap (transaction_at whole) same in
        omega (arith, at, known, value);
  }
    where
      by : (test : Bool) (n : ℕ) → cond test (suc n) n ≡ cond test 1 0 + n
      by true n = omega arith
      by false n = omega arith

  here_is : (call : ShownCall) (calls : List ShownCall) (first k : ℕ) → Stands (call ∷ calls) first k → (slice_get whole first ≡ Some call) × (transaction_at whole first ≡ k)
  here_is call calls first k stands =
      let same : first ≡ first + 0 = omega arith in
      let known : transaction_at whole (first + 0) ≡ k + 0 = stands.ahead 0 in
      let at : transaction_at whole first ≡ transaction_at whole (first + 0) = ap (transaction_at whole) same in
      let value : transaction_at whole first ≡ k = omega (arith, known, at) in
      (ap (slice_get whole) same ∙ stands.calls_are 0, value)

  -- the rest of the calls from a place
  later_at : (first at : ℕ) → first ≤ at → (first ≡ at) ⊎ ((first + 1) ≤ at)
  later_at first at least = by (first == at) refl
    where
      by : (test : Bool) → (first == at) ≡ test → (first ≡ at) ⊎ ((first + 1) ≤ at)
      by true is = inl (eq_from first at is)
      by false is = inr (let more : first + 1 ≤ at = grind (arith, nat_tests) in more)

  not_shown : (test : List Answer → Bool) (at : ℕ) (call : ShownCall) → slice_get whole at ≡ Some call → test call.answers ≡ false → shows_at test whole at ≡ true → ⊥
  not_shown test at call is other here =
      let never : false ≡ true = sym other ∙ (sym (ap (λ (found : Option ShownCall). option_map_or (λ (one : ShownCall). test one.answers) found false) is) ∙ here) in let none : ⊥ = cc in none

  -- one more call in front that does not end its transaction
  more_from : (call : ShownCall) (first k : ℕ) (part : List ShownCall) → slice_get whole first ≡ Some call → ends_transaction call.answers ≡ false → IsFrom (first + 1) k part → IsFrom first k (call ∷ part)
  more_from call first k part here goes from = record {
    ended = λ one is ends. by_last one is ends (last_split call part);
    ender = λ at least same shows. by_place at same shows (later_at first at least);
    last = λ open_so. from.last (still open_so (last_split call part));
  }
    where
      by_last : (one : ShownCall) → last_or (Some call) part ≡ Some one → ends_transaction one.answers ≡ true → (last_or (Some call) part ≡ Some call) × (part ≡ []) ⊎ (last_or (Some call) part ≡ last_or None part) → (at : ℕ) × ((slice_get whole at ≡ Some one) × (transaction_at whole at ≡ k))
      by_last one is ends (inr same) = from.ended one (sym same ∙ is) ends
      by_last one is ends (inl only) =
          let both : Some call ≡ Some one = sym only.0 ∙ is in
          let equal : call ≡ one = cc in
          absurd (let never : false ≡ true = sym goes ∙ (ap (λ (c : ShownCall). ends_transaction c.answers) equal ∙ ends) in let none : ⊥ = cc in none)

      by_place : (at : ℕ) → transaction_at whole at ≡ k → shows_at ends_transaction whole at ≡ true → (first ≡ at) ⊎ ((first + 1) ≤ at) → last_or (Some call) part ≡ slice_get whole at
      by_place at same shows (inl is) = absurd (not_shown ends_transaction at call (ap (slice_get whole) (sym is) ∙ here) goes shows)
      by_place at same shows (inr later) = kept (last_split call part) (from.ender at later same shows)
        where
          kept : (last_or (Some call) part ≡ Some call) × (part ≡ []) ⊎ (last_or (Some call) part ≡ last_or None part) → last_or None part ≡ slice_get whole at → last_or (Some call) part ≡ slice_get whole at
          kept (inr equal) is = equal ∙ is
          kept (inl only) is =
              let none : None ≡ slice_get whole at = sym (ap (last_or None) only.1) ∙ is in
              absurd (let never : false ≡ true = ap (λ (found : Option ShownCall). option_map_or (λ (one : ShownCall). ends_transaction one.answers) found false) none ∙ shows in let nothing : ⊥ = cc in nothing)

      still : is_ended (call ∷ part) ≡ false → (last_or (Some call) part ≡ Some call) × (part ≡ []) ⊎ (last_or (Some call) part ≡ last_or None part) → is_ended part ≡ false
      still open_so (inr equal) = ap (λ (found : Option ShownCall). option_map_or (λ (one : ShownCall). ends_transaction one.answers) found false) (sym equal) ∙ open_so
      still open_so (inl only) = ap is_ended only.1

  -- all parts
  heads : (calls : List ShownCall) (first k : ℕ) → Stands calls first k → HeadTxns first k (txns calls)
  heads [] first k stands = (
    record {
      ended = λ one is ends. absurd (let none : ⊥ = cc in none);
      ender = λ at least same shows. absurd (none_at at least shows);
      last = λ open_so.
          let long : length whole ≡ first + 0 = stands.long in
          let known : transaction_at whole (first + 0) ≡ k + 0 = stands.ahead 0 in
          let at : transaction_at whole (length whole) ≡ transaction_at whole (first + 0) = ap (transaction_at whole) long in
          let value : k ≡ transaction_at whole (length whole) = omega (arith, known, at) in
          value;
    },
    0,
  )
    where
      none_at : (at : ℕ) → first ≤ at → shows_at ends_transaction whole at ≡ true → ⊥
      none_at at least shows =
          let same : at ≡ first + (at - first) = omega (arith, least) in
          let none : slice_get whole at ≡ None = ap (slice_get whole) same ∙ stands.calls_are (at - first) in
          let never : false ≡ true = sym (ap (λ (found : Option ShownCall). option_map_or (λ (one : ShownCall). ends_transaction one.answers) found false) none) ∙ shows in
          let nothing : ⊥ = cc in
          nothing
  heads (call ∷ calls) first k stands = by (ends_transaction call.answers) refl (heads calls (first + 1) (k + cond (ends_transaction call.answers) 1 0) (behind_so call calls first k stands)) (behind_so call calls first k stands)
    where
      here : (slice_get whole first ≡ Some call) × (transaction_at whole first ≡ k)
      here = here_is call calls first k stands

      put : (parts : List (List ShownCall)) → ends_transaction call.answers ≡ false → HeadTxns (first + 1) k parts → HeadTxns first k (put_first false call parts)
      put [] goes none = absurd none
      put (part ∷ parts) goes head = (more_from call first k part here.0 goes head.0, head.1)

      by : (ends : Bool) → ends_transaction call.answers ≡ ends → HeadTxns (first + 1) (k + cond ends 1 0) (txns calls) → Stands calls (first + 1) (k + cond ends 1 0) → HeadTxns first k (put_first ends call (txns calls))
      by false is later after = let same : k + 0 ≡ k = omega arith in put (txns calls) is (subst (λ (n : ℕ). HeadTxns (first + 1) n (txns calls)) same later)
      by true is later after = (
        record {
          ended = λ one same ends. let equal : call ≡ one = cc in (first, (here.0 ∙ ap Some equal, here.1));
          ender = λ at least same shows. ender_at at same shows (later_at first at least);
          last = λ open_so. absurd (let never : true ≡ false = sym is ∙ open_so in let none : ⊥ = cc in none);
        },
        all_begin (first + 1) (suc k) (txns calls) begins (let next : k + 1 ≡ suc k = omega arith in subst (λ (n : ℕ). HeadTxns (first + 1) n (txns calls)) next later),
      )
        where
          begins : transaction_at whole (first + 1) ≡ suc k
          begins =
              let same : first + 1 ≡ (first + 1) + 0 = omega arith in
              let known : transaction_at whole ((first + 1) + 0) ≡ (k + 1) + 0 = after.ahead 0 in
              let at : transaction_at whole (first + 1) ≡ transaction_at whole ((first + 1) + 0) = ap (transaction_at whole) same in
              omega (arith, known, at)

          ender_at : (at : ℕ) → transaction_at whole at ≡ k → shows_at ends_transaction whole at ≡ true → (first ≡ at) ⊎ ((first + 1) ≤ at) → Some call ≡ slice_get whole at
          ender_at at same shows (inl equal) = sym here.0 ∙ ap (slice_get whole) equal
          ender_at at same shows (inr later_so) =
              let place : at ≡ (first + 1) + (at - (first + 1)) = omega (arith, later_so) in
              let known : transaction_at whole ((first + 1) + (at - (first + 1))) ≡ (k + 1) + ends_in (take (at - (first + 1)) calls) = after.ahead (at - (first + 1)) in
              let equal : transaction_at whole at ≡ transaction_at whole ((first + 1) + (at - (first + 1))) = ap (transaction_at whole) place in
              absurd (let never : ⊥ = omega (arith, known, equal, same) in never)

  pub all_txns : AllTxns 0 (txns whole)
  all_txns = all_begin 0 0 (txns whole) refl (heads whole 0 0 (record {
    long = omega arith;
    calls_are = λ more. let same : 0 + more ≡ more = omega arith in ap (slice_get whole) same;
    ahead = λ more.
        let same : 0 + more ≡ more = omega arith in
        let ends : transaction_at whole more ≡ ends_in (take more whole) = ends_counted (take more whole) in
        let at : transaction_at whole (0 + more) ≡ transaction_at whole more = ap (transaction_at whole) same in
        omega (arith, at, ends);
  }))

  -- each with the list that was noted of it
  each_with : (test : Txn → Bool) (noted : List Noted) → ((k : ℕ) (part : List ShownCall) → IsTxn k part → test (record { shown = part; tried = tried_in k noted }) ≡ true) → (parts : List (List ShownCall)) (left k : ℕ) → length parts ≡ left → AllTxns k parts
      → list_all test (with_tried parts (tried_upto left k noted)) ≡ true
  each_with test noted one [] left k long all = refl
  each_with test noted one (part ∷ parts) zero k long all = absurd (let never : ⊥ = omega (arith, long) in never)
  each_with test noted one (part ∷ parts) (suc left) k long all =
      let rest : length parts ≡ left = omega (arith, long) in
      and_from (test (record { shown = part; tried = tried_in k noted })) (list_all test (with_tried parts (tried_upto left (suc k) noted))) (one k part all.0) (each_with test noted one parts left (suc k) rest all.1)

  parts_many : (calls : List ShownCall) → length (txns calls) ≡ suc (ends_in calls)
  parts_many [] = refl
  parts_many (call ∷ calls) = by (ends_transaction call.answers) (parts_many calls)
    where
      put : (parts : List (List ShownCall)) (n : ℕ) → length parts ≡ suc n → length (put_first false call parts) ≡ suc n
      put [] n long = absurd (let never : ⊥ = omega (arith, long) in never)
      put (part ∷ parts) n long = long

      by : (ends : Bool) → length (txns calls) ≡ suc (ends_in calls) → length (put_first ends call (txns calls)) ≡ suc (cond ends (suc (ends_in calls)) (ends_in calls))
      by true long = ap suc long
      by false long = put (txns calls) (ends_in calls) long

  pub each_txn : (test : Txn → Bool) (noted : List Noted) (over : ℕ) → over ≡ transaction_at whole (length whole) → ((k : ℕ) (part : List ShownCall) → IsTxn k part → test (record { shown = part; tried = tried_in k noted }) ≡ true)
      → list_all test (with_tried (txns whole) (tried_upto (suc over) 0 noted)) ≡ true
  each_txn test noted over is one =
      let ends : over ≡ ends_in whole = is ∙ (ap (count_by (λ (call : ShownCall). ends_transaction call.answers)) (take_all (length whole) whole (omega arith)) ∙ ends_counted whole) in
      let many : length (txns whole) ≡ suc over = parts_many whole ∙ ap suc (sym ends) in
      each_with test noted one (txns whole) (suc over) 0 many all_txns

  -- what holds of each holds of the one with this number
  txn_at : (test : Txn → Bool) (noted : List Noted) (parts : List (List ShownCall)) (left k j : ℕ) → length parts ≡ left → AllTxns k parts → k ≤ j → j < k + left → list_all test (with_tried parts (tried_upto left k noted)) ≡ true
      → (part : List ShownCall) × (IsTxn j part × (test (record { shown = part; tried = tried_in j noted }) ≡ true))
  txn_at test noted [] left k j long all least below here = absurd (let never : ⊥ = omega (arith, long, least, below) in never)
  txn_at test noted (part ∷ parts) zero k j long all least below here = absurd (let never : ⊥ = omega (arith, long) in never)
  txn_at test noted (part ∷ parts) (suc left) k j long all least below here =
      by (later_at k j least)
      (λ more.
      let rest : length parts ≡ left = omega (arith, long) in
      let less : j < suc k + left = omega (arith, below) in
      txn_at test noted parts left (suc k) j rest all.1 more less tests.1)
    where
      tests : (test (record { shown = part; tried = tried_in k noted }) ≡ true) × (list_all test (with_tried parts (tried_upto left (suc k) noted)) ≡ true)
      tests = and_parts (test (record { shown = part; tried = tried_in k noted })) (list_all test (with_tried parts (tried_upto left (suc k) noted))) here

      by : (k ≡ j) ⊎ ((k + 1) ≤ j) → (suc k ≤ j → (one : List ShownCall) × (IsTxn j one × (test (record { shown = one; tried = tried_in j noted }) ≡ true))) → (one : List ShownCall) × (IsTxn j one × (test (record { shown = one; tried = tried_in j noted }) ≡ true))
      by (inl same) again = (part, (subst (λ (n : ℕ). IsTxn n part) same all.0, subst (λ (n : ℕ). test (record { shown = part; tried = tried_in n noted }) ≡ true) same tests.0))
      by (inr later) again = again (omega (arith, later))

  -- the last one, which no call ended
  pub last_txn : (test : Txn → Bool) (noted : List Noted) (over : ℕ) → over ≡ transaction_at whole (length whole) → list_all test (with_tried (txns whole) (tried_upto (suc over) 0 noted)) ≡ true
      → (part : List ShownCall) × ((is_ended part ≡ false) × (test (record { shown = part; tried = tried_in over noted }) ≡ true))
  last_txn test noted over is here = (found.0, (still_open found.0 found.1.0 (last_or None found.0) refl, found.1.1))
    where
      ends : over ≡ ends_in whole
      ends = is ∙ (ap (count_by (λ (call : ShownCall). ends_transaction call.answers)) (take_all (length whole) whole (omega arith)) ∙ ends_counted whole)

      found : (part : List ShownCall) × (IsTxn over part × (test (record { shown = part; tried = tried_in over noted }) ≡ true))
      found =
          let many : length (txns whole) ≡ suc over = parts_many whole ∙ ap suc (sym ends) in
          let less : over < 0 + suc over = omega arith in
          txn_at test noted (txns whole) (suc over) 0 over many all_txns (omega arith) less here

      still_open : (part : List ShownCall) → IsTxn over part → (last : Option ShownCall) → last_or None part ≡ last → option_map_or (λ call. ends_transaction call.answers) last false ≡ false
      still_open part txn None last = refl
      still_open part txn (Some call) last = by (ends_transaction call.answers) refl
        where
          by : (test : Bool) → ends_transaction call.answers ≡ test → test ≡ false
          by false goes = refl
          by true goes =
              let at = txn.ended call last goes in
              let below : transaction_at whole at.0 < transaction_at whole (length whole) = ended_before whole at.0 (ap (λ (one : Option ShownCall). option_map_or (λ c. ends_transaction c.answers) one false) at.1.0 ∙ goes) in
              let here_at : transaction_at whole at.0 ≡ over = at.1.1 in
              let same : over ≡ transaction_at whole (length whole) = is in
              absurd (let never : ⊥ = omega (arith, below, here_at, same) in never)
