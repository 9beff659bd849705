-- The identifier of a sending that may have committed is in the list of the transaction of its
-- call.
use Rattle.std.proofs.Common.{◌≡◌, refl, sym, ap, subst, ◌∙◌, Bool, true, false, ℕ, zero, suc, ◌+◌, ◌-◌, ◌<◌, ◌≤◌, ◌&&◌, cond, fold, filter, length, List, [], ◌∷◌, ◌++◌, map, Some, ◌⊎◌, inl, inr, if◌then◌else◌, arith}
use Rattle.std.specs.Prelude.{◌==◌, nat_le, nat_lt, slice_get, flat_map}
use Rattle.std.specs.Cmp.Lexicographic.{pointwise}
use Rattle.std.specs.List.{list_any}
use Rattle.std.proofs.lemmas.Bool.{and_parts, and_from, or_cases, or_left, or_right}
use Rattle.std.proofs.lemmas.Bool.Decides.{nat_tests}
use Rattle.std.proofs.lemmas.List.Folds.{list_any-append}
use Rattle.svc_values.specs.declared.entry.Ltxid.{Ltxid}
use Rattle.svc_values.specs.meaning.Endings.{ends_transaction}
use Rattle.svc_values.specs.meaning.Identifiers.{same_ltxid}
use Rattle.svc_values.specs.SameLaws.{same_ltxid_decides}
use Rattle.outage_schedule.specs.declared.request.RequestReport.{RequestReport}
use Rattle.outage_schedule.specs.declared.request.ShownCall.{ShownCall}
use Rattle.run_clauses.specs.meaning.Transactions.{Txn, put_first, txns, with_tried}
use Rattle.run_clauses.specs.meaning.Tried.{holds}
use Rattle.run_clauses.specs.Tried.{Sending, may_have_committed, with_new, tried_among, tried_from, tried_of, is_tried}
use Rattle.shown_clauses.specs.meaning.Showings.{tried_by_call}
use Rattle.shown_laws.proofs.events.Lookups.{eq_from}

-- IDENTIFIERS -------------------------------------------------------------------------------------

new_keeps : (ids : List Ltxid) (y x : Ltxid) → holds ids x ≡ true → holds (with_new ids y) x ≡ true
new_keeps ids y x is = by (holds ids y)
  where
    by : (held : Bool) → holds (if held then ids else ids ++ y ∷ []) x ≡ true
    by true = is
    by false = list_any-append (same_ltxid x) ids (y ∷ []) ∙ or_left (holds ids x) (holds (y ∷ []) x) is

new_has : (ids : List Ltxid) (y x : Ltxid) → same_ltxid x y ≡ true → holds (with_new ids y) x ≡ true
new_has ids y x same = by (holds ids y) refl
  where
    by : (held : Bool) → holds ids y ≡ held → holds (if held then ids else ids ++ y ∷ []) x ≡ true
    by true is = subst (λ (z : Ltxid). holds ids z ≡ true) (sym ((same_ltxid_decides x y).0 same)) is
    by false is = list_any-append (same_ltxid x) ids (y ∷ []) ∙ or_right (holds ids x) (holds (y ∷ []) x) (or_left (same_ltxid x y) false same)

fold_keeps : (more ids : List Ltxid) (x : Ltxid) → holds ids x ≡ true → holds (fold with_new ids more) x ≡ true
fold_keeps [] ids x is = is
fold_keeps (y ∷ more) ids x is = fold_keeps more (with_new ids y) x (new_keeps ids y x is)

fold_has : (more ids : List Ltxid) (x : Ltxid) → holds more x ≡ true → holds (fold with_new ids more) x ≡ true
fold_has [] ids x is = absurd (let none : ⊥ = cc in none)
fold_has (y ∷ more) ids x is = by (or_cases (same_ltxid x y) (holds more x) is) (fold_has more (with_new ids y) x)
  where
    by : (same_ltxid x y ≡ true) ⊎ (holds more x ≡ true) → (holds more x ≡ true → holds (fold with_new (with_new ids y) more) x ≡ true) → holds (fold with_new (with_new ids y) more) x ≡ true
    by (inl same) rest = fold_keeps more (with_new ids y) x (new_has ids y x same)
    by (inr later) rest = rest later

-- SENDINGS ----------------------------------------------------------------------------------------

-- of the call at this place, under this identifier, and may have committed
abbrev pub is_sent_at : ℕ → Ltxid → Sending → Bool
is_sent_at place x sending = (sending.at == place) && (same_ltxid x sending.ltxid && may_have_committed sending)

among_has : (is_of : ℕ → Bool) (place : ℕ) (x : Ltxid) (sendings : List Sending) → is_of place ≡ true → list_any (is_sent_at place x) sendings ≡ true
    → holds (map (λ sending. sending.ltxid) (filter (λ sending. is_of sending.at && may_have_committed sending) sendings)) x ≡ true
among_has is_of place x [] here any = absurd (let none : ⊥ = cc in none)
among_has is_of place x (one ∷ sendings) here any = by (is_of one.at && may_have_committed one) refl (or_cases (is_sent_at place x one) (list_any (is_sent_at place x) sendings) any) (among_has is_of place x sendings here)
  where
    rest : List Sending
    rest = filter (λ sending. is_of sending.at && may_have_committed sending) sendings

    Rest : Type 0
    Rest = list_any (is_sent_at place x) sendings ≡ true → holds (map (λ sending. sending.ltxid) (filter (λ sending. is_of sending.at && may_have_committed sending) sendings)) x ≡ true

    kept : is_sent_at place x one ≡ true → (is_of one.at && may_have_committed one) ≡ true
    kept is =
        let both = and_parts (one.at == place) (same_ltxid x one.ltxid && may_have_committed one) is in
        and_from (is_of one.at) (may_have_committed one) (ap is_of (eq_from one.at place both.0) ∙ here) (and_parts (same_ltxid x one.ltxid) (may_have_committed one) both.1).1

    same : is_sent_at place x one ≡ true → same_ltxid x one.ltxid ≡ true
    same is = (and_parts (same_ltxid x one.ltxid) (may_have_committed one) (and_parts (one.at == place) (same_ltxid x one.ltxid && may_have_committed one) is).1).0

    by : (test : Bool) → (is_of one.at && may_have_committed one) ≡ test → (is_sent_at place x one ≡ true) ⊎ (list_any (is_sent_at place x) sendings ≡ true) → Rest
        → holds (map (λ sending. sending.ltxid) (cond test (one ∷ filter (λ sending. is_of sending.at && may_have_committed sending) sendings) (filter (λ sending. is_of sending.at && may_have_committed sending) sendings))) x ≡ true
    by true is (inl mine) later = or_left (same_ltxid x one.ltxid) _ (same mine)
    by true is (inr others) later = or_right (same_ltxid x one.ltxid) _ (later others)
    by false is (inl mine) later = absurd (let both : false ≡ true = sym is ∙ kept mine in let none : ⊥ = cc in none)
    by false is (inr others) later = later others

tried_has : (is_of : ℕ → Bool) (place : ℕ) (x : Ltxid) (sendings : List Sending) → is_of place ≡ true → list_any (is_sent_at place x) sendings ≡ true → holds (tried_among is_of sendings) x ≡ true
tried_has is_of place x sendings here any = fold_has (map (λ sending. sending.ltxid) (filter (λ sending. is_of sending.at && may_have_committed sending) sendings)) [] x (among_has is_of place x sendings here any)

-- TRANSACTIONS ------------------------------------------------------------------------------------

-- the list of a call has the identifier
pub record HasList (lists : List (List Ltxid)) (place : ℕ) (x : Ltxid) : Type 0 where
  pub ids : List Ltxid
  pub there : slice_get lists place ≡ Some ids
  pub has : holds ids x ≡ true

abbrev by_call : List Txn → List (List Ltxid)
by_call all = flat_map (λ txn. map (λ shown. txn.tried) txn.shown) all

abbrev total : List (List ShownCall) → ℕ
total [] = 0
total (part ∷ parts) = length part + total parts

get_left : (part : List ShownCall) (ids : List Ltxid) (rest : List (List Ltxid)) (place : ℕ) → place < length part → slice_get (map (λ (shown : ShownCall). ids) part ++ rest) place ≡ Some ids
get_left [] ids rest place less = absurd (let none : ⊥ = omega (arith, less) in none)
get_left (one ∷ part) ids rest zero less = refl
get_left (one ∷ part) ids rest (suc place) less = get_left part ids rest place (let fewer : place < length part = omega (arith, less) in fewer)

get_right : (part : List ShownCall) (ids : List Ltxid) (rest : List (List Ltxid)) (place : ℕ) → slice_get (map (λ (shown : ShownCall). ids) part ++ rest) (length part + place) ≡ slice_get rest place
get_right [] ids rest place = let same : 0 + place ≡ place = omega arith in ap (slice_get rest) same
get_right (one ∷ part) ids rest place =
    let same : length (one ∷ part) + place ≡ suc (length part + place) = omega arith in
    ap (slice_get (map (λ (shown : ShownCall). ids) (one ∷ part) ++ rest)) same ∙ get_right part ids rest place

module _ (sendings : List Sending) (at : ℕ) (x : Ltxid) (any : list_any (is_sent_at at x) sendings ≡ true) where
  parts_have : (first : ℕ) (parts : List (List ShownCall)) (place : ℕ) → first + place ≡ at → place < total parts → HasList (by_call (with_tried parts (tried_from first parts sendings))) place x
  parts_have first [] place is less = absurd (let none : ⊥ = omega (arith, less) in none)
  parts_have first (part ∷ []) place is less =
      let fewer : place < length part = omega (arith, less) in
      let begun : nat_le first at ≡ true = grind (arith, nat_tests) in
      record { ids = tried_among (λ n. nat_le first n) sendings; there = get_left part (tried_among (λ n. nat_le first n) sendings) [] place fewer; has = tried_has (λ n. nat_le first n) at x sendings begun any }
  parts_have first (part ∷ next ∷ parts) place is less =
      by (nat_lt place (length part)) refl (λ sum fewer. parts_have (first + length part) (next ∷ parts) (place - length part) sum fewer)
    where
      mine : List Ltxid
      mine = tried_among (λ n. nat_le first n && nat_lt n (first + length part)) sendings

      rest : List (List Ltxid)
      rest = by_call (with_tried (next ∷ parts) (tried_from (first + length part) (next ∷ parts) sendings))

      by : (test : Bool) → nat_lt place (length part) ≡ test → ((first + length part) + (place - length part) ≡ at → place - length part < total (next ∷ parts) → HasList rest (place - length part) x)
          → HasList (map (λ (shown : ShownCall). mine) part ++ rest) place x
      by true here later =
          let fewer : place < length part = grind (arith, nat_tests) in
          let begun : nat_le first at ≡ true = grind (arith, nat_tests) in
          let ends : nat_lt at (first + length part) ≡ true = grind (arith, nat_tests) in
          record { ids = mine; there = get_left part mine rest place fewer; has = tried_has (λ n. nat_le first n && nat_lt n (first + length part)) at x sendings (and_from (nat_le first at) (nat_lt at (first + length part)) begun ends) any }
      by false here later =
          let beyond : length part ≤ place = grind (arith, nat_tests) in
          let sum : (first + length part) + (place - length part) ≡ at = omega (arith, beyond, is) in
          let fewer : place - length part < total (next ∷ parts) = omega (arith, beyond, less) in
          let found : HasList rest (place - length part) x = later sum fewer in
          let same : length part + (place - length part) ≡ place = omega (arith, beyond) in
          record { ids = found.ids; there = subst (λ (n : ℕ). slice_get (map (λ (shown : ShownCall). mine) part ++ rest) n ≡ Some found.ids) same (get_right part mine rest (place - length part) ∙ found.there); has = found.has }

put_total : (ends : Bool) (call : ShownCall) (parts : List (List ShownCall)) → total (put_first ends call parts) ≡ suc (total parts)
put_total true call parts = omega arith
put_total false call [] = omega arith
put_total false call (part ∷ parts) = omega arith

txns_total : (calls : List ShownCall) → total (txns calls) ≡ length calls
txns_total [] = refl
txns_total (call ∷ calls) = put_total (ends_transaction call.answers) call (txns calls) ∙ ap suc (txns_total calls)

-- REPORTS -----------------------------------------------------------------------------------------

ids_same : (a b : List Ltxid) → pointwise same_ltxid a b ≡ true → a ≡ b
ids_same [] [] is = refl
ids_same [] (y ∷ b) is = absurd (let none : ⊥ = cc in none)
ids_same (x ∷ a) [] is = absurd (let none : ⊥ = cc in none)
ids_same (x ∷ a) (y ∷ b) is =
    let both = and_parts (same_ltxid x y) (pointwise same_ltxid a b) is in
    ap (λ (z : Ltxid). z ∷ a) ((same_ltxid_decides x y).0 both.0) ∙ ap (λ (l : List Ltxid). y ∷ l) (ids_same a b both.1)

lists_same : (a b : List (List Ltxid)) → pointwise (pointwise same_ltxid) a b ≡ true → a ≡ b
lists_same [] [] is = refl
lists_same [] (y ∷ b) is = absurd (let none : ⊥ = cc in none)
lists_same (x ∷ a) [] is = absurd (let none : ⊥ = cc in none)
lists_same (x ∷ a) (y ∷ b) is =
    let both = and_parts (pointwise same_ltxid x y) (pointwise (pointwise same_ltxid) a b) is in
    ap (λ (z : List Ltxid). z ∷ a) (ids_same x y both.0) ∙ ap (λ (l : List (List Ltxid)). y ∷ l) (lists_same a b both.1)

-- Where a report has the lists of these sendings, the list of a shown call has the identifier of
-- each sending of that call that may have committed.
pub call_tried : (copy : RequestReport) (sendings : List Sending) (place : ℕ) (x : Ltxid) → is_tried copy sendings ≡ true → place < length copy.calls → list_any (is_sent_at place x) sendings ≡ true → HasList (tried_by_call copy) place x
call_tried copy sendings place x tried less any =
    subst (λ (lists : List (List Ltxid)). HasList (by_call (with_tried (txns copy.calls) lists)) place x) (sym (lists_same copy.tried (tried_of copy.calls sendings) tried))
    (parts_have sendings place x any 0 (txns copy.calls) place (let same : 0 + place ≡ place = omega arith in same) (let fewer : place < total (txns copy.calls) = omega (arith, less, txns_total copy.calls) in fewer))
