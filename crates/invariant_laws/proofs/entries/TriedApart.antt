-- No identifier stands twice in what the requests of a run have as tried, where no two of their
-- sendings under one identifier are both open or committed.
use Rattle.std.proofs.Common.{◌≡◌, refl, sym, ap, subst, ◌∙◌, Bool, true, false, ℕ, ◌+◌, ◌<◌, ◌≤◌, ◌&&◌, ◌||◌, filter, flat_map, fold, length, map, List, [], ◌∷◌, ◌++◌, ◌⊎◌, inl, inr, append-nil, if◌then◌else◌, arith}
use Rattle.std.specs.Prelude.{◌==◌, not, nat_le, nat_lt}
use Rattle.std.specs.Cmp.Lexicographic.{pointwise_decides}
use Rattle.std.specs.List.{list_all, list_any}
use Rattle.std.proofs.lemmas.Bool.{and_parts, and_from, or_cases, or_left, or_right, not-true, not_from_false, or_from}
use Rattle.std.proofs.lemmas.List.Folds.{list_any-append}
use Rattle.svc_values.specs.declared.entry.Ltxid.{Ltxid}
use Rattle.svc_values.specs.meaning.Calls.{has_commit}
use Rattle.svc_values.specs.meaning.Identifiers.{same_ltxid}
use Rattle.svc_values.specs.SameLaws.{same_ltxid_decides}
use Rattle.outage_schedule.specs.declared.request.ShownCall.{ShownCall}
use Rattle.run_clauses.specs.meaning.Transactions.{txns}
use Rattle.run_clauses.specs.meaning.Tried.{holds, ids_differ, ids_tried}
use Rattle.run_clauses.specs.Tried.{Sending as Tried, may_have_committed, tried_among, tried_from, tried_of, with_new}
use Rattle.invariant_laws.specs.Once.{is_open_or_committed, reverse_onto, share, tells_tried, tried_one}
use Rattle.world_model.specs.Parts.{Sending, commit_sendings, sendings_of}
use Rattle.world_model.specs.Sames.{all_with, each_pair}
use Rattle.world_model.specs.Traced.{Course}
use Rattle.invariant_laws.proofs.losses.AskedNear.{any_all}
use Rattle.invariant_laws.proofs.sendings.FateTops.{all_with_is}
use Rattle.world_model.proofs.Offered.{any_goes, ltxid_self, le_from, le_to, lt_from, not_both}

-- IDENTIFIERS -------------------------------------------------------------------------------------

pub false_by : (test : Bool) → (test ≡ true → ⊥) → test ≡ false
false_by true never = absurd (never refl)
false_by false never = refl

pub holds_append : (ids more : List Ltxid) (x : Ltxid) → holds (ids ++ more) x ≡ (holds ids x || holds more x)
holds_append ids more x = list_any-append (same_ltxid x) ids more

-- two lists that have none in common
joined : (ids more : List Ltxid) → ids_differ ids ≡ true → ids_differ more ≡ true → ((x : Ltxid) → holds ids x ≡ true → holds more x ≡ true → ⊥) → ids_differ (ids ++ more) ≡ true
joined [] more one other apart = other
joined (x ∷ ids) more one other apart =
    let parts = and_parts (not (holds ids x)) (ids_differ ids) one in
    and_from (not (holds (ids ++ more) x)) (ids_differ (ids ++ more))
    (not_from_false (holds (ids ++ more) x) (holds_append ids more x ∙ or_from (holds ids x) (holds more x) (not-true (holds ids x) parts.0)
    (false_by (holds more x) (λ here. apart x (or_left (same_ltxid x x) (holds ids x) (ltxid_self x)) here))))
    (joined ids more parts.1 other (λ y mine its. apart y (or_right (same_ltxid y x) (holds ids y) mine) its))

one_differs : (x : Ltxid) → ids_differ (x ∷ []) ≡ true
one_differs x = refl

new_differs : (ids : List Ltxid) (x : Ltxid) → ids_differ ids ≡ true → ids_differ (with_new ids x) ≡ true
new_differs ids x differ = by (holds ids x) refl
  where
    by : (held : Bool) → holds ids x ≡ held → ids_differ (if held then ids else ids ++ x ∷ []) ≡ true
    by true is = differ
    by false is = joined ids (x ∷ []) differ (one_differs x) (λ y mine its. clash y mine (or_cases (same_ltxid y x) false its))
      where
        clash : (y : Ltxid) → holds ids y ≡ true → (same_ltxid y x ≡ true) ⊎ (false ≡ true) → ⊥
        clash y mine (inl same) = not_both (holds ids x) (subst (λ (z : Ltxid). holds ids z ≡ true) ((same_ltxid_decides y x).0 same) mine) is
        clash y mine (inr never) = let none : ⊥ = cc in none

all_differ : (more ids : List Ltxid) → ids_differ ids ≡ true → ids_differ (fold with_new ids more) ≡ true
all_differ [] ids differ = differ
all_differ (x ∷ more) ids differ = all_differ more (with_new ids x) (new_differs ids x differ)

among_differ : (is_of : ℕ → Bool) (list : List Tried) → ids_differ (tried_among is_of list) ≡ true
among_differ is_of list = all_differ (map (λ (one : Tried). one.ltxid) (filter (λ one. is_of one.at && may_have_committed one) list)) [] refl

-- what is held is of one of the two
new_holds : (more ids : List Ltxid) (x : Ltxid) → holds (fold with_new ids more) x ≡ true → (holds ids x ≡ true) ⊎ (holds more x ≡ true)
new_holds [] ids x here = inl here
new_holds (y ∷ more) ids x here = by (new_holds more (with_new ids y) x here)
  where
    one : (held : Bool) → holds (if held then ids else ids ++ y ∷ []) x ≡ true → (holds ids x ≡ true) ⊎ (holds (y ∷ more) x ≡ true)
    one true mine = inl mine
    one false mine = pick (or_cases (holds ids x) (same_ltxid x y || false) (sym (holds_append ids (y ∷ []) x) ∙ mine))
      where
        pick : (holds ids x ≡ true) ⊎ ((same_ltxid x y || false) ≡ true) → (holds ids x ≡ true) ⊎ (holds (y ∷ more) x ≡ true)
        pick (inl before) = inl before
        pick (inr now) = last (or_cases (same_ltxid x y) false now)
          where
            last : (same_ltxid x y ≡ true) ⊎ (false ≡ true) → (holds ids x ≡ true) ⊎ (holds (y ∷ more) x ≡ true)
            last (inl same) = inr (or_left (same_ltxid x y) (holds more x) same)
            last (inr never) = absurd (let none : ⊥ = cc in none)

    by : (holds (with_new ids y) x ≡ true) ⊎ (holds more x ≡ true) → (holds ids x ≡ true) ⊎ (holds (y ∷ more) x ≡ true)
    by (inl mine) = one (holds ids y) mine
    by (inr later) = inr (or_right (same_ltxid x y) (holds more x) later)

-- SENDINGS ----------------------------------------------------------------------------------------

abbrev pub commits : Sending → Bool
commits sending = has_commit sending.call

-- open or committed, under this identifier
abbrev pub is_under : Ltxid → Sending → Bool
is_under x sending = is_open_or_committed sending && same_ltxid x sending.ltxid

abbrev pub under_at : (ℕ → Bool) → Ltxid → Sending → Bool
under_at is_of x sending = is_of sending.at && is_under x sending

pub share_not : (x : Ltxid) (a b : Sending) → is_under x a ≡ true → is_under x b ≡ true → share a b ≡ true → ⊥
share_not x a b mine its here =
    let one = and_parts (is_open_or_committed a) (same_ltxid x a.ltxid) mine in
    let two = and_parts (is_open_or_committed b) (same_ltxid x b.ltxid) its in
    let same : same_ltxid a.ltxid b.ltxid ≡ true = (same_ltxid_decides a.ltxid b.ltxid).1 (sym ((same_ltxid_decides x a.ltxid).0 one.1) ∙ (same_ltxid_decides x b.ltxid).0 two.1) in
    by (same_ltxid a.ltxid b.ltxid) (a.connection == b.connection) (is_open_or_committed a) (is_open_or_committed b) same one.0 two.0 here
  where
    by : (s c p q : Bool) → s ≡ true → p ≡ true → q ≡ true → (not s || (c && not (p && q))) ≡ true → ⊥
    by true true true true s p q is = let none : ⊥ = cc in none
    by true false true true s p q is = let none : ⊥ = cc in none
    by false c p q s is_p is_q is = let none : ⊥ = cc in none
    by true c false q s is_p is_q is = let none : ⊥ = cc in none
    by true c true false s is_p is_q is = let none : ⊥ = cc in none

-- two of them are one
no_two : (x : Ltxid) (p q : Sending → Bool) → ((s : Sending) → p s ≡ true → is_under x s ≡ true) → ((s : Sending) → q s ≡ true → is_under x s ≡ true) → ((s : Sending) → p s ≡ true → q s ≡ true → ⊥)
    → (list : List Sending) → each_pair share list ≡ true → list_any p list ≡ true → list_any q list ≡ true → ⊥
no_two x p q under_p under_q apart [] pairs any_p any_q = let none : ⊥ = cc in none
no_two x p q under_p under_q apart (s ∷ list) pairs any_p any_q = by (or_cases (p s) (list_any p list) any_p) (or_cases (q s) (list_any q list) any_q) (no_two x p q under_p under_q apart list parts.1)
  where
    parts : (all_with (share s) list ≡ true) × (each_pair share list ≡ true)
    parts = and_parts (all_with (share s) list) (each_pair share list) pairs

    all : list_all (share s) list ≡ true
    all = sym (all_with_is (share s) list) ∙ parts.0

    by : (p s ≡ true) ⊎ (list_any p list ≡ true) → (q s ≡ true) ⊎ (list_any q list ≡ true) → (list_any p list ≡ true → list_any q list ≡ true → ⊥) → ⊥
    by (inl one) (inl other) again = apart s one other
    by (inl one) (inr later) again = let found = any_all q (share s) list later all in share_not x s found.0 (under_p s one) (under_q found.0 found.1.0) found.1.1
    by (inr later) (inl one) again = let found = any_all p (share s) list later all in share_not x s found.0 (under_q s one) (under_p found.0 found.1.0) found.1.1
    by (inr one) (inr other) again = again one other

-- between two lists
no_cross : (x : Ltxid) (front back : List Sending) → each_pair share (front ++ back) ≡ true → list_any (is_under x) front ≡ true → list_any (is_under x) back ≡ true → ⊥
no_cross x [] back pairs one other = let none : ⊥ = cc in none
no_cross x (s ∷ front) back pairs one other = by (or_cases (is_under x s) (list_any (is_under x) front) one) (λ later. no_cross x front back parts.1 later other)
  where
    parts : (all_with (share s) (front ++ back) ≡ true) × (each_pair share (front ++ back) ≡ true)
    parts = and_parts (all_with (share s) (front ++ back)) (each_pair share (front ++ back)) pairs

    by : (is_under x s ≡ true) ⊎ (list_any (is_under x) front ≡ true) → (list_any (is_under x) front ≡ true → ⊥) → ⊥
    by (inl here) again =
        let found = any_all (is_under x) (share s) (front ++ back) (list_any-append (is_under x) front back ∙ or_right (list_any (is_under x) front) (list_any (is_under x) back) other) (sym (all_with_is (share s) (front ++ back)) ∙ parts.0) in
        share_not x s found.0 here found.1.0 found.1.1
    by (inr later) again = again later

pairs_front : (front back : List Sending) → each_pair share (front ++ back) ≡ true → (each_pair share front ≡ true) × (each_pair share back ≡ true)
pairs_front [] back pairs = (refl, pairs)
pairs_front (s ∷ front) back pairs =
    let parts = and_parts (all_with (share s) (front ++ back)) (each_pair share (front ++ back)) pairs in
    let rest = pairs_front front back parts.1 in (and_from (all_with (share s) front) (each_pair share front) (first front parts.0) rest.0, rest.1)
  where
    first : (list : List Sending) → all_with (share s) (list ++ back) ≡ true → all_with (share s) list ≡ true
    first [] all = refl
    first (y ∷ list) all = let both = and_parts (share s y) (all_with (share s) (list ++ back)) all in and_from (share s y) (all_with (share s) list) both.0 (first list both.1)

-- ONE REQUEST -------------------------------------------------------------------------------------

-- its lists are those of its sendings
pub lists_of : (course : Course) → tells_tried course ≡ true → course.report.tried ≡ tried_of course.report.calls (map tried_one (reverse_onto (sendings_of course) []))
lists_of course tells = (pointwise_decides (pointwise_decides same_ltxid_decides) course.report.tried (tried_of course.report.calls (map tried_one (reverse_onto (sendings_of course) [])))).0 tells

module _ (x : Ltxid) (is_of : ℕ → Bool) where
  abbrev pub may_at : Tried → Bool
  may_at one = is_of one.at && may_have_committed one

  abbrev pub sent_under : Sending → Bool
  sent_under sending = may_at (tried_one sending) && same_ltxid x sending.ltxid

  among_sent : (ys done : List Sending) → holds (map (λ (one : Tried). one.ltxid) (filter may_at (map tried_one (reverse_onto ys done)))) x ≡ true
      → (list_any sent_under ys ≡ true) ⊎ (holds (map (λ (one : Tried). one.ltxid) (filter may_at (map tried_one done))) x ≡ true)
  among_sent [] done here = inr here
  among_sent (y ∷ ys) done here = by (may_at (tried_one y)) refl (among_sent ys (y ∷ done) here)
    where
      by : (test : Bool) → may_at (tried_one y) ≡ test
          → (list_any sent_under ys ≡ true) ⊎ (holds (map (λ (one : Tried). one.ltxid) (if may_at (tried_one y) then tried_one y ∷ filter may_at (map tried_one done) else filter may_at (map tried_one done))) x ≡ true)
          → (list_any sent_under (y ∷ ys) ≡ true) ⊎ (holds (map (λ (one : Tried). one.ltxid) (filter may_at (map tried_one done))) x ≡ true)
      by test is (inl later) = inl (or_right (sent_under y) (list_any sent_under ys) later)
      by false is (inr found) = inr (subst (λ (t : Bool). holds (map (λ (one : Tried). one.ltxid) (if t then tried_one y ∷ filter may_at (map tried_one done) else filter may_at (map tried_one done))) x ≡ true) is found)
      by true is (inr found) = pick (or_cases (same_ltxid x y.ltxid) (holds (map (λ (one : Tried). one.ltxid) (filter may_at (map tried_one done))) x)
          (subst (λ (t : Bool). holds (map (λ (one : Tried). one.ltxid) (if t then tried_one y ∷ filter may_at (map tried_one done) else filter may_at (map tried_one done))) x ≡ true) is found))
        where
          pick : (same_ltxid x y.ltxid ≡ true) ⊎ (holds (map (λ (one : Tried). one.ltxid) (filter may_at (map tried_one done))) x ≡ true)
              → (list_any sent_under (y ∷ ys) ≡ true) ⊎ (holds (map (λ (one : Tried). one.ltxid) (filter may_at (map tried_one done))) x ≡ true)
          pick (inl same) = inl (or_left (sent_under y) (list_any sent_under ys) (and_from (may_at (tried_one y)) (same_ltxid x y.ltxid) is same))
          pick (inr before) = inr before

  committing : (ys : List Sending) → list_any sent_under ys ≡ true → list_any (under_at is_of x) (filter commits ys) ≡ true
  committing [] any = any
  committing (y ∷ ys) any = by (has_commit y.call) refl (or_cases (sent_under y) (list_any sent_under ys) any) (λ later. committing ys later)
    where
      by : (test : Bool) → has_commit y.call ≡ test → (sent_under y ≡ true) ⊎ (list_any sent_under ys ≡ true) → (list_any sent_under ys ≡ true → list_any (under_at is_of x) (filter commits ys) ≡ true)
          → list_any (under_at is_of x) (if test then y ∷ filter commits ys else filter commits ys) ≡ true
      by true is (inr later) again = or_right (under_at is_of x y) (list_any (under_at is_of x) (filter commits ys)) (again later)
      by false is (inr later) again = again later
      by true is (inl here) again =
          let one = and_parts (may_at (tried_one y)) (same_ltxid x y.ltxid) here in
          let two = and_parts (is_of y.at) (has_commit y.call && is_open_or_committed y) one.0 in
          or_left (under_at is_of x y) (list_any (under_at is_of x) (filter commits ys))
          (and_from (is_of y.at) (is_under x y) two.0 (and_from (is_open_or_committed y) (same_ltxid x y.ltxid) (and_parts (has_commit y.call) (is_open_or_committed y) two.1).1 one.1))
      by false is (inl here) again =
          let one = and_parts (may_at (tried_one y)) (same_ltxid x y.ltxid) here in
          let two = and_parts (is_of y.at) (has_commit y.call && is_open_or_committed y) one.0 in
          absurd (not_both (has_commit y.call) (and_parts (has_commit y.call) (is_open_or_committed y) two.1).0 is)

  pub tried_sent : (ys : List Sending) → holds (tried_among is_of (map tried_one (reverse_onto ys []))) x ≡ true → list_any (under_at is_of x) (filter commits ys) ≡ true
  tried_sent ys here = by (new_holds (map (λ (one : Tried). one.ltxid) (filter may_at (map tried_one (reverse_onto ys [])))) [] x here)
    where
      by : (holds [] x ≡ true) ⊎ (holds (map (λ (one : Tried). one.ltxid) (filter may_at (map tried_one (reverse_onto ys [])))) x ≡ true) → list_any (under_at is_of x) (filter commits ys) ≡ true
      by (inl never) = absurd (let none : ⊥ = cc in none)
      by (inr found) = pick (among_sent ys [] found)
        where
          pick : (list_any sent_under ys ≡ true) ⊎ (holds [] x ≡ true) → list_any (under_at is_of x) (filter commits ys) ≡ true
          pick (inl any) = committing ys any
          pick (inr never) = absurd (let none : ⊥ = cc in none)

module _ (ys : List Sending) (pairs : each_pair share (filter commits ys) ≡ true) where
  abbrev told : List Tried
  told = map tried_one (reverse_onto ys [])

  abbrev flat : List (List Ltxid) → List Ltxid
  flat lists = flat_map (λ ids. ids) lists

  abbrev within : ℕ → List ShownCall → ℕ → Bool
  within first part at = nat_le first at && nat_lt at (first + length part)

  record FromPlace (first : ℕ) (ids : List Ltxid) : Type 0 where
    differ : ids_differ ids ≡ true
    sent : (x : Ltxid) → holds ids x ≡ true → list_any (under_at (λ at. nat_le first at) x) (filter commits ys) ≡ true

  two_places : (first : ℕ) (part next : List ShownCall) (parts : List (List ShownCall)) → FromPlace (first + length part) (flat (tried_from (first + length part) (next ∷ parts) told)) → FromPlace first (flat (tried_from first (part ∷ next ∷ parts) told))
  two_places first part next parts rest = record {
    differ = joined (tried_among (within first part) told) (flat (tried_from (first + length part) (next ∷ parts) told)) (among_differ (within first part) told) rest.differ clash;
    sent = λ x here. by x (or_cases (holds (tried_among (within first part) told) x) (holds (flat (tried_from (first + length part) (next ∷ parts) told)) x) (sym (holds_append (tried_among (within first part) told) (flat (tried_from (first + length part) (next ∷ parts) told)) x) ∙ here));
  }
    where
      clash : (x : Ltxid) → holds (tried_among (within first part) told) x ≡ true → holds (flat (tried_from (first + length part) (next ∷ parts) told)) x ≡ true → ⊥
      clash x mine its =
          no_two x (under_at (within first part) x) (under_at (λ at. nat_le (first + length part) at) x) (λ s here. (and_parts ((within first part) s.at) (is_under x s) here).1) (λ s here. (and_parts (nat_le (first + length part) s.at) (is_under x s) here).1)
          (λ s one other.
          let less : s.at < first + length part = lt_from s.at (first + length part) (and_parts (nat_le first s.at) (nat_lt s.at (first + length part)) (and_parts ((within first part) s.at) (is_under x s) one).0).1 in
          let least : first + length part ≤ s.at = le_from (first + length part) s.at (and_parts (nat_le (first + length part) s.at) (is_under x s) other).0 in
          let never : ⊥ = omega (arith, less, least) in
          never) (filter commits ys) pairs (tried_sent x (within first part) ys mine) (rest.sent x its)

      by : (x : Ltxid) → (holds (tried_among (within first part) told) x ≡ true) ⊎ (holds (flat (tried_from (first + length part) (next ∷ parts) told)) x ≡ true) → list_any (under_at (λ at. nat_le first at) x) (filter commits ys) ≡ true
      by x (inl mine) =
          any_goes (under_at (within first part) x) (under_at (λ at. nat_le first at) x)
          (λ s here. let parts = and_parts ((within first part) s.at) (is_under x s) here in and_from (nat_le first s.at) (is_under x s) (and_parts (nat_le first s.at) (nat_lt s.at (first + length part)) parts.0).0 parts.1) (filter commits ys) (tried_sent x (within first part) ys mine)
      by x (inr its) =
          any_goes (under_at (λ at. nat_le (first + length part) at) x) (under_at (λ at. nat_le first at) x)
          (λ s here. let parts = and_parts (nat_le (first + length part) s.at) (is_under x s) here in and_from (nat_le first s.at) (is_under x s) (le_lower s.at parts.0) parts.1) (filter commits ys) (rest.sent x its)
        where
          le_lower : (at : ℕ) → nat_le (first + length part) at ≡ true → nat_le first at ≡ true
          le_lower at is = let least : first + length part ≤ at = le_from (first + length part) at is in le_to first at (omega (arith, least))

  from_place : (first : ℕ) (parts : List (List ShownCall)) → FromPlace first (flat (tried_from first parts told))
  from_place first [] = record { differ = refl; sent = λ x here. absurd (let none : ⊥ = cc in none) }
  from_place first (part ∷ []) =
      let ids : List Ltxid = tried_among (λ at. nat_le first at) told in
      let same : ids ++ [] ≡ ids = append-nil ids in
      record {
        differ = subst (λ (all : List Ltxid). ids_differ all ≡ true) (sym same) (among_differ (λ at. nat_le first at) told);
        sent = λ x here. tried_sent x (λ at. nat_le first at) ys (subst (λ (all : List Ltxid). holds all x ≡ true) same here);
      }
  from_place first (part ∷ next ∷ parts) = two_places first part next parts (from_place (first + length part) (next ∷ parts))

-- ALL REQUESTS ------------------------------------------------------------------------------------

abbrev ids_of : List Course → List Ltxid
ids_of courses = flat_map (λ (course : Course). ids_tried course.report) courses

record AllApart (courses : List Course) : Type 0 where
  differ : ids_differ (ids_of courses) ≡ true
  sent : (x : Ltxid) → holds (ids_of courses) x ≡ true → list_any (is_under x) (flat_map commit_sendings courses) ≡ true

one_more : (course : Course) (courses : List Course) → tells_tried course ≡ true → each_pair share (commit_sendings course ++ flat_map commit_sendings courses) ≡ true → AllApart courses → AllApart (course ∷ courses)
one_more course courses tells pairs rest = record {
  differ = joined (ids_tried course.report) (ids_of courses) mine_differ rest.differ (λ x one other. no_cross x (commit_sendings course) (flat_map commit_sendings courses) pairs (mine_sent x one) (rest.sent x other));
  sent = λ x here. ap (λ (test : Bool). test) (list_any-append (is_under x) (commit_sendings course) (flat_map commit_sendings courses)) ∙ by x (or_cases (holds (ids_tried course.report) x) (holds (ids_of courses) x) (sym (holds_append (ids_tried course.report) (ids_of courses) x) ∙ here));
}
  where
    halves : (each_pair share (commit_sendings course) ≡ true) × (each_pair share (flat_map commit_sendings courses) ≡ true)
    halves = pairs_front (commit_sendings course) (flat_map commit_sendings courses) pairs

    placed : FromPlace (sendings_of course) halves.0 0 (ids_tried course.report)
    placed = subst (λ (all : List (List Ltxid)). FromPlace (sendings_of course) halves.0 0 (flat_map (λ ids. ids) all)) (sym (lists_of course tells)) (from_place (sendings_of course) halves.0 0 (txns course.report.calls))

    mine_differ : ids_differ (ids_tried course.report) ≡ true
    mine_differ = placed.differ

    mine_sent : (x : Ltxid) → holds (ids_tried course.report) x ≡ true → list_any (is_under x) (commit_sendings course) ≡ true
    mine_sent x here = any_goes (under_at (λ at. nat_le 0 at) x) (is_under x) (λ s so. (and_parts (nat_le 0 s.at) (is_under x s) so).1) (commit_sendings course) (placed.sent x here)

    by : (x : Ltxid) → (holds (ids_tried course.report) x ≡ true) ⊎ (holds (ids_of courses) x ≡ true) → (list_any (is_under x) (commit_sendings course) || list_any (is_under x) (flat_map commit_sendings courses)) ≡ true
    by x (inl one) = or_left (list_any (is_under x) (commit_sendings course)) (list_any (is_under x) (flat_map commit_sendings courses)) (mine_sent x one)
    by x (inr other) = or_right (list_any (is_under x) (commit_sendings course)) (list_any (is_under x) (flat_map commit_sendings courses)) (rest.sent x other)

all_apart : (courses : List Course) → list_all tells_tried courses ≡ true → each_pair share (flat_map commit_sendings courses) ≡ true → AllApart courses
all_apart [] tells pairs = record { differ = refl; sent = λ x here. absurd (let none : ⊥ = cc in none) }
all_apart (course ∷ courses) tells pairs =
    let parts = and_parts (tells_tried course) (list_all tells_tried courses) tells in
    one_more course courses parts.0 pairs (all_apart courses parts.1 (pairs_front (commit_sendings course) (flat_map commit_sendings courses) pairs).1)

pub lists_apart : (courses : List Course) → list_all tells_tried courses ≡ true → each_pair share (flat_map commit_sendings courses) ≡ true → ids_differ (flat_map (λ (course : Course). ids_tried course.report) courses) ≡ true
lists_apart courses tells pairs = (all_apart courses tells pairs).differ
