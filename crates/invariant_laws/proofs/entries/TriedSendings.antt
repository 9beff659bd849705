-- What a request has as tried are the identifiers of its sendings with a commit that are open or
-- committed, and of no others.
use Rattle.std.proofs.Common.{◌≡◌, refl, sym, subst, ◌∙◌, Bool, true, false, ℕ, ◌+◌, ◌&&◌, ◌||◌, filter, fold, length, map, List, [], ◌∷◌, ◌++◌, ◌⊎◌, inl, inr, if◌then◌else◌, arith}
use Rattle.std.specs.Prelude.{nat_le, nat_lt}
use Rattle.std.specs.List.{list_any}
use Rattle.std.proofs.lemmas.Bool.{and_parts, and_from, or_cases, or_left, or_right}
use Rattle.std.proofs.lemmas.Bool.Decides.{nat_tests}
use Rattle.svc_values.specs.declared.entry.Ltxid.{Ltxid}
use Rattle.svc_values.specs.meaning.Calls.{has_commit}
use Rattle.svc_values.specs.meaning.Identifiers.{same_ltxid}
use Rattle.svc_values.specs.SameLaws.{same_ltxid_decides}
use Rattle.outage_schedule.specs.declared.request.ShownCall.{ShownCall}
use Rattle.run_clauses.specs.meaning.Transactions.{txns}
use Rattle.run_clauses.specs.meaning.Tried.{holds}
use Rattle.run_clauses.specs.Tried.{Sending as Tried, may_have_committed, tried_among, tried_from, with_new}
use Rattle.invariant_laws.specs.Once.{is_open_or_committed, reverse_onto, tells_tried, tried_one}
use Rattle.world_model.specs.Parts.{Sending, commit_sendings, sendings_of}
use Rattle.world_model.specs.Traced.{Course}
use Rattle.world_model.proofs.Offered.{any_goes, le_to}
use Rattle.invariant_laws.proofs.entries.NotedParts.{some_part}
use Rattle.invariant_laws.proofs.entries.TriedApart.{commits, holds_append, is_under, lists_of, may_at, sent_under, tried_sent, under_at}

-- IDENTIFIERS -------------------------------------------------------------------------------------

-- what was held, and what comes, is held
holds_kept : (more ids : List Ltxid) (x : Ltxid) → (holds ids x ≡ true) ⊎ (holds more x ≡ true) → holds (fold with_new ids more) x ≡ true
holds_kept [] ids x (inl here) = here
holds_kept [] ids x (inr never) = absurd (let none : ⊥ = cc in none)
holds_kept (y ∷ more) ids x either = holds_kept more (with_new ids y) x (by either)
  where
    grown : (held : Bool) → holds ids x ≡ true → holds (if held then ids else ids ++ y ∷ []) x ≡ true
    grown true mine = mine
    grown false mine = holds_append ids (y ∷ []) x ∙ or_left (holds ids x) (holds (y ∷ []) x) mine

    put : (held : Bool) → holds ids y ≡ held → same_ltxid x y ≡ true → holds (if held then ids else ids ++ y ∷ []) x ≡ true
    put true is same = subst (λ (z : Ltxid). holds ids z ≡ true) (sym ((same_ltxid_decides x y).0 same)) is
    put false is same = holds_append ids (y ∷ []) x ∙ or_right (holds ids x) (holds (y ∷ []) x) (or_left (same_ltxid x y) false same)

    by : (holds ids x ≡ true) ⊎ (holds (y ∷ more) x ≡ true) → (holds (with_new ids y) x ≡ true) ⊎ (holds more x ≡ true)
    by (inl mine) = inl (grown (holds ids y) mine)
    by (inr found) = pick (or_cases (same_ltxid x y) (holds more x) found)
      where
        pick : (same_ltxid x y ≡ true) ⊎ (holds more x ≡ true) → (holds (with_new ids y) x ≡ true) ⊎ (holds more x ≡ true)
        pick (inl same) = inl (put (holds ids y) refl same)
        pick (inr later) = inr later

-- SENDINGS ----------------------------------------------------------------------------------------

module _ (x : Ltxid) (is_of : ℕ → Bool) where
  abbrev kept : List Sending → List Ltxid
  kept list = map (λ (one : Tried). one.ltxid) (filter (may_at x is_of) (map tried_one list))

  sent_among : (ys done : List Sending) → (list_any (sent_under x is_of) ys ≡ true) ⊎ (holds (kept done) x ≡ true) → holds (kept (reverse_onto ys done)) x ≡ true
  sent_among [] done (inl never) = absurd (let none : ⊥ = cc in none)
  sent_among [] done (inr here) = here
  sent_among (y ∷ ys) done either = sent_among ys (y ∷ done) (by either)
    where
      more : (test : Bool) → holds (kept done) x ≡ true → holds (map (λ (one : Tried). one.ltxid) (if test then tried_one y ∷ filter (may_at x is_of) (map tried_one done) else filter (may_at x is_of) (map tried_one done))) x ≡ true
      more true here = or_right (same_ltxid x y.ltxid) (holds (kept done) x) here
      more false here = here

      put : sent_under x is_of y ≡ true → holds (kept (y ∷ done)) x ≡ true
      put here =
          let parts = and_parts (may_at x is_of (tried_one y)) (same_ltxid x y.ltxid) here in
          subst (λ (test : Bool). holds (map (λ (one : Tried). one.ltxid) (if test then tried_one y ∷ filter (may_at x is_of) (map tried_one done) else filter (may_at x is_of) (map tried_one done))) x ≡ true) (sym parts.0)
          (or_left (same_ltxid x y.ltxid) (holds (kept done) x) parts.1)

      by : (list_any (sent_under x is_of) (y ∷ ys) ≡ true) ⊎ (holds (kept done) x ≡ true) → (list_any (sent_under x is_of) ys ≡ true) ⊎ (holds (kept (y ∷ done)) x ≡ true)
      by (inr here) = inr (more (may_at x is_of (tried_one y)) here)
      by (inl any) = pick (or_cases (sent_under x is_of y) (list_any (sent_under x is_of) ys) any)
        where
          pick : (sent_under x is_of y ≡ true) ⊎ (list_any (sent_under x is_of) ys ≡ true) → (list_any (sent_under x is_of) ys ≡ true) ⊎ (holds (kept (y ∷ done)) x ≡ true)
          pick (inl here) = inr (put here)
          pick (inr later) = inl later

  uncommitting : (ys : List Sending) → list_any (under_at is_of x) (filter commits ys) ≡ true → list_any (sent_under x is_of) ys ≡ true
  uncommitting [] any = any
  uncommitting (y ∷ ys) any = by (has_commit y.call) refl any (λ later. uncommitting ys later)
    where
      here : has_commit y.call ≡ true → under_at is_of x y ≡ true → sent_under x is_of y ≡ true
      here commit is =
          let one = and_parts (is_of y.at) (is_under x y) is in
          let two = and_parts (is_open_or_committed y) (same_ltxid x y.ltxid) one.1 in
          and_from (may_at x is_of (tried_one y)) (same_ltxid x y.ltxid) (and_from (is_of y.at) (may_have_committed (tried_one y)) one.0 (and_from (has_commit y.call) (is_open_or_committed y) commit two.0)) two.1

      by : (test : Bool) → has_commit y.call ≡ test → list_any (under_at is_of x) (if test then y ∷ filter commits ys else filter commits ys) ≡ true → (list_any (under_at is_of x) (filter commits ys) ≡ true → list_any (sent_under x is_of) ys ≡ true)
          → (sent_under x is_of y || list_any (sent_under x is_of) ys) ≡ true
      by false is any again = or_right (sent_under x is_of y) (list_any (sent_under x is_of) ys) (again any)
      by true is any again = pick (or_cases (under_at is_of x y) (list_any (under_at is_of x) (filter commits ys)) any)
        where
          pick : (under_at is_of x y ≡ true) ⊎ (list_any (under_at is_of x) (filter commits ys) ≡ true) → (sent_under x is_of y || list_any (sent_under x is_of) ys) ≡ true
          pick (inl mine) = or_left (sent_under x is_of y) (list_any (sent_under x is_of) ys) (here is mine)
          pick (inr later) = or_right (sent_under x is_of y) (list_any (sent_under x is_of) ys) (again later)

  sent_tried : (ys : List Sending) → list_any (under_at is_of x) (filter commits ys) ≡ true → holds (tried_among is_of (map tried_one (reverse_onto ys []))) x ≡ true
  sent_tried ys any = holds_kept (kept (reverse_onto ys [])) [] x (inr (sent_among ys [] (inl (uncommitting ys any))))

-- ALL TRANSACTIONS --------------------------------------------------------------------------------

any_split : (p q r : Sending → Bool) → ((s : Sending) → p s ≡ true → (q s ≡ true) ⊎ (r s ≡ true)) → (list : List Sending) → list_any p list ≡ true → (list_any q list ≡ true) ⊎ (list_any r list ≡ true)
any_split p q r parts [] any = absurd (let none : ⊥ = cc in none)
any_split p q r parts (s ∷ list) any = by (or_cases (p s) (list_any p list) any) (λ later. any_split p q r parts list later)
  where
    here : (q s ≡ true) ⊎ (r s ≡ true) → (list_any q (s ∷ list) ≡ true) ⊎ (list_any r (s ∷ list) ≡ true)
    here (inl one) = inl (or_left (q s) (list_any q list) one)
    here (inr other) = inr (or_left (r s) (list_any r list) other)

    behind : (list_any q list ≡ true) ⊎ (list_any r list ≡ true) → (list_any q (s ∷ list) ≡ true) ⊎ (list_any r (s ∷ list) ≡ true)
    behind (inl one) = inl (or_right (q s) (list_any q list) one)
    behind (inr other) = inr (or_right (r s) (list_any r list) other)

    by : (p s ≡ true) ⊎ (list_any p list ≡ true) → (list_any p list ≡ true → (list_any q list ≡ true) ⊎ (list_any r list ≡ true)) → (list_any q (s ∷ list) ≡ true) ⊎ (list_any r (s ∷ list) ≡ true)
    by (inl one) again = here (parts s one)
    by (inr later) again = behind (again later)

module _ (x : Ltxid) (ys : List Sending) where
  abbrev told : List Tried
  told = map tried_one (reverse_onto ys [])

  abbrev among : List (List Ltxid) → Bool
  among lists = list_any (λ ids. holds ids x) lists

  from_of : (first : ℕ) (part : List ShownCall) (rest : List (List ShownCall)) → list_any (under_at (λ at. nat_le first at) x) (filter commits ys) ≡ true → among (tried_from first (part ∷ rest) told) ≡ true
  from_of first part [] any = or_left (holds (tried_among (λ at. nat_le first at) told) x) false (sent_tried x (λ at. nat_le first at) ys any)
  from_of first part (next ∷ rest) any =
      by (any_split (under_at (λ at. nat_le first at) x) (under_at (λ at. nat_le first at && nat_lt at (first + length part)) x) (under_at (λ at. nat_le (first + length part) at) x) parts (filter commits ys) any)
      (λ later. from_of (first + length part) next rest later)
    where
      either : (first until at : ℕ) → nat_le first at ≡ true → ((nat_le first at && nat_lt at until) ≡ true) ⊎ (nat_le until at ≡ true)
      either first until at is = cases (nat_le until at) refl
        where
          cases : (test : Bool) → nat_le until at ≡ test → ((nat_le first at && nat_lt at until) ≡ true) ⊎ (test ≡ true)
          cases true so = inr refl
          cases false so = inl (and_from (nat_le first at) (nat_lt at until) is (grind (arith, nat_tests)))

      parts : (s : Sending) → under_at (λ at. nat_le first at) x s ≡ true → (under_at (λ at. nat_le first at && nat_lt at (first + length part)) x s ≡ true) ⊎ (under_at (λ at. nat_le (first + length part) at) x s ≡ true)
      parts s here = pick (either first (first + length part) s.at both.0)
        where
          both : (nat_le first s.at ≡ true) × (is_under x s ≡ true)
          both = and_parts (nat_le first s.at) (is_under x s) here

          pick : ((nat_le first s.at && nat_lt s.at (first + length part)) ≡ true) ⊎ (nat_le (first + length part) s.at ≡ true)
              → (under_at (λ at. nat_le first at && nat_lt at (first + length part)) x s ≡ true) ⊎ (under_at (λ at. nat_le (first + length part) at) x s ≡ true)
          pick (inl one) = inl (and_from (nat_le first s.at && nat_lt s.at (first + length part)) (is_under x s) one both.1)
          pick (inr other) = inr (and_from (nat_le (first + length part) s.at) (is_under x s) other both.1)

      by : (list_any (under_at (λ at. nat_le first at && nat_lt at (first + length part)) x) (filter commits ys) ≡ true) ⊎ (list_any (under_at (λ at. nat_le (first + length part) at) x) (filter commits ys) ≡ true)
          → (list_any (under_at (λ at. nat_le (first + length part) at) x) (filter commits ys) ≡ true → among (tried_from (first + length part) (next ∷ rest) told) ≡ true) → among (tried_from first (part ∷ next ∷ rest) told) ≡ true
      by (inl here) again =
          or_left (holds (tried_among (λ at. nat_le first at && nat_lt at (first + length part)) told) x) (among (tried_from (first + length part) (next ∷ rest) told)) (sent_tried x (λ at. nat_le first at && nat_lt at (first + length part)) ys here)
      by (inr later) again = or_right (holds (tried_among (λ at. nat_le first at && nat_lt at (first + length part)) told) x) (among (tried_from (first + length part) (next ∷ rest) told)) (again later)

  of_from : (first : ℕ) (parts : List (List ShownCall)) → among (tried_from first parts told) ≡ true → list_any (is_under x) (filter commits ys) ≡ true
  of_from first [] any = absurd (let none : ⊥ = cc in none)
  of_from first (part ∷ []) any = by (or_cases (holds (tried_among (λ at. nat_le first at) told) x) false any)
    where
      by : (holds (tried_among (λ at. nat_le first at) told) x ≡ true) ⊎ (false ≡ true) → list_any (is_under x) (filter commits ys) ≡ true
      by (inl here) = any_goes (under_at (λ at. nat_le first at) x) (is_under x) (λ s so. (and_parts (nat_le first s.at) (is_under x s) so).1) (filter commits ys) (tried_sent x (λ at. nat_le first at) ys here)
      by (inr never) = absurd (let none : ⊥ = cc in none)
  of_from first (part ∷ next ∷ parts) any =
      by (or_cases (holds (tried_among (λ at. nat_le first at && nat_lt at (first + length part)) told) x) (among (tried_from (first + length part) (next ∷ parts) told)) any) (λ later. of_from (first + length part) (next ∷ parts) later)
    where
      by : (holds (tried_among (λ at. nat_le first at && nat_lt at (first + length part)) told) x ≡ true) ⊎ (among (tried_from (first + length part) (next ∷ parts) told) ≡ true)
          → (among (tried_from (first + length part) (next ∷ parts) told) ≡ true → list_any (is_under x) (filter commits ys) ≡ true) → list_any (is_under x) (filter commits ys) ≡ true
      by (inl here) again =
          any_goes (under_at (λ at. nat_le first at && nat_lt at (first + length part)) x) (is_under x) (λ s so. (and_parts (nat_le first s.at && nat_lt s.at (first + length part)) (is_under x s) so).1) (filter commits ys)
          (tried_sent x (λ at. nat_le first at && nat_lt at (first + length part)) ys here)
      by (inr later) again = again later

module _ (course : Course) (tells : tells_tried course ≡ true) (x : Ltxid) where
  pub sent_of_tried : list_any (λ ids. holds ids x) course.report.tried ≡ true → list_any (is_under x) (commit_sendings course) ≡ true
  sent_of_tried any = of_from x (sendings_of course) 0 (txns course.report.calls) (subst (λ (all : List (List Ltxid)). list_any (λ ids. holds ids x) all ≡ true) (lists_of course tells) any)

  pub tried_of_sent : list_any (is_under x) (commit_sendings course) ≡ true → list_any (λ ids. holds ids x) course.report.tried ≡ true
  tried_of_sent any =
      let part = some_part course.report.calls in
      subst (λ (all : List (List Ltxid)). list_any (λ ids. holds ids x) all ≡ true) (sym (lists_of course tells))
      (subst (λ (parts : List (List ShownCall)). list_any (λ ids. holds ids x) (tried_from 0 parts (map tried_one (reverse_onto (sendings_of course) []))) ≡ true) (sym part.1)
      (from_of x (sendings_of course) 0 part.0.first part.0.rest
      (any_goes (is_under x) (under_at (λ at. nat_le 0 at) x) (λ s so. and_from (nat_le 0 s.at) (is_under x s) (le_to 0 s.at (omega arith)) so) (commit_sendings course) any)))
