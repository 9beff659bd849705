-- Entries and identifiers of lists that a request has as tried, and how the last call of a
-- transaction ended.
use Rattle.std.proofs.Common.{◌≡◌, refl, sym, ap, subst, ◌∙◌, Bool, true, false, ℕ, suc, zero, ◌+◌, ◌≤◌, ◌&&◌, ◌||◌, filter, fold, length, List, [], ◌∷◌, ◌++◌, map, Option, Some, None, ◌⊎◌, inl, inr, if◌then◌else◌, arith}
use Rattle.std.specs.Prelude.{◌==◌, not, slice_get}
use Rattle.std.specs.List.{list_all, list_any, last_or}
use Rattle.std.specs.Option.{option_map_or}
use Rattle.std.proofs.lemmas.Bool.{and_parts, and_from, or_cases, or_left, or_right, not-true}
use Rattle.svc_values.specs.declared.answer.Answer.{Answer}
use Rattle.svc_values.specs.declared.answer.Answer.TheVariants as answer
use Rattle.svc_values.specs.declared.entry.Entry.{Entry}
use Rattle.svc_values.specs.declared.entry.Ltxid.{Ltxid}
use Rattle.svc_values.specs.meaning.Calls.{has_commit}
use Rattle.svc_values.specs.meaning.Endings.{ends_committed, ends_conflict, ends_transaction, ends_with, is_committed, is_conflict, is_rolled_back}
use Rattle.svc_values.specs.meaning.Identifiers.{same_ltxid}
use Rattle.svc_values.specs.SameLaws.{same_ltxid_decides}
use Rattle.outage_schedule.specs.declared.request.ShownCall.{ShownCall}
use Rattle.run_clauses.specs.meaning.Once.{count_in, entries_in}
use Rattle.run_clauses.specs.meaning.Tried.{holds}
use Rattle.run_clauses.specs.Tried.{Sending as Tried, may_have_committed, tried_among, with_new}
use Rattle.invariant_laws.specs.Once.{is_open_or_committed, is_shown_stored, is_stored_at, reverse_onto, stored_from, tried_one}
use Rattle.world_model.specs.Parts.{Sending, has_entry}
use Rattle.invariant_laws.proofs.sendings.ApartSteps.{commits}
use Rattle.invariant_laws.proofs.sendings.CommittedSendings.{any_filtered}
use Rattle.world_model.proofs.Offered.{implied, any_goes, ltxid_self, not_both}
use Rattle.invariant_laws.proofs.entries.TriedApart.{holds_append, is_under, under_at}

-- ENTRIES -----------------------------------------------------------------------------------------

-- none, where none of the identifiers has one
pub none_in : (blocked : List Ltxid) (ids : List Ltxid) (entries : List Entry) → ((x : Ltxid) → holds ids x ≡ true → holds blocked x ≡ false → ⊥) → list_all (λ entry. not (holds blocked entry.ltxid)) entries ≡ true → count_in entries ids ≡ 0
none_in blocked ids [] never all = refl
none_in blocked ids (entry ∷ rest) never all =
    let parts = and_parts (not (holds blocked entry.ltxid)) (list_all (λ other. not (holds blocked other.ltxid)) rest) all in
    by (holds ids entry.ltxid) refl (never entry.ltxid) (not-true (holds blocked entry.ltxid) parts.0) (none_in blocked ids rest never parts.1)
  where
    by : (test : Bool) → holds ids entry.ltxid ≡ test → (holds ids entry.ltxid ≡ true → holds blocked entry.ltxid ≡ false → ⊥) → holds blocked entry.ltxid ≡ false → count_in rest ids ≡ 0 → length (if test then entry ∷ entries_in rest ids else entries_in rest ids) ≡ 0
    by true is never_so free later = absurd (never_so is free)
    by false is never_so free later = later

-- one, where one of them has
pub some_in : (ids : List Ltxid) (x : Ltxid) (entries : List Entry) → holds ids x ≡ true → has_entry entries x ≡ true → 1 ≤ count_in entries ids
some_in ids x [] held there = absurd (let none : ⊥ = cc in none)
some_in ids x (entry ∷ rest) held there = by (holds ids entry.ltxid) refl (or_cases (same_ltxid x entry.ltxid) (has_entry rest x) there) (some_in ids x rest held)
  where
    by : (test : Bool) → holds ids entry.ltxid ≡ test → (same_ltxid x entry.ltxid ≡ true) ⊎ (has_entry rest x ≡ true) → (has_entry rest x ≡ true → 1 ≤ count_in rest ids) → 1 ≤ length (if test then entry ∷ entries_in rest ids else entries_in rest ids)
    by true is here again = omega arith
    by false is (inr later) again = again later
    by false is (inl same) again = absurd (let never : false ≡ true = sym is ∙ (ap (holds ids) (sym ((same_ltxid_decides x entry.ltxid).0 same)) ∙ held) in let none : ⊥ = cc in none)

-- IDENTIFIERS -------------------------------------------------------------------------------------

kept_holds : (more ids : List Ltxid) (x : Ltxid) → holds ids x ≡ true → holds (fold with_new ids more) x ≡ true
kept_holds [] ids x here = here
kept_holds (y ∷ more) ids x here = kept_holds more (with_new ids y) x (by (holds ids y))
  where
    by : (held : Bool) → holds (if held then ids else ids ++ y ∷ []) x ≡ true
    by true = here
    by false = holds_append ids (y ∷ []) x ∙ or_left (holds ids x) (holds (y ∷ []) x) here

all_hold : (more ids : List Ltxid) (x : Ltxid) → holds more x ≡ true → holds (fold with_new ids more) x ≡ true
all_hold [] ids x here = absurd (let none : ⊥ = cc in none)
all_hold (y ∷ more) ids x here = by (or_cases (same_ltxid x y) (holds more x) here) (all_hold more (with_new ids y) x)
  where
    now : (held : Bool) → holds ids y ≡ held → x ≡ y → holds (if held then ids else ids ++ y ∷ []) x ≡ true
    now true is same = ap (holds ids) same ∙ is
    now false is same = holds_append ids (y ∷ []) x ∙ or_right (holds ids x) (holds (y ∷ []) x) (or_left (same_ltxid x y) false ((same_ltxid_decides x y).1 same))

    by : (same_ltxid x y ≡ true) ⊎ (holds more x ≡ true) → (holds more x ≡ true → holds (fold with_new (with_new ids y) more) x ≡ true) → holds (fold with_new (with_new ids y) more) x ≡ true
    by (inl same) again = kept_holds more (with_new ids y) x (now (holds ids y) refl ((same_ltxid_decides x y).0 same))
    by (inr later) again = again later

-- ids of a transaction from its sendings
module _ (x : Ltxid) (is_of : ℕ → Bool) where
  abbrev may_at : Tried → Bool
  may_at one = is_of one.at && may_have_committed one

  told_holds : (ys done : List Sending) → (list_any (λ s. has_commit s.call && under_at is_of x s) ys ≡ true) ⊎ (holds (map (λ (one : Tried). one.ltxid) (filter may_at (map tried_one done))) x ≡ true)
      → holds (map (λ (one : Tried). one.ltxid) (filter may_at (map tried_one (reverse_onto ys done)))) x ≡ true
  told_holds [] done (inl any) = absurd (let none : ⊥ = cc in none)
  told_holds [] done (inr here) = here
  told_holds (y ∷ ys) done some = told_holds ys (y ∷ done) (by some)
    where
      rest : (test : Bool) → may_at (tried_one y) ≡ test → holds (map (λ (one : Tried). one.ltxid) (filter may_at (map tried_one done))) x ≡ true → holds (map (λ (one : Tried). one.ltxid) (if test then tried_one y ∷ filter may_at (map tried_one done) else filter may_at (map tried_one done))) x ≡ true
      rest true is here = or_right (same_ltxid x y.ltxid) (holds (map (λ (one : Tried). one.ltxid) (filter may_at (map tried_one done))) x) here
      rest false is here = here

      now : (test : Bool) → may_at (tried_one y) ≡ test → (has_commit y.call && under_at is_of x y) ≡ true → holds (map (λ (one : Tried). one.ltxid) (if test then tried_one y ∷ filter may_at (map tried_one done) else filter may_at (map tried_one done))) x ≡ true
      now true is here =
          let one = and_parts (has_commit y.call) (under_at is_of x y) here in
          let two = and_parts (is_of y.at) (is_under x y) one.1 in
          or_left (same_ltxid x y.ltxid) (holds (map (λ (one : Tried). one.ltxid) (filter may_at (map tried_one done))) x) (and_parts (is_open_or_committed y) (same_ltxid x y.ltxid) two.1).1
      now false is here =
          let one = and_parts (has_commit y.call) (under_at is_of x y) here in
          let two = and_parts (is_of y.at) (is_under x y) one.1 in
          let three = and_parts (is_open_or_committed y) (same_ltxid x y.ltxid) two.1 in
          absurd (not_both (may_at (tried_one y)) (and_from (is_of y.at) (may_have_committed (tried_one y)) two.0 (and_from (has_commit y.call) (is_open_or_committed y) one.0 three.0)) is)

      by : (list_any (λ s. has_commit s.call && under_at is_of x s) (y ∷ ys) ≡ true) ⊎ (holds (map (λ (one : Tried). one.ltxid) (filter may_at (map tried_one done))) x ≡ true)
          → (list_any (λ s. has_commit s.call && under_at is_of x s) ys ≡ true) ⊎ (holds (map (λ (one : Tried). one.ltxid) (filter may_at (map tried_one (y ∷ done)))) x ≡ true)
      by (inr here) = inr (rest (may_at (tried_one y)) refl here)
      by (inl any) = pick (or_cases (has_commit y.call && under_at is_of x y) (list_any (λ s. has_commit s.call && under_at is_of x s) ys) any)
        where
          pick : ((has_commit y.call && under_at is_of x y) ≡ true) ⊎ (list_any (λ s. has_commit s.call && under_at is_of x s) ys ≡ true) → (list_any (λ s. has_commit s.call && under_at is_of x s) ys ≡ true) ⊎ (holds (map (λ (one : Tried). one.ltxid) (filter may_at (map tried_one (y ∷ done)))) x ≡ true)
          pick (inl here) = inr (now (may_at (tried_one y)) refl here)
          pick (inr later) = inl later

  pub sent_tried : (ys : List Sending) → list_any (under_at is_of x) (filter commits ys) ≡ true → holds (tried_among is_of (map tried_one (reverse_onto ys []))) x ≡ true
  sent_tried ys any =
      all_hold (map (λ (one : Tried). one.ltxid) (filter may_at (map tried_one (reverse_onto ys [])))) [] x
      (told_holds ys [] (inl (any_goes (λ s. under_at is_of x s && commits s) (λ s. has_commit s.call && under_at is_of x s) (λ s both. let parts = and_parts (under_at is_of x s) (commits s) both in and_from (has_commit s.call) (under_at is_of x s) parts.1 parts.0) ys
      (any_filtered (under_at is_of x) commits ys any))))

-- ENDINGS -----------------------------------------------------------------------------------------

-- a call that was dropped was not committed, and ended its transaction
pub dropped_not : (answers : List Answer) → ends_committed answers ≡ true → (ends_conflict answers || ends_with is_rolled_back answers) ≡ true → ⊥
dropped_not answers ends drops = by (last_or None answers) ends drops
  where
    by : (found : Option Answer) → option_map_or is_committed found false ≡ true → (option_map_or is_conflict found false || option_map_or is_rolled_back found false) ≡ true → ⊥
    by (Some answer.Committed) ends drops = let none : ⊥ = cc in none
    by None ends drops = let none : ⊥ = cc in none
    by (Some other) ends drops = let none : ⊥ = cc in none

pub dropped_ends : (answers : List Answer) → (ends_conflict answers || ends_with is_rolled_back answers) ≡ true → ends_transaction answers ≡ true
dropped_ends answers drops = by (last_or None answers) drops
  where
    by : (found : Option Answer) → (option_map_or is_conflict found false || option_map_or is_rolled_back found false) ≡ true → option_map_or (λ a. is_committed a || (is_conflict a || is_rolled_back a)) found false ≡ true
    by None drops = absurd (let none : ⊥ = cc in none)
    by (Some one) drops = or_right (is_committed one) (is_conflict one || is_rolled_back one) drops

-- the last call of a part
pub record LastOf (test : List Answer → Bool) (part : List ShownCall) : Type 0 where
  pub call : ShownCall
  pub is : last_or None part ≡ Some call
  pub passes : test call.answers ≡ true

pub last_of : (test : List Answer → Bool) (part : List ShownCall) → option_map_or (λ call. test call.answers) (last_or None part) false ≡ true → LastOf test part
last_of test part here = by (last_or None part) refl here
  where
    by : (found : Option ShownCall) → last_or None part ≡ found → option_map_or (λ call. test call.answers) found false ≡ true → LastOf test part
    by None is here = absurd (let none : ⊥ = cc in none)
    by (Some call) is here = record { call = call; is = is; passes = here }

pub stored_there : (entries : List Entry) (xs : List Sending) (from at : ℕ) (calls : List ShownCall) (call : ShownCall) → slice_get calls at ≡ Some call → ends_committed call.answers ≡ true → stored_from entries xs from calls ≡ true → list_any (is_stored_at entries (from + at)) xs ≡ true
stored_there entries xs from at [] call is ends all = absurd (let none : ⊥ = cc in none)
stored_there entries xs from zero (first ∷ calls) call is ends all =
    let same : first ≡ call = cc in
    let place : from ≡ from + 0 = omega arith in
    let parts = and_parts (is_shown_stored entries xs from first) (stored_from entries xs (from + 1) calls) all in
    subst (λ (n : ℕ). list_any (is_stored_at entries n) xs ≡ true) place (implied (ends_committed first.answers) (list_any (is_stored_at entries from) xs) (ap (λ (c : ShownCall). ends_committed c.answers) same ∙ ends) parts.0)
stored_there entries xs from (suc at) (first ∷ calls) call is ends all =
    let place : (from + 1) + at ≡ from + suc at = omega arith in
    subst (λ (n : ℕ). list_any (is_stored_at entries n) xs ≡ true) place
    (stored_there entries xs (from + 1) at calls call is ends (and_parts (is_shown_stored entries xs from first) (stored_from entries xs (from + 1) calls) all).1)

-- under which identifier
pub stored_id : (entries : List Entry) (at : ℕ) (xs : List Sending) → list_any (is_stored_at entries at) xs ≡ true → (x : Ltxid) × ((has_entry entries x ≡ true) × (list_any (λ s. (s.at == at) && is_under x s) xs ≡ true))
stored_id entries at [] any = absurd (let none : ⊥ = cc in none)
stored_id entries at (s ∷ xs) any = by (or_cases (is_stored_at entries at s) (list_any (is_stored_at entries at) xs) any) (stored_id entries at xs)
  where
    by : (is_stored_at entries at s ≡ true) ⊎ (list_any (is_stored_at entries at) xs ≡ true) → (list_any (is_stored_at entries at) xs ≡ true → (x : Ltxid) × ((has_entry entries x ≡ true) × (list_any (λ other. (other.at == at) && is_under x other) xs ≡ true)))
        → (x : Ltxid) × ((has_entry entries x ≡ true) × (list_any (λ other. (other.at == at) && is_under x other) (s ∷ xs) ≡ true))
    by (inl here) again =
        let one = and_parts (s.at == at) (is_open_or_committed s && has_entry entries s.ltxid) here in
        let two = and_parts (is_open_or_committed s) (has_entry entries s.ltxid) one.1 in (
          s.ltxid,
          (
            two.1,
            or_left ((s.at == at) && is_under s.ltxid s) (list_any (λ other. (other.at == at) && is_under s.ltxid other) xs)
                (and_from (s.at == at) (is_under s.ltxid s) one.0 (and_from (is_open_or_committed s) (same_ltxid s.ltxid s.ltxid) two.0 (ltxid_self s.ltxid))),
          ),
        )
    by (inr later) again =
        let found = again later in
        (found.0, (found.1.0, or_right ((s.at == at) && is_under found.0 s) (list_any (λ other. (other.at == at) && is_under found.0 other) xs) found.1.1))
