-- An entry is as its request knows where each of its parts is.
use Rattle.std.proofs.Common.{◌≡◌, refl, sym, ap, subst, ◌∙◌, Bool, true, false, ℕ, zero, suc, ◌+◌, ◌-◌, ◌<◌, ◌≤◌, ◌&&◌, ◌||◌, drop, filter, length, take, List, [], ◌∷◌, Option, Some, None, arith}
use Rattle.std.specs.Prelude.{◌==◌, not, nat_le, slice_get}
use Rattle.std.specs.List.{list_all, last_or}
use Rattle.std.specs.Option.{option_map_or}
use Rattle.std.proofs.lemmas.Bool.{and_parts, and_from, not-true}
use Rattle.svc_values.specs.declared.draw.Draw.{Draw}
use Rattle.svc_values.specs.declared.entry.Entry.{Entry}
use Rattle.svc_values.specs.declared.entry.Piece.{Piece}
use Rattle.svc_values.specs.meaning.Endings.{ends_transaction}
use Rattle.svc_values.specs.meaning.Identifiers.{same_ltxid}
use Rattle.svc_values.specs.meaning.Same.{same_answers, same_calls, same_draws}
use Rattle.svc_values.specs.meaning.SettingsList.{same_settings, with_sets}
use Rattle.outage_schedule.specs.declared.request.ShownCall.{ShownCall}
use Rattle.invariant_laws.specs.EntryParts.{answered_from, drew_from, drew_so, ends_answered, first_of, goes_on, has_its_calls, inside_answered, of_entries, starts_one}
use Rattle.invariant_laws.specs.Once.{is_open_or_committed}
use Rattle.world_model.specs.Parts.{Sending, commit_sendings, implies}
use Rattle.invariant_laws.specs.Same.{agree_from, agrees, begins_at, calls_of, ends_with_sent, entries_follow_scripts, entries_same, is_entry_of, is_same_sending}
use Rattle.world_model.specs.Traced.{Traced, Course, courses_of}
use Rattle.invariant_laws.specs.Verified.{all_but_last}
use Rattle.world_model.proofs.Offered.{at_all, weaker_all, eq_from, le_from}
use Rattle.same_laws.proofs.BeginsAt.{begins_there, got_take}
use Rattle.invariant_laws.proofs.Offered.{both_all}
use Rattle.same_laws.proofs.ShownTxns.{ends_one}

-- ALL ENTRIES -------------------------------------------------------------------------------------

abbrev Part : Type 0
Part = Course → Sending → Entry → Bool

module _ (t : Traced) where
  abbrev of_sending : Part → Course → Sending → Bool
  of_sending test course sending = implies (is_open_or_committed sending) (list_all (λ entry. implies (same_ltxid entry.ltxid sending.ltxid) (test course sending entry)) t.entries)

  pub of_both : (a b : Part) → of_entries a t ≡ true → of_entries b t ≡ true → of_entries (λ course sending entry. a course sending entry && b course sending entry) t ≡ true
  of_both a b one other =
      weaker_all (λ course. list_all (of_sending a course) (commit_sendings course) && list_all (of_sending b course) (commit_sendings course)) (λ course. list_all (of_sending both course) (commit_sendings course)) (courses_of t) by_course
      (both_all (λ course. list_all (of_sending a course) (commit_sendings course)) (λ course. list_all (of_sending b course) (commit_sendings course)) (courses_of t) one other)
    where
      both : Part
      both course sending entry = a course sending entry && b course sending entry

      by_entry : (same x y : Bool) → (implies same x && implies same y) ≡ true → implies same (x && y) ≡ true
      by_entry false x y is = refl
      by_entry true x y is = is

      by_sending : (course : Course) (sending : Sending) → (of_sending a course sending && of_sending b course sending) ≡ true → of_sending both course sending ≡ true
      by_sending course sending is = by (is_open_or_committed sending) is
        where
          by : (may : Bool) → (implies may (list_all (λ entry. implies (same_ltxid entry.ltxid sending.ltxid) (a course sending entry)) t.entries) && implies may (list_all (λ entry. implies (same_ltxid entry.ltxid sending.ltxid) (b course sending entry)) t.entries)) ≡ true
              → implies may (list_all (λ entry. implies (same_ltxid entry.ltxid sending.ltxid) (both course sending entry)) t.entries) ≡ true
          by false is = refl
          by true is =
              let parts = and_parts (list_all (λ entry. implies (same_ltxid entry.ltxid sending.ltxid) (a course sending entry)) t.entries) _ is in
              weaker_all (λ entry. implies (same_ltxid entry.ltxid sending.ltxid) (a course sending entry) && implies (same_ltxid entry.ltxid sending.ltxid) (b course sending entry)) (λ entry. implies (same_ltxid entry.ltxid sending.ltxid) (both course sending entry)) t.entries
              (λ entry here. by_entry (same_ltxid entry.ltxid sending.ltxid) (a course sending entry) (b course sending entry) here)
              (both_all (λ entry. implies (same_ltxid entry.ltxid sending.ltxid) (a course sending entry)) (λ entry. implies (same_ltxid entry.ltxid sending.ltxid) (b course sending entry)) t.entries parts.0 parts.1)

      by_course : (course : Course) → (list_all (of_sending a course) (commit_sendings course) && list_all (of_sending b course) (commit_sendings course)) ≡ true → list_all (of_sending both course) (commit_sendings course) ≡ true
      by_course course is =
          let parts = and_parts (list_all (of_sending a course) (commit_sendings course)) _ is in
          weaker_all (λ sending. of_sending a course sending && of_sending b course sending) (of_sending both course) (commit_sendings course) (by_sending course)
          (both_all (of_sending a course) (of_sending b course) (commit_sendings course) parts.0 parts.1)

-- ONE ENTRY ---------------------------------------------------------------------------------------

-- all its answers and granted draws
agree_all : (granted : Draw → Bool) (pieces : List Piece) (shown : List ShownCall) → answered_from (all_but_last pieces) shown ≡ true
    → ((n : ℕ) → suc n ≡ length pieces → option_map_or (λ call. option_map_or (λ piece. same_answers piece.answers call.answers) (last_or None pieces) true) (slice_get shown n) true ≡ true) → drew_from granted pieces shown ≡ true
    → agree_from granted pieces shown ≡ true
agree_all granted [] shown inside last drew = refl
agree_all granted (piece ∷ pieces) [] inside last drew = refl
agree_all granted (piece ∷ []) (call ∷ shown) inside last drew =
    and_from (agrees granted piece call) true (and_from (same_answers piece.answers call.answers) (same_draws (filter granted piece.draws) (filter granted call.draws)) (last 0 refl) (and_parts (same_draws (filter granted piece.draws) (filter granted call.draws)) true drew).0) refl
agree_all granted (piece ∷ next ∷ pieces) (call ∷ shown) inside last drew =
    let one = and_parts (same_answers piece.answers call.answers) (answered_from (all_but_last (next ∷ pieces)) shown) inside in
    let two = and_parts (same_draws (filter granted piece.draws) (filter granted call.draws)) (drew_from granted (next ∷ pieces) shown) drew in
    and_from (agrees granted piece call) (agree_from granted (next ∷ pieces) shown) (and_from (same_answers piece.answers call.answers) (same_draws (filter granted piece.draws) (filter granted call.draws)) one.0 two.0)
    (agree_all granted (next ∷ pieces) shown one.1 (λ n is. last (suc n) (ap suc is)) two.1)

got_drop : {A : Type 0} (first k : ℕ) (xs : List A) → slice_get (drop first xs) k ≡ slice_get xs (first + k)
got_drop zero k xs = let same : k ≡ zero + k = omega arith in ap (slice_get xs) same
got_drop (suc first) k [] = let same : suc (first + k) ≡ suc first + k = omega arith in ap (slice_get []) same
got_drop (suc first) k (x ∷ xs) = let same : suc (first + k) ≡ suc first + k = omega arith in got_drop first k xs ∙ ap (slice_get (x ∷ xs)) same

module _ (granted : Draw → Bool) (course : Course) (sending : Sending) (entry : Entry) where
  abbrev shown : List ShownCall
  shown = course.report.calls

  abbrev first : ℕ
  first = first_of sending entry

  -- the parts, in this order
  abbrev pub all_parts : Bool
  all_parts =
      ends_with_sent course sending entry
      && (starts_one course sending entry && (goes_on course sending entry && (inside_answered course sending entry && (ends_answered course sending entry && drew_so granted course sending entry))))

  pub entry_joined : all_parts ≡ true → is_entry_of granted course sending entry ≡ true
  entry_joined all =
      subst (λ (from : ℕ). (same_calls (calls_of entry) (drop from (take (sending.at + 1) course.request.calls)) && (same_settings entry.settings (with_sets course.request.settings (take from course.request.calls)) && agree_from granted entry.pieces (drop from shown))) ≡ true)
      (sym begins)
      (and_from (same_calls (calls_of entry) (drop first (take (sending.at + 1) course.request.calls))) (same_settings entry.settings (with_sets course.request.settings (take first course.request.calls)) && agree_from granted entry.pieces (drop first shown)) sent.0
      (and_from (same_settings entry.settings (with_sets course.request.settings (take first course.request.calls))) (agree_from granted entry.pieces (drop first shown)) sent.1 (agree_all granted entry.pieces (drop first shown) inside.0 last four.1)))
    where
      one : (ends_with_sent course sending entry ≡ true) × ((starts_one course sending entry && (goes_on course sending entry && (inside_answered course sending entry && (ends_answered course sending entry && drew_so granted course sending entry)))) ≡ true)
      one = and_parts (ends_with_sent course sending entry) _ all

      sent : (same_calls (calls_of entry) (drop first (take (sending.at + 1) course.request.calls)) ≡ true) × (same_settings entry.settings (with_sets course.request.settings (take first course.request.calls)) ≡ true)
      sent = and_parts (same_calls (calls_of entry) (drop first (take (sending.at + 1) course.request.calls))) _ one.0

      two : (starts_one course sending entry ≡ true) × ((goes_on course sending entry && (inside_answered course sending entry && (ends_answered course sending entry && drew_so granted course sending entry))) ≡ true)
      two = and_parts (starts_one course sending entry) _ one.1

      three : (goes_on course sending entry ≡ true) × ((inside_answered course sending entry && (ends_answered course sending entry && drew_so granted course sending entry)) ≡ true)
      three = and_parts (goes_on course sending entry) _ two.1

      inside : (inside_answered course sending entry ≡ true) × ((ends_answered course sending entry && drew_so granted course sending entry) ≡ true)
      inside = and_parts (inside_answered course sending entry) _ three.1

      four : (ends_answered course sending entry ≡ true) × (drew_so granted course sending entry ≡ true)
      four = and_parts (ends_answered course sending entry) (drew_so granted course sending entry) inside.1

      outer : (has_its_calls sending entry ≡ true) × (list_all (λ call. not (ends_transaction call.answers)) (drop first (take sending.at shown)) ≡ true)
      outer = and_parts (has_its_calls sending entry) _ three.0

      counts : (first + length entry.pieces ≡ sending.at + 1) × (first ≤ sending.at)
      counts =
          let parts = and_parts ((first + length entry.pieces) == (sending.at + 1)) (nat_le first sending.at) outer.0 in
          (eq_from (first + length entry.pieces) (sending.at + 1) parts.0, le_from first sending.at parts.1)

      none : (k : ℕ) (x : ShownCall) → first ≤ k → k < sending.at → slice_get shown k ≡ Some x → ends_one x ≡ false
      none k x least less is =
          let same : first + (k - first) ≡ k = omega (arith, least) in
          not-true (ends_one x)
          (at_all (λ call. not (ends_transaction call.answers)) (drop first (take sending.at shown)) (k - first) x outer.1
          (got_drop first (k - first) (take sending.at shown) ∙ (ap (slice_get (take sending.at shown)) same ∙ got_take sending.at k shown x less is)))

      begins : begins_at shown sending.at ≡ first
      begins = begins_there shown first sending.at counts.1 two.0 none

      last : (n : ℕ) → suc n ≡ length entry.pieces → option_map_or (λ call. option_map_or (λ piece. same_answers piece.answers call.answers) (last_or None entry.pieces) true) (slice_get (drop first shown) n) true ≡ true
      last n is =
          let sum : first + length entry.pieces ≡ sending.at + 1 = counts.0 in
          let place : first + n ≡ sending.at = omega (arith, sum, is) in
          ap (λ (got : Option ShownCall). option_map_or (λ call. option_map_or (λ piece. same_answers piece.answers call.answers) (last_or None entry.pieces) true) got true) (got_drop first n shown ∙ ap (slice_get shown) place) ∙ four.0

-- ALL ---------------------------------------------------------------------------------------------

pub entries_joined : (granted : Draw → Bool) (t : Traced) → entries_follow_scripts t ≡ true → of_entries starts_one t ≡ true → of_entries goes_on t ≡ true → of_entries inside_answered t ≡ true → of_entries ends_answered t ≡ true → of_entries (drew_so granted) t ≡ true
    → entries_same granted t ≡ true
entries_joined granted t scripts starts goes inside ends drew =
    weaker_all (λ course. list_all (of_sending t (all_parts granted) course) (commit_sendings course)) (λ course. list_all (is_same_sending granted t course) (commit_sendings course)) (courses_of t)
    (λ course all. weaker_all (of_sending t (all_parts granted) course) (is_same_sending granted t course) (commit_sendings course) (one course) all)
    (of_both t ends_with_sent
    (λ course sending entry. starts_one course sending entry && (goes_on course sending entry && (inside_answered course sending entry && (ends_answered course sending entry && drew_so granted course sending entry)))) scripts
    (of_both t starts_one (λ course sending entry. goes_on course sending entry && (inside_answered course sending entry && (ends_answered course sending entry && drew_so granted course sending entry))) starts
    (of_both t goes_on (λ course sending entry. inside_answered course sending entry && (ends_answered course sending entry && drew_so granted course sending entry)) goes
    (of_both t inside_answered (λ course sending entry. ends_answered course sending entry && drew_so granted course sending entry) inside (of_both t ends_answered (drew_so granted) ends drew)))))
  where
    one : (course : Course) (sending : Sending) → of_sending t (all_parts granted) course sending ≡ true → is_same_sending granted t course sending ≡ true
    one course sending is = by (is_open_or_committed sending) is
      where
        so : (entry : Entry) → implies (same_ltxid entry.ltxid sending.ltxid) (all_parts granted course sending entry) ≡ true → implies (same_ltxid entry.ltxid sending.ltxid) (is_entry_of granted course sending entry) ≡ true
        so entry here = of (same_ltxid entry.ltxid sending.ltxid) here
          where
            of : (same : Bool) → implies same (all_parts granted course sending entry) ≡ true → implies same (is_entry_of granted course sending entry) ≡ true
            of false here = refl
            of true here = entry_joined granted course sending entry here

        by : (may : Bool) → implies may (list_all (λ entry. implies (same_ltxid entry.ltxid sending.ltxid) (all_parts granted course sending entry)) t.entries) ≡ true
            → (may && list_all (λ entry. implies (same_ltxid entry.ltxid sending.ltxid) (is_entry_of granted course sending entry)) t.entries || not may) ≡ true
        by false is = refl
        by true is = ap (λ (b : Bool). b || false) (weaker_all (λ entry. implies (same_ltxid entry.ltxid sending.ltxid) (all_parts granted course sending entry)) (λ entry. implies (same_ltxid entry.ltxid sending.ltxid) (is_entry_of granted course sending entry)) t.entries so is)
