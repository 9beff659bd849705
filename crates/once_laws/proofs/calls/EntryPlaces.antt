-- An entry of a sending that is open or was answered Committed: the transaction that its connection
-- ran, with its request, and what holds of each such entry.
use Rattle.std.proofs.Common.{◌≡◌, refl, sym, ap, ◌∙◌, Bool, true, false, ℕ, suc, ◌+◌, length, List, [], ◌∷◌, ◌++◌, Option, Some, arith}
use Rattle.std.specs.Prelude.{◌==◌, slice_get}
use Rattle.std.specs.List.{list_all, list_any}
use Rattle.std.specs.Option.{option_map_or}
use Rattle.std.proofs.lemmas.Bool.{and_parts, or_left, or_right}
use Rattle.std.proofs.lemmas.List.{length_push}
use Rattle.std.proofs.lemmas.List.Folds.{list_any-append}
use Rattle.svc_values.specs.declared.entry.Entry.{Entry}
use Rattle.svc_values.specs.meaning.Identifiers.{same_ltxid}
use Rattle.invariant_laws.specs.EntryParts.{first_of, of_entries}
use Rattle.invariant_laws.specs.Invariant.{Invariant}
use Rattle.world_model.specs.meaning.Links.{Link, link_at}
use Rattle.invariant_laws.specs.Once.{is_on_link, is_open_or_committed}
use Rattle.world_model.specs.Parts.{Sending, commit_sendings, implies}
use Rattle.invariant_laws.specs.Same.{ServedCall, first_call, is_scripts, runs_script_calls, scripts_from, test_at}
use Rattle.world_model.specs.Traced.{Traced, Course, courses_of}
use Rattle.invariant_laws.specs.Verified.{commits_ran, is_committed_ran, on_held}
use Rattle.world_model.specs.Words.{held_in}
use Rattle.world_model.proofs.Offered.{at_all, implied, by_index, eq_from}
use Rattle.invariant_laws.proofs.Offered.{any_all}
use Rattle.once_laws.proofs.calls.EntryInsides.{EntryRan, on_its, ran_so}
use Rattle.once_laws.proofs.calls.OpenEntries.{all_its, all_there, is_its, is_there, last_index, pieces_long}
use Rattle.once_laws.proofs.calls.RanScripts.{owns, scripts_ran}
use Rattle.once_laws.proofs.calls.SendingLookups.{of_all}

-- a connection that a request held
pub held_link : (t : Traced) (course : Course) (test : Link → Bool) (number : ℕ) (link : Link) → link_at t.machine.links number ≡ Some link → list_any (λ other. other == number) (held_in course.steps) ≡ true → on_held t course test ≡ true → test link ≡ true
held_link t course test number link there had all =
    let found = any_all (λ other. other == number) (λ other. option_map_or test (link_at t.machine.links other) true) (held_in course.steps) had all in
    let same : found.0 ≡ number = eq_from found.0 number found.1.0 in
    sym (ap (λ (one : Option Link). option_map_or test one true) (ap (link_at t.machine.links) same ∙ there)) ∙ found.1.1

-- the last call of a row
pub last_scripts : (course : Course) (index : ℕ) (before : List ServedCall) (did : ServedCall) → scripts_from course index (before ++ did ∷ []) ≡ true → is_scripts course (index + length before) did ≡ true
last_scripts course index [] did all =
    let same : index ≡ index + 0 = omega arith in ap (λ (n : ℕ). is_scripts course n did) (sym same) ∙ (and_parts (is_scripts course index did) true all).0
last_scripts course index (first ∷ before) did all =
    let same : (index + 1) + length before ≡ index + suc (length before) = omega arith in
    ap (λ (n : ℕ). is_scripts course n did) (sym same) ∙ last_scripts course (index + 1) before did (and_parts (is_scripts course index first) (scripts_from course (index + 1) (before ++ did ∷ [])) all).1

module _ (t : Traced) (whole : Invariant t) (ran : commits_ran t ≡ true) where
  -- an entry, its sending and its request, by their places
  pub record EntryAt : Type 0 where
    pub number : ℕ
    pub course : Course
    pub at_course : slice_get (courses_of t) number ≡ Some course
    pub place : ℕ
    pub sending : Sending
    pub at_sending : slice_get (commit_sendings course) place ≡ Some sending
    pub may : is_open_or_committed sending ≡ true
    pub index : ℕ
    pub entry : Entry
    pub at_entry : slice_get t.entries index ≡ Some entry
    pub same : same_ltxid entry.ltxid sending.ltxid ≡ true

  pub of_each : (test : Course → Sending → Entry → Bool) → ((e : EntryAt) → test e.course e.sending e.entry ≡ true) → of_entries test t ≡ true
  of_each test each =
      by_index (λ course. list_all (so course) (commit_sendings course)) (courses_of t) (λ number course at_course.
      by_index (so course) (commit_sendings course) (λ place sending at_sending. by_sending number course at_course place sending at_sending (is_open_or_committed sending) refl))
    where
      entry_so : Course → Sending → Entry → Bool
      entry_so course sending entry = implies (same_ltxid entry.ltxid sending.ltxid) (test course sending entry)

      so : Course → Sending → Bool
      so course sending = implies (is_open_or_committed sending) (list_all (entry_so course sending) t.entries)

      by_sending : (number : ℕ) (course : Course) → slice_get (courses_of t) number ≡ Some course → (place : ℕ) (sending : Sending) → slice_get (commit_sendings course) place ≡ Some sending → (may : Bool) → is_open_or_committed sending ≡ may
          → implies may (list_all (entry_so course sending) t.entries) ≡ true
      by_sending number course at_course place sending at_sending false is = refl
      by_sending number course at_course place sending at_sending true is = by_index (entry_so course sending) t.entries (λ index entry at_entry. by index entry at_entry (same_ltxid entry.ltxid sending.ltxid) refl)
        where
          by : (index : ℕ) (entry : Entry) → slice_get t.entries index ≡ Some entry → (same : Bool) → same_ltxid entry.ltxid sending.ltxid ≡ same → implies same (test course sending entry) ≡ true
          by index entry at_entry false same = refl
          by index entry at_entry true same =
              each (record { number = number; course = course; at_course = at_course; place = place; sending = sending; at_sending = at_sending; may = is; index = index; entry = entry; at_entry = at_entry; same = same })

  module _ (e : EntryAt) where
    runs : list_all (test_at t (runs_script_calls e.course)) (held_in e.course.steps) ≡ true
    runs = at_all (λ course. list_all (test_at t (runs_script_calls course)) (held_in course.steps)) (courses_of t) e.number e.course (scripts_ran t whole) e.at_course

    its : is_its t e.course e.sending ≡ true
    its = at_all (is_its t e.course) (commit_sendings e.course) e.place e.sending (at_all (λ course. list_all (is_its t course) (commit_sendings course)) (courses_of t) e.number e.course (all_its t whole) e.at_course) e.at_sending

    pub on_link : is_on_link t e.sending ≡ true
    on_link = of_all t (is_on_link t) e.number e.course e.place e.sending whole.once.links e.at_course e.at_sending

    -- its connection is one that its request held
    pub had : list_any (λ number. number == e.sending.connection) (held_in e.course.steps) ≡ true
    had = on_its t whole e.course runs e.sending its

    pub entry_ran : EntryRan t e.course e.sending e.entry
    entry_ran =
        ran_so t whole e.course runs e.sending its on_link
        (at_all (is_committed_ran t.machine.links e.course) (commit_sendings e.course) e.place e.sending (at_all (λ course. list_all (is_committed_ran t.machine.links course) (commit_sendings course)) (courses_of t) e.number e.course ran e.at_course) e.at_sending)
        e.may e.entry (at_all (is_there t whole) t.entries e.index e.entry (all_there t whole) e.at_entry) e.same

    abbrev pub dids : List ServedCall
    dids = entry_ran.before ++ entry_ran.did ∷ []

    abbrev pub first : ℕ
    first = first_call dids 0

    pub any : list_any (owns e.course) dids ≡ true
    any =
        list_any-append (owns e.course) entry_ran.before (entry_ran.did ∷ [])
        ∙ or_right (list_any (owns e.course) entry_ran.before) (list_any (owns e.course) (entry_ran.did ∷ [])) (or_left (owns e.course entry_ran.did) false entry_ran.own)

    pub row : scripts_from e.course first dids ≡ true
    row = implied (list_any (owns e.course) dids) (scripts_from e.course first dids) any entry_ran.script

    pub ends : e.sending.at ≡ first + length entry_ran.before
    ends = sym entry_ran.index ∙ last_index e.course first entry_ran.before entry_ran.did row

    -- its first call is the first one of the transaction
    pub begins : first_of e.sending e.entry ≡ first
    begins =
        let long : length dids ≡ length entry_ran.before + 1 = length_push entry_ran.before entry_ran.did in
        let count : length e.entry.pieces ≡ length dids = pieces_long dids e.entry.pieces entry_ran.pieces in
        let end = ends in
        omega (arith, long, count, end)

    -- the call that was sent is the script's
    pub last_script : is_scripts e.course e.sending.at entry_ran.did ≡ true
    last_script = ap (λ (n : ℕ). is_scripts e.course n entry_ran.did) ends ∙ last_scripts e.course first entry_ran.before entry_ran.did row
