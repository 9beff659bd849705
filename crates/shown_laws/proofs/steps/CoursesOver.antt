-- What the invariant says of each request holds of those of a client that are over: so each shows
-- all calls of its script, or it failed.
use Rattle.std.proofs.Common.{◌≡◌, refl, ap, subst, ◌∙◌, Bool, true, false, ℕ, zero, suc, ◌+◌, ◌≤◌, ◌<◌, ◌&&◌, cond, length, List, [], ◌∷◌, Option, Some, None, is_some, ◌⊎◌, inl, inr, arith}
use Rattle.std.specs.Prelude.{◌==◌, is_none, nat_le, filter, slice_get}
use Rattle.std.specs.List.{list_all, list_any}
use Rattle.std.specs.Option.{option_map_or}
use Rattle.std.proofs.lemmas.Bool.{and_parts, and_from, or_cases}
use Rattle.std.proofs.lemmas.Bool.Decides.{nat_tests}
use Rattle.svc_values.specs.declared.call.Call.{Call}
use Rattle.svc_values.specs.declared.entry.Ltxid.{Ltxid}
use Rattle.svc_values.specs.meaning.Calls.{has_commit}
use Rattle.svc_values.specs.meaning.Identifiers.{same_ltxid}
use Rattle.svc_values.specs.meaning.Same.{same_bool, same_call}
use Rattle.outage_schedule.specs.declared.failure.Failure.{Failure}
use Rattle.outage_schedule.specs.declared.failure.Failure.TheVariants as failure
use Rattle.outage_schedule.specs.declared.request.ShownCall.{ShownCall}
use Rattle.run_clauses.specs.meaning.Copies.{shows_script}
use Rattle.world_model.specs.meaning.Clients.{Doing, Past, Client, client_at}
use Rattle.invariant_laws.specs.Invariant.{Invariant}
use Rattle.invariant_laws.specs.Once.{ends_so, is_open_at, ends_rightly, is_placed, are_placed}
use Rattle.world_model.specs.Parts.{Sending, sendings_of, commit_sendings}
use Rattle.world_model.specs.meaning.Settings.{Setting}
use Rattle.invariant_laws.specs.Shown.{all_from, has_completed, is_from}
use Rattle.world_model.specs.Traced.{Traced, Course, course_over, courses_from, courses_of}
use Rattle.shown_laws.proofs.events.CourseNow.{client_courses}
use Rattle.shown_laws.proofs.events.Lookups.{eq_to, eq_from, ne_to}

-- REQUESTS THAT ARE OVER --------------------------------------------------------------------------

all_past : (test : Course → Bool) (made : Past → Bool) (setting : Setting) (number place : ℕ) (past : List Past) (now : Option Doing) → ((at : ℕ) (one : Past) → test (course_over number at one) ≡ true → made one ≡ true)
    → list_all test (courses_from setting number place past now) ≡ true → list_all made past ≡ true
all_past test made setting number place [] now holds all = refl
all_past test made setting number place (one ∷ past) now holds all =
    let both = and_parts (test (course_over number place one)) (list_all test (courses_from setting number (place + 1) past now)) all in
    and_from (made one) (list_all made past) (holds place one both.0) (all_past test made setting number (place + 1) past now holds both.1)

-- of each of a client, what follows from a test of all courses
pub past_holds : (test : Course → Bool) (made : Past → Bool) (t : Traced) (number : ℕ) (own : Client) → ((at : ℕ) (one : Past) → test (course_over number at one) ≡ true → made one ≡ true)
    → list_all test (courses_of t) ≡ true → client_at t.machine.clients number ≡ Some own → list_all made own.past ≡ true
past_holds test made t zero own holds all here = absurd (let none : ⊥ = cc in none)
past_holds test made t (suc index) own holds all here =
    let same : 1 + index ≡ suc index = omega arith in
    all_past test made t.setting (suc index) 0 own.past own.now holds
    (subst (λ (n : ℕ). list_all test (courses_from t.setting n 0 own.past own.now) ≡ true) same (client_courses test t.setting 1 index t.machine.clients own all here))

-- the courses of requests that are over, the first at this place
abbrev pub courses_over : ℕ → ℕ → List Past → List Course
courses_over client place [] = []
courses_over client place (one ∷ past) = course_over client place one ∷ courses_over client (place + 1) past

only_over : (test : Course → Bool) (setting : Setting) (number place : ℕ) (past : List Past) (now : Option Doing) → list_all test (courses_from setting number place past now) ≡ true → list_all test (courses_over number place past) ≡ true
only_over test setting number place [] now all = refl
only_over test setting number place (one ∷ past) now all =
    let both = and_parts (test (course_over number place one)) (list_all test (courses_from setting number (place + 1) past now)) all in
    and_from (test (course_over number place one)) (list_all test (courses_over number (place + 1) past)) both.0 (only_over test setting number (place + 1) past now both.1)

-- a test of all courses holds of those of a client that are over, each at its place
pub over_hold : (test : Course → Bool) (t : Traced) (number : ℕ) (own : Client) → list_all test (courses_of t) ≡ true → client_at t.machine.clients number ≡ Some own → list_all test (courses_over number 0 own.past) ≡ true
over_hold test t zero own all here = absurd (let none : ⊥ = cc in none)
over_hold test t (suc index) own all here =
    let same : 1 + index ≡ suc index = omega arith in
    only_over test t.setting (suc index) 0 own.past own.now
    (subst (λ (n : ℕ). list_all test (courses_from t.setting n 0 own.past own.now) ≡ true) same (client_courses test t.setting 1 index t.machine.clients own all here))

pub both_hold : {A : Type 0} (one other : A → Bool) (all : List A) → list_all one all ≡ true → list_all other all ≡ true → list_all (λ x. one x && other x) all ≡ true
both_hold one other [] first second = refl
both_hold one other (x ∷ all) first second =
    let here = and_parts (one x) (list_all one all) first in
    let there = and_parts (other x) (list_all other all) second in
    and_from (one x && other x) (list_all (λ x. one x && other x) all) (and_from (one x) (other x) here.0 there.0) (both_hold one other all here.1 there.1)

-- HOW IT ENDED ------------------------------------------------------------------------------------

within : {A : Type 0} (all : List A) (at : ℕ) → is_some (slice_get all at) ≡ true → at < length all
within [] at is = absurd (let none : ⊥ = cc in none)
within (first ∷ all) zero is = omega arith
within (first ∷ all) (suc at) is = let rest : at < length all = within all at is in omega arith

beyond : {A : Type 0} (all : List A) (at : ℕ) → is_none (slice_get all at) ≡ true → length all ≤ at
beyond [] at is = omega arith
beyond (first ∷ all) zero is = absurd (let none : ⊥ = cc in none)
beyond (first ∷ all) (suc at) is = let rest : length all ≤ at = beyond all at is in omega arith

-- no call was shown that its script does not have
shown_within : (completed : Bool) (t : Traced) (course : Course) (index : ℕ) (shown : List ShownCall) → all_from completed t course index shown ≡ true → index ≤ length course.request.calls → index + length shown ≤ length course.request.calls
shown_within completed t course index [] all low = omega arith
shown_within completed t course index (one ∷ shown) all low = by (slice_get course.request.calls index) refl (and_parts (is_from completed t course index (slice_get course.request.calls index) one) (all_from completed t course (index + 1) shown) all)
    (λ rest low_rest. shown_within completed t course (index + 1) shown rest low_rest)
  where
    Rest : Type 0
    Rest = all_from completed t course (index + 1) shown ≡ true → index + 1 ≤ length course.request.calls → index + 1 + length shown ≤ length course.request.calls

    by : (found : Option Call) → slice_get course.request.calls index ≡ found → (is_from completed t course index found one ≡ true) × (all_from completed t course (index + 1) shown ≡ true) → Rest → index + length (one ∷ shown) ≤ length course.request.calls
    by None is both later = absurd (let none : ⊥ = cc in none)
    by (Some call) is both later =
        let here : index < length course.request.calls = within course.request.calls index (ap is_some is) in
        let rest : index + 1 + length shown ≤ length course.request.calls = later both.1 (let low_rest : index + 1 ≤ length course.request.calls = omega (arith, here) in low_rest) in
        omega (arith, rest)

some_of : {A : Type 0} (test : A → Bool) (found : Option A) → option_map_or test found false ≡ true → is_some found ≡ true
some_of test None is = absurd (let none : ⊥ = cc in none)
some_of test (Some one) is = refl

-- a sending of the next call is of a call that is left
open_left : (calls : List Call) (held : List ℕ) (x : Ltxid) (count : ℕ) (all : List Sending) → list_any (is_open_at x count) (filter (λ sending. has_commit sending.call) all) ≡ true → list_all (is_placed calls held) all ≡ true
    → is_some (slice_get calls count) ≡ true
open_left calls held x count [] any placed = absurd (let none : ⊥ = cc in none)
open_left calls held x count (one ∷ all) any placed = by (has_commit one.call) any (λ later. open_left calls held x count all later (and_parts (is_placed calls held one) (list_all (is_placed calls held) all) placed).1)
  where
    both : (is_placed calls held one ≡ true) × (list_all (is_placed calls held) all ≡ true)
    both = and_parts (is_placed calls held one) (list_all (is_placed calls held) all) placed

    Rest : Type 0
    Rest = list_any (is_open_at x count) (filter (λ sending. has_commit sending.call) all) ≡ true → is_some (slice_get calls count) ≡ true

    here : is_open_at x count one ≡ true → is_some (slice_get calls count) ≡ true
    here is =
        let at : one.at ≡ count = eq_from one.at count (and_parts (one.at == count) (is_none one.taken) (and_parts (same_ltxid one.ltxid x) ((one.at == count) && is_none one.taken) is).1).0 in
        subst (λ (n : ℕ). is_some (slice_get calls n) ≡ true) at
        (some_of (same_call one.call) (slice_get calls one.at) (and_parts (option_map_or (same_call one.call) (slice_get calls one.at) false) (list_any (λ number. number == one.connection) held) both.0).0)

    either : Rest → (is_open_at x count one ≡ true) ⊎ (list_any (is_open_at x count) (filter (λ sending. has_commit sending.call) all) ≡ true) → is_some (slice_get calls count) ≡ true
    either rest (inl is) = here is
    either rest (inr later) = rest later

    by : (kept : Bool) → list_any (is_open_at x count) (cond kept (one ∷ filter (λ sending. has_commit sending.call) all) (filter (λ sending. has_commit sending.call) all)) ≡ true → Rest → is_some (slice_get calls count) ≡ true
    by false any rest = rest any
    by true any rest = either rest (or_cases (is_open_at x count one) (list_any (is_open_at x count) (filter (λ sending. has_commit sending.call) all)) any)

-- ALL CALLS, OR A FAILURE -------------------------------------------------------------------------

few_calls : (many all : ℕ) (failed : Bool) → many < all → failed ≡ false → (nat_le many all && same_bool (many == all) failed) ≡ true
few_calls many all failed less is =
    and_from (nat_le many all) (same_bool (many == all) failed) (let below : nat_le many all ≡ true = grind (arith, nat_tests) in below)
    (ap (λ (b : Bool). same_bool b failed) (ne_to many all (λ same. let none : ⊥ = omega (arith, less, same) in none)) ∙ ap (same_bool false) is)

all_calls : (many all : ℕ) (failed : Bool) → many ≡ all → failed ≡ true → (nat_le many all && same_bool (many == all) failed) ≡ true
all_calls many all failed same is =
    and_from (nat_le many all) (same_bool (many == all) failed) (let below : nat_le many all ≡ true = grind (arith, nat_tests) in below)
    (ap (λ (b : Bool). same_bool b failed) (eq_to many all same) ∙ ap (same_bool true) is)

-- what is asked of a request that is over
abbrev shows_so : Traced → Course → Bool
shows_so t course = ends_rightly t.entries course && (are_placed course && all_from (has_completed course) t course 0 course.report.calls)

over_shows : (t : Traced) (number at : ℕ) (one : Past) → shows_so t (course_over number at one) ≡ true → shows_script one.request one.report ≡ true
over_shows t number at one is = by one.report.failed refl (and_parts (ends_so t.entries course one.report.failed) _ ended.0).0
  where
    course : Course
    course = course_over number at one

    ended : (ends_rightly t.entries course ≡ true) × ((are_placed course && all_from (has_completed course) t course 0 one.report.calls) ≡ true)
    ended = and_parts (ends_rightly t.entries course) (are_placed course && all_from (has_completed course) t course 0 one.report.calls) is

    placed : (are_placed course ≡ true) × (all_from (has_completed course) t course 0 one.report.calls ≡ true)
    placed = and_parts (are_placed course) (all_from (has_completed course) t course 0 one.report.calls) ended.1

    low : length one.report.calls ≤ length one.request.calls
    low =
        let none : 0 ≤ length one.request.calls = omega arith in
        let all : 0 + length one.report.calls ≤ length one.request.calls = shown_within (has_completed course) t course 0 one.report.calls placed.1 none in
        omega (arith, all)

    left : is_some (slice_get one.request.calls (length one.report.calls)) ≡ true → is_none one.report.failed ≡ false → shows_script one.request one.report ≡ true
    left some failed = few_calls (length one.report.calls) (length one.request.calls) (is_none one.report.failed) (within one.request.calls (length one.report.calls) some) failed

    by : (failed : Option Failure) → one.report.failed ≡ failed → ends_so t.entries course failed ≡ true → shows_script one.request one.report ≡ true
    by None is ends =
        let high : length one.request.calls ≤ length one.report.calls = beyond one.request.calls (length one.report.calls) ends in
        all_calls (length one.report.calls) (length one.request.calls) (is_none one.report.failed) (let same : length one.report.calls ≡ length one.request.calls = omega (arith, low, high) in same) (ap is_none is)
    by (Some (failure.Incomplete x)) is ends =
        left (open_left one.request.calls _ x (length one.report.calls) (sendings_of course) (and_parts _ (list_any (is_open_at x (length one.report.calls)) (commit_sendings course)) ends).1 placed.0) (ap is_none is)
    by (Some _) is ends = left ends (ap is_none is)

-- Each request that is over shows all calls of its script, or it failed and shows fewer.
pub past_shows : (t : Traced) → Invariant t → (number : ℕ) (own : Client) → client_at t.machine.clients number ≡ Some own → list_all (λ one. shows_script one.request one.report) own.past ≡ true
past_shows t inv number own here =
    past_holds (shows_so t) (λ one. shows_script one.request one.report) t number own (over_shows t number)
    (both_hold (ends_rightly t.entries) (λ course. are_placed course && all_from (has_completed course) t course 0 course.report.calls) (courses_of t) inv.once.ended
    (both_hold are_placed (λ course. all_from (has_completed course) t course 0 course.report.calls) (courses_of t) inv.once.placed inv.shown.shown))
    here
