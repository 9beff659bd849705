-- What the invariant says of idle connections and of those that requests have, one by one.
use Rattle.std.proofs.Common.{◌≡◌, refl, sym, subst, ◌∙◌, Bool, true, false, ℕ, suc, zero, ◌+◌, ◌≤◌, ◌&&◌, cond, length, List, [], ◌∷◌, count_by, Option, Some, None, if◌then◌else◌, arith, le_refl}
use Rattle.std.specs.Prelude.{◌==◌, not, nat_le, slice_get, is_some}
use Rattle.std.specs.List.{list_all}
use Rattle.std.specs.Option.{option_map_or}
use Rattle.std.proofs.lemmas.Bool.{and_parts, and_from}
use Rattle.std.proofs.lemmas.Bool.Decides.{nat_tests}
use Rattle.std.proofs.lemmas.List.Sums.{sum_by-cons}
use Rattle.std.proofs.lemmas.List.Folds.{list_all-append}
use Rattle.svc_values.specs.meaning.Same.{same_bool}
use Rattle.pool_core.specs.meaning.Slots.{drains}
use Rattle.world_model.specs.meaning.Settings.{Setting}
use Rattle.world_model.specs.meaning.Links.{Link, link_at}
use Rattle.world_model.specs.meaning.Clients.{Past, Doing, Client, client_at}
use Rattle.world_model.specs.Traced.{Traced, Course, course_now, courses_from, courses_of_clients, courses_of}
use Rattle.world_model.specs.records.Hold.{holders_of, idle_of, is_had, are_had, is_idle, holds_connection, waits_on, is_held}
use Rattle.world_model.specs.Orderly.{Orderly}
use Rattle.world_model.specs.Parts.{Numbered, numbered_from}
use Rattle.world_model.specs.Sames.{all_with, each_pair}
use Rattle.world_model.proofs.events.Tests.{eq_from, eq_to, le_from, le_to}
use Rattle.world_model.proofs.events.AllLists.{weaker_all}
use Rattle.world_model.proofs.events.Happened.{at_event}
use Rattle.world_model.proofs.script.Strangers.{doing_ready, slot_strange}
use Rattle.world_model.proofs.wire.SentLinks.{differ, passes_at, IsHeld}

-- BY NUMBER ---------------------------------------------------------------------------------------

-- what holds of each connection with its number
pub numbered_at : (test : Numbered → Bool) (start : ℕ) (links : List Link) (index number : ℕ) (link : Link) → number ≡ start + index → list_all test (numbered_from start links) ≡ true → slice_get links index ≡ Some link
    → test (record { number = number; link = link }) ≡ true
numbered_at test start [] index number link same all is = absurd (let none : ⊥ = cc in none)
numbered_at test start (first ∷ links) zero number link same all is =
    let here : first ≡ link = cc in
    let now : start ≡ number = omega arith in
    subst (λ (one : Link). test (record { number = number; link = one }) ≡ true) here
    (subst (λ (n : ℕ). test (record { number = n; link = first }) ≡ true) now (and_parts (test (record { number = start; link = first })) (list_all test (numbered_from (start + 1) links)) all).0)
numbered_at test start (first ∷ links) (suc index) number link same all is =
    let now : number ≡ (start + 1) + index = omega arith in
    numbered_at test (start + 1) links index number link now (and_parts (test (record { number = start; link = first })) (list_all test (numbered_from (start + 1) links)) all).1 is

-- what holds of each request, of the one in course
course_in : (test : Course → Bool) (setting : Setting) (client place at : ℕ) (past : List Past) (now : Option Doing) (doing : Doing) → at ≡ place + length past → list_all test (courses_from setting client place past now) ≡ true
    → now ≡ Some doing → test (course_now setting client at doing) ≡ true
course_in test setting client place at [] None doing same all is = absurd (let none : ⊥ = cc in none)
course_in test setting client place at [] (Some one) doing same all is =
    let here : one ≡ doing = cc in
    let now : place ≡ at = omega arith in
    subst (λ (d : Doing). test (course_now setting client at d) ≡ true) here
    (subst (λ (n : ℕ). test (course_now setting client n one) ≡ true) now (and_parts (test (course_now setting client place one)) true all).0)
course_in test setting client place at (one ∷ past) now doing same all is =
    let next : at ≡ (place + 1) + length past = omega arith in
    course_in test setting client (place + 1) at past now doing next (and_parts (test _) (list_all test (courses_from setting client (place + 1) past now)) all).1 is

course_at : (test : Course → Bool) (setting : Setting) (start : ℕ) (clients : List Client) (index number : ℕ) (client : Client) (doing : Doing) → number ≡ start + index
    → list_all test (courses_of_clients setting start clients) ≡ true → slice_get clients index ≡ Some client → client.now ≡ Some doing → test (course_now setting number (length client.past) doing) ≡ true
course_at test setting start [] index number client doing same all is now = absurd (let none : ⊥ = cc in none)
course_at test setting start (first ∷ clients) zero number client doing same all is now =
    let here : first ≡ client = cc in
    let at : start ≡ number = omega arith in
    let split : (list_all test (courses_from setting start 0 first.past first.now) && list_all test (courses_of_clients setting (start + 1) clients)) ≡ true =
    sym (list_all-append test (courses_from setting start 0 first.past first.now) (courses_of_clients setting (start + 1) clients)) ∙ all in
    let mine : list_all test (courses_from setting start 0 first.past first.now) ≡ true =
    (and_parts (list_all test (courses_from setting start 0 first.past first.now)) (list_all test (courses_of_clients setting (start + 1) clients)) split).0 in
    let long : length client.past ≡ 0 + length client.past = omega arith in
    course_in test setting number 0 (length client.past) client.past client.now doing long
    (subst (λ (n : ℕ). list_all test (courses_from setting n 0 client.past client.now) ≡ true) at
    (subst (λ (c : Client). list_all test (courses_from setting start 0 c.past c.now) ≡ true) here mine)) now
course_at test setting start (first ∷ clients) (suc index) number client doing same all is now =
    let next : number ≡ (start + 1) + index = omega arith in
    let split : (list_all test (courses_from setting start 0 first.past first.now) && list_all test (courses_of_clients setting (start + 1) clients)) ≡ true =
    sym (list_all-append test (courses_from setting start 0 first.past first.now) (courses_of_clients setting (start + 1) clients)) ∙ all in
    course_at test setting (start + 1) clients index number client doing next
    (and_parts (list_all test (courses_from setting start 0 first.past first.now)) (list_all test (courses_of_clients setting (start + 1) clients)) split).1 is now

-- of the client of this number
pub doing_course : (test : Course → Bool) (t : Traced) (number : ℕ) (client : Client) (doing : Doing) → list_all test (courses_of t) ≡ true → client_at t.machine.clients number ≡ Some client → client.now ≡ Some doing
    → test (course_now t.setting number (length client.past) doing) ≡ true
doing_course test t zero client doing all is now = absurd (let none : ⊥ = cc in none)
doing_course test t (suc index) client doing all is now =
    let same : suc index ≡ 1 + index = omega arith in course_at test t.setting 1 t.machine.clients index (suc index) client doing same all is now

-- IDLE CONNECTIONS --------------------------------------------------------------------------------

eq_flipped : (a b : ℕ) → (b == a) ≡ false → differ a b ≡ true
eq_flipped a b is = grind (arith, nat_tests)

one_less : (test : Bool) (number other : ℕ) (count : ℕ) → (other == number) ≡ test → cond test 1 0 + count ≡ 0 → (differ number other ≡ true) × (count ≡ 0)
one_less true number other count is split = absurd (let never : ⊥ = omega arith in never)
one_less false number other count is split = let none : count ≡ 0 = omega arith in (eq_flipped number other is, none)

pub no_more : (number : ℕ) (numbers : List ℕ) → count_by (λ other. other == number) numbers ≡ 0 → all_with (differ number) numbers ≡ true
no_more number [] none = refl
no_more number (other ∷ numbers) none =
    let parts = one_less (other == number) number other (count_by (λ one. one == number) numbers) refl (sym (sum_by-cons (λ (one : ℕ). cond (one == number) 1 0) other numbers) ∙ none) in
    and_from (differ number other) (all_with (differ number) numbers) parts.0 (no_more number numbers parts.1)

pub counted_self : (test : Bool) (count : ℕ) → test ≡ true → cond test 1 0 + count ≡ count + 1
counted_self true count is = omega arith
counted_self false count is = absurd (let never : ⊥ = cc in never)

-- numbers of which each is there once are apart
apart_by : (numbers all : List ℕ) → ((number : ℕ) → count_by (λ other. other == number) numbers ≤ count_by (λ other. other == number) all)
    → list_all (λ number. nat_le (count_by (λ other. other == number) all) 1) numbers ≡ true → each_pair differ numbers ≡ true
apart_by [] all fewer once = refl
apart_by (number ∷ numbers) all fewer once =
    let parts = and_parts (nat_le (count_by (λ other. other == number) all) 1) (list_all (λ one. nat_le (count_by (λ other. other == one) all) 1) numbers) once in
    let most : count_by (λ other. other == number) all ≤ 1 = le_from (count_by (λ other. other == number) all) 1 parts.0 in
    let here : count_by (λ other. other == number) (number ∷ numbers) ≤ count_by (λ other. other == number) all = fewer number in
    let split : count_by (λ other. other == number) (number ∷ numbers) ≡ cond (number == number) 1 0 + count_by (λ other. other == number) numbers = sum_by-cons (λ (one : ℕ). cond (one == number) 1 0) number numbers in
    let self : cond (number == number) 1 0 + count_by (λ other. other == number) numbers ≡ count_by (λ other. other == number) numbers + 1 = counted_self (number == number) (count_by (λ other. other == number) numbers) (eq_to number number refl) in
    let none : count_by (λ other. other == number) numbers ≡ 0 = omega arith in
    and_from (all_with (differ number) numbers) (each_pair differ numbers) (no_more number numbers none)
    (apart_by numbers all
    (λ other.
    let more : count_by (λ (n : ℕ). n == other) (number ∷ numbers) ≤ count_by (λ (n : ℕ). n == other) all = fewer other in
    let first : count_by (λ (n : ℕ). n == other) (number ∷ numbers) ≡ cond (number == other) 1 0 + count_by (λ (n : ℕ). n == other) numbers = sum_by-cons (λ (n : ℕ). cond (n == other) 1 0) number numbers in
    omega arith)
    parts.1)

idle_count : (opens : Bool) (holders idle : ℕ) → opens ≡ true → (if opens then holders + idle == 1 else ((idle == 0) && nat_le holders 1)) ≡ true → nat_le idle 1 ≡ true
idle_count true holders idle is had = let sum : holders + idle ≡ 1 = eq_from (holders + idle) 1 had in le_to idle 1 (omega arith)
idle_count false holders idle is had = absurd (let never : ⊥ = cc in never)

once_by : (t : Traced) (index : ℕ) (found : Option Link) → slice_get t.machine.links index ≡ found → are_had t ≡ true → option_map_or is_idle found false ≡ true → nat_le (idle_of t (suc index)) 1 ≡ true
once_by t index None is had idle = absurd (let never : ⊥ = cc in never)
once_by t index (Some link) is had idle =
    let same : suc index ≡ 1 + index = omega arith in
    idle_count link.is_open (holders_of (courses_of t) (suc index)) (idle_of t (suc index)) (and_parts link.is_open _ idle).0
    (numbered_at (is_had t (courses_of t)) 1 t.machine.links index (suc index) link same had is)

idle_once : (t : Traced) (number : ℕ) → are_had t ≡ true → passes_at is_idle t.machine.links number ≡ true → nat_le (idle_of t number) 1 ≡ true
idle_once t zero had idle = absurd (let never : ⊥ = cc in never)
idle_once t (suc index) had idle = once_by t index (slice_get t.machine.links index) refl had idle

-- WHAT IS HELD ------------------------------------------------------------------------------------

found_waits : (t : Traced) (course : Course) (connection : Option ℕ) (number : ℕ) (link : Link) → connection ≡ Some number → link_at t.machine.links number ≡ Some link
    → option_map_or (λ n. option_map_or (waits_on course) (link_at t.machine.links n) false) connection true ≡ true → waits_on course link ≡ true
found_waits t course connection number link has there waits =
    let one : option_map_or (waits_on course) (link_at t.machine.links number) false ≡ true =
    subst (λ (c : Option ℕ). option_map_or (λ n. option_map_or (waits_on course) (link_at t.machine.links n) false) c true ≡ true) has waits in
    subst (λ (found : Option Link). option_map_or (waits_on course) found false ≡ true) there one

pub held_now : (t : Traced) → Orderly t → IsHeld t.setting (at_event t.machine)
held_now t inv = record {
  idle = idle;
  apart = apart_by t.machine.pool.idle t.machine.pool.idle (λ number. le_refl (count_by (λ other. other == number) t.machine.pool.idle))
      (weaker_all (passes_at is_idle t.machine.links) (λ number. nat_le (idle_of t number) 1) t.machine.pool.idle (λ number here. idle_once t number inv.hold.had here) idle);
  out = λ number client doing connection link is now has there.
      let course : Course = course_now t.setting number (length client.past) doing in
      let held : is_held t course ≡ true = doing_course (is_held t) t number client doing inv.hold.held is now in
      found_waits t course doing.connection connection link has there (and_parts (same_bool (is_some doing.connection) (holds_connection doing.talk.phase)) _ held).1;
  ready = λ number doing wanted is. doing_ready t.setting (at_event t.machine) number doing wanted inv.script.ready is;
  strange = λ number doing connection link is there. slot_strange t (at_event t.machine) number doing connection link refl refl inv.script.ready inv.script.owned is there;
}
  where
    idle : list_all (passes_at is_idle t.machine.links) t.machine.pool.idle ≡ true
    idle = weaker_all (λ number. passes_at is_idle t.machine.links number && not (drains t.machine.pool number)) (passes_at is_idle t.machine.links) t.machine.pool.idle
        (λ number here. (and_parts (passes_at is_idle t.machine.links number) (not (drains t.machine.pool number)) here).0) inv.hold.idle
