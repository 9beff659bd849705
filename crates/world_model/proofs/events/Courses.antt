-- A test over all requests, from each client; and no two clients have one connection.
use Rattle.std.proofs.Common.{◌≡◌, ◌≢◌, refl, ap, subst, ◌∙◌, Bool, true, false, ℕ, suc, zero, ◌+◌, ◌≤◌, ◌&&◌, cond, length, List, [], ◌∷◌, ◌++◌, count_by, Option, Some, None, if◌then◌else◌, arith}
use Rattle.std.specs.Prelude.{◌==◌, nat_le, slice_get}
use Rattle.std.specs.List.{list_all}
use Rattle.std.specs.Option.{option_map_or}
use Rattle.std.proofs.lemmas.Bool.{and_parts, and_from}
use Rattle.std.proofs.lemmas.List.Sums.{sum_by-cons, sum_by-append}
use Rattle.world_model.specs.meaning.Settings.{Setting}
use Rattle.world_model.specs.meaning.Links.{Link, link_at}
use Rattle.world_model.specs.meaning.Clients.{Past, Doing, Client, client_at}
use Rattle.world_model.specs.Traced.{Traced, Course, course_over, course_now, courses_from, courses_of_clients, courses_of}
use Rattle.world_model.specs.records.Hold.{holders_of, idle_of, is_had, are_had}
use Rattle.world_model.proofs.events.Tests.{eq_from, eq_to, le_from}
use Rattle.world_model.proofs.events.AllLists.{append_all}
use Rattle.world_model.proofs.hold.Held.{numbered_at}

-- EACH REQUEST ------------------------------------------------------------------------------------

module _ (test : Course → Bool) (setting : Setting) (over : (client place : ℕ) (past : Past) → test (course_over client place past) ≡ true) where
  from_each : (client place : ℕ) (past : List Past) (now : Option Doing) → ((doing : Doing) → now ≡ Some doing → test (course_now setting client (place + length past) doing) ≡ true)
      → list_all test (courses_from setting client place past now) ≡ true
  from_each client place [] None each = refl
  from_each client place [] (Some doing) each =
      let same : place + 0 ≡ place = omega arith in
      and_from (test (course_now setting client place doing)) true (subst (λ (n : ℕ). test (course_now setting client n doing) ≡ true) same (each doing refl)) refl
  from_each client place (one ∷ past) now each =
      let same : place + length (one ∷ past) ≡ (place + 1) + length past = omega arith in
      and_from (test (course_over client place one)) (list_all test (courses_from setting client (place + 1) past now)) (over client place one)
      (from_each client (place + 1) past now (λ doing is. subst (λ (n : ℕ). test (course_now setting client n doing) ≡ true) same (each doing is)))

  clients_each : (start : ℕ) (clients : List Client)
      → ((index number : ℕ) (client : Client) (doing : Doing) → number ≡ start + index → slice_get clients index ≡ Some client → client.now ≡ Some doing → test (course_now setting number (length client.past) doing) ≡ true)
      → list_all test (courses_of_clients setting start clients) ≡ true
  clients_each start [] each = refl
  clients_each start (client ∷ clients) each =
      let here : start ≡ start + 0 = omega arith in
      let plain : length client.past ≡ 0 + length client.past = omega arith in
      append_all test (courses_from setting start 0 client.past client.now) (courses_of_clients setting (start + 1) clients)
      (from_each start 0 client.past client.now (λ doing now. subst (λ (n : ℕ). test (course_now setting start n doing) ≡ true) plain (each zero start client doing here refl now)))
      (clients_each (start + 1) clients (λ index number one doing same is now. let next : number ≡ start + suc index = omega arith in each (suc index) number one doing next is now))

-- what holds of the request in course of each client
pub all_courses_by : (test : Course → Bool) (t : Traced) → ((client place : ℕ) (past : Past) → test (course_over client place past) ≡ true)
    → ((number : ℕ) (client : Client) (doing : Doing) → client_at t.machine.clients number ≡ Some client → client.now ≡ Some doing → test (course_now t.setting number (length client.past) doing) ≡ true)
    → list_all test (courses_of t) ≡ true
all_courses_by test t over each =
    clients_each test t.setting over 1 t.machine.clients
    (λ index number client doing same is now.
    let at : suc index ≡ number = omega arith in
    each number client doing (subst (λ (n : ℕ). client_at t.machine.clients n ≡ Some client) at is) now)

-- APART -------------------------------------------------------------------------------------------

module _ (setting : Setting) (connection : ℕ) where
  -- it has the connection
  abbrev has : Course → Bool
  has course = option_map_or (λ other. other == connection) course.connection false

  abbrev count_has : List Course → ℕ
  count_has courses = count_by has courses

  split : (xs ys : List Course) → count_has (xs ++ ys) ≡ count_has xs + count_has ys
  split xs ys = sum_by-append (λ (course : Course). cond (has course) 1 0) xs ys

  mine : (doing : Doing) → doing.connection ≡ Some connection → option_map_or (λ other. other == connection) doing.connection false ≡ true
  mine doing is = ap (λ (one : Option ℕ). option_map_or (λ other. other == connection) one false) is ∙ eq_to connection connection refl

  one_count : (test : Bool) (count : ℕ) → test ≡ true → 1 ≤ cond test 1 0 + count
  one_count true count is = omega arith
  one_count false count is = absurd (let none : ⊥ = cc in none)

  more_count : (test : Bool) (count : ℕ) → 1 ≤ count → 1 ≤ cond test 1 0 + count
  more_count true count below = omega arith
  more_count false count below = omega arith

  in_course : (client place : ℕ) (past : List Past) (now : Option Doing) (doing : Doing) → now ≡ Some doing → doing.connection ≡ Some connection → 1 ≤ count_has (courses_from setting client place past now)
  in_course client place [] None doing is held = absurd (let none : ⊥ = cc in none)
  in_course client place [] (Some one) doing is held =
      let same : one ≡ doing = cc in
      let first : count_has (course_now setting client place one ∷ []) ≡ cond (has (course_now setting client place one)) 1 0 + count_has [] = sum_by-cons (λ (course : Course). cond (has course) 1 0) (course_now setting client place one) [] in
      let here : has (course_now setting client place one) ≡ true = ap (λ (d : Doing). option_map_or (λ other. other == connection) d.connection false) same ∙ mine doing held in
      let most : 1 ≤ cond (has (course_now setting client place one)) 1 0 + count_has [] = one_count (has (course_now setting client place one)) (count_has []) here in
      omega arith
  in_course client place (one ∷ past) now doing is held =
      let rest : List Course = courses_from setting client (place + 1) past now in
      let first : count_has (course_over client place one ∷ rest) ≡ cond (has (course_over client place one)) 1 0 + count_has rest = sum_by-cons (λ (course : Course). cond (has course) 1 0) (course_over client place one) rest in
      let most : 1 ≤ cond (has (course_over client place one)) 1 0 + count_has rest = more_count (has (course_over client place one)) (count_has rest) (in_course client (place + 1) past now doing is held) in
      omega arith

  some_has : (start : ℕ) (clients : List Client) (index : ℕ) (client : Client) (doing : Doing) → slice_get clients index ≡ Some client → client.now ≡ Some doing → doing.connection ≡ Some connection
      → 1 ≤ count_has (courses_of_clients setting start clients)
  some_has start [] index client doing is now held = absurd (let none : ⊥ = cc in none)
  some_has start (first ∷ clients) zero client doing is now held =
      let same : first ≡ client = cc in
      let all : count_has (courses_from setting start 0 first.past first.now ++ courses_of_clients setting (start + 1) clients) ≡ count_has (courses_from setting start 0 first.past first.now) + count_has (courses_of_clients setting (start + 1) clients)
      = split (courses_from setting start 0 first.past first.now) (courses_of_clients setting (start + 1) clients) in
      let here : 1 ≤ count_has (courses_from setting start 0 first.past first.now) = in_course start 0 first.past first.now doing (ap (λ (c : Client). c.now) same ∙ now) held in
      omega arith
  some_has start (first ∷ clients) (suc index) client doing is now held =
      let all : count_has (courses_from setting start 0 first.past first.now ++ courses_of_clients setting (start + 1) clients) ≡ count_has (courses_from setting start 0 first.past first.now) + count_has (courses_of_clients setting (start + 1) clients)
      = split (courses_from setting start 0 first.past first.now) (courses_of_clients setting (start + 1) clients) in
      let later : 1 ≤ count_has (courses_of_clients setting (start + 1) clients) = some_has (start + 1) clients index client doing is now held in
      omega arith

  two_have : (start : ℕ) (clients : List Client) (i j : ℕ) (a b : Client) (one other : Doing) → i ≢ j → slice_get clients i ≡ Some a → slice_get clients j ≡ Some b → a.now ≡ Some one → b.now ≡ Some other
      → one.connection ≡ Some connection → other.connection ≡ Some connection → 2 ≤ count_has (courses_of_clients setting start clients)
  two_have start [] i j a b one other differ is at now also held has_it = absurd (let none : ⊥ = cc in none)
  two_have start (first ∷ clients) zero zero a b one other differ is at now also held has_it = absurd (differ refl)
  two_have start (first ∷ clients) zero (suc j) a b one other differ is at now also held has_it =
      let same : first ≡ a = cc in
      let all : count_has (courses_from setting start 0 first.past first.now ++ courses_of_clients setting (start + 1) clients) ≡ count_has (courses_from setting start 0 first.past first.now) + count_has (courses_of_clients setting (start + 1) clients)
      = split (courses_from setting start 0 first.past first.now) (courses_of_clients setting (start + 1) clients) in
      let here : 1 ≤ count_has (courses_from setting start 0 first.past first.now) = in_course start 0 first.past first.now one (ap (λ (c : Client). c.now) same ∙ now) held in
      let later : 1 ≤ count_has (courses_of_clients setting (start + 1) clients) = some_has (start + 1) clients j b other at also has_it in
      omega arith
  two_have start (first ∷ clients) (suc i) zero a b one other differ is at now also held has_it =
      let same : first ≡ b = cc in
      let all : count_has (courses_from setting start 0 first.past first.now ++ courses_of_clients setting (start + 1) clients) ≡ count_has (courses_from setting start 0 first.past first.now) + count_has (courses_of_clients setting (start + 1) clients)
      = split (courses_from setting start 0 first.past first.now) (courses_of_clients setting (start + 1) clients) in
      let here : 1 ≤ count_has (courses_from setting start 0 first.past first.now) = in_course start 0 first.past first.now other (ap (λ (c : Client). c.now) same ∙ also) has_it in
      let later : 1 ≤ count_has (courses_of_clients setting (start + 1) clients) = some_has (start + 1) clients i a one is now held in
      omega arith
  two_have start (first ∷ clients) (suc i) (suc j) a b one other differ is at now also held has_it =
      let all : count_has (courses_from setting start 0 first.past first.now ++ courses_of_clients setting (start + 1) clients) ≡ count_has (courses_from setting start 0 first.past first.now) + count_has (courses_of_clients setting (start + 1) clients)
      = split (courses_from setting start 0 first.past first.now) (courses_of_clients setting (start + 1) clients) in
      let later : 2 ≤ count_has (courses_of_clients setting (start + 1) clients) = two_have (start + 1) clients i j a b one other (λ e. differ (ap suc e)) is at now also held has_it in
      omega arith

-- HAD ---------------------------------------------------------------------------------------------

-- a connection is one request's at most, and is not idle then
pub record IsHad (t : Traced) (number : ℕ) : Type 0 where
  pub holders : holders_of (courses_of t) number ≤ 1
  pub either : holders_of (courses_of t) number + idle_of t number ≤ 1

pub had_by : (opens : Bool) (holders idle : ℕ) → (if opens then holders + idle == 1 else ((idle == 0) && nat_le holders 1)) ≡ true → holders + idle ≤ 1
had_by true holders idle had = let sum : holders + idle ≡ 1 = eq_from (holders + idle) 1 had in omega arith
had_by false holders idle had =
    let parts = and_parts (idle == 0) (nat_le holders 1) had in
    let none : idle ≡ 0 = eq_from idle 0 parts.0 in
    let most : holders ≤ 1 = le_from holders 1 parts.1 in
    omega arith

pub is_had_at : (t : Traced) (number : ℕ) (link : Link) → are_had t ≡ true → link_at t.machine.links number ≡ Some link → IsHad t number
is_had_at t zero link had is = absurd (let none : ⊥ = cc in none)
is_had_at t (suc index) link had is =
    let same : suc index ≡ 1 + index = omega arith in
    let most : holders_of (courses_of t) (suc index) + idle_of t (suc index) ≤ 1 =
    had_by link.is_open (holders_of (courses_of t) (suc index)) (idle_of t (suc index)) (numbered_at (is_had t (courses_of t)) 1 t.machine.links index (suc index) link same had is) in
    record { holders = omega arith; either = most }

-- two clients have no connection in common
pub clients_apart : (t : Traced) (connection : ℕ) (link : Link) (i j : ℕ) (a b : Client) (one other : Doing) → are_had t ≡ true → link_at t.machine.links connection ≡ Some link → i ≢ j → client_at t.machine.clients i ≡ Some a
    → client_at t.machine.clients j ≡ Some b → a.now ≡ Some one → b.now ≡ Some other → one.connection ≡ Some connection → other.connection ≡ Some connection → ⊥
clients_apart t connection link zero j a b one other had there differ is at now also held has_it = let never : ⊥ = cc in never
clients_apart t connection link (suc i) zero a b one other had there differ is at now also held has_it = let never : ⊥ = cc in never
clients_apart t connection link (suc i) (suc j) a b one other had there differ is at now also held has_it =
    let most : holders_of (courses_of t) connection ≤ 1 = (is_had_at t connection link had there).holders in
    let two : 2 ≤ holders_of (courses_of t) connection = two_have t.setting connection 1 t.machine.clients i j a b one other (λ e. differ (ap suc e)) is at now also held has_it in
    let never : ⊥ = omega arith in never

-- the connection of a request is not idle
pub held_busy : (t : Traced) (connection : ℕ) (link : Link) (i : ℕ) (a : Client) (one : Doing) → are_had t ≡ true → link_at t.machine.links connection ≡ Some link → client_at t.machine.clients i ≡ Some a → a.now ≡ Some one
    → one.connection ≡ Some connection → idle_of t connection ≡ 0
held_busy t connection link zero a one had there is now held = absurd (let never : ⊥ = cc in never)
held_busy t connection link (suc i) a one had there is now held =
    let most : holders_of (courses_of t) connection + idle_of t connection ≤ 1 = (is_had_at t connection link had there).either in
    let some : 1 ≤ holders_of (courses_of t) connection = some_has t.setting connection 1 t.machine.clients i a one is now held in
    omega arith
