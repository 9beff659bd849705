-- What the invariant says of each request holds of the one that a client is at.
use Rattle.std.proofs.Common.{◌≡◌, refl, sym, ap, subst, ◌∙◌, Bool, true, ℕ, zero, suc, ◌+◌, ◌&&◌, length, List, [], ◌∷◌, ◌++◌, Option, Some, None, add-zero, arith}
use Rattle.std.specs.Prelude.{slice_get, option_map}
use Rattle.std.specs.List.{list_all}
use Rattle.std.specs.Option.{option_or}
use Rattle.std.proofs.lemmas.Bool.{and_parts}
use Rattle.client_model.specs.declared.input.Wants.{Wants}
use Rattle.client_model.specs.declared.input.Wants.TheVariants as wants
use Rattle.client_model.specs.meaning.Talk.{wants_of}
use Rattle.client_model.specs.meaning.Terms.{Terms}
use Rattle.outage_schedule.specs.declared.document.Request.{Request}
use Rattle.world_model.specs.meaning.Clients.{Doing, Past, Client, client_at, begun}
use Rattle.world_model.specs.meaning.Settings.{Setting}
use Rattle.world_model.specs.Traced.{Traced, Course, course_now, courses_from, courses_of_clients, courses_of}

left_all : (test : Course → Bool) (courses more : List Course) → list_all test (courses ++ more) ≡ true → (list_all test courses ≡ true) × (list_all test more ≡ true)
left_all test [] more all = (refl, all)
left_all test (one ∷ courses) more all =
    let parts = and_parts (test one) (list_all test (courses ++ more)) all in
    let rest = left_all test courses more parts.1 in
    (ap (λ (b : Bool). b && list_all test courses) parts.0 ∙ rest.0, rest.1)

last_course : (test : Course → Bool) (setting : Setting) (number place : ℕ) (past : List Past) (doing : Doing) → list_all test (courses_from setting number place past (Some doing)) ≡ true → test (course_now setting number (place + length past) doing) ≡ true
last_course test setting number place [] doing all =
    subst (λ (at : ℕ). test (course_now setting number at doing) ≡ true) (sym (add-zero place)) (and_parts (test (course_now setting number place doing)) true all).0
last_course test setting number place (one ∷ past) doing all =
    let same : (place + 1) + length past ≡ place + length (one ∷ past) = omega arith in
    subst (λ (at : ℕ). test (course_now setting number at doing) ≡ true) same (last_course test setting number (place + 1) past doing (and_parts (test _) (list_all test (courses_from setting number (place + 1) past (Some doing))) all).1)

pub client_courses : (test : Course → Bool) (setting : Setting) (number index : ℕ) (clients : List Client) (client : Client) → list_all test (courses_of_clients setting number clients) ≡ true → slice_get clients index ≡ Some client
    → list_all test (courses_from setting (number + index) 0 client.past client.now) ≡ true
client_courses test setting number index [] client all is = absurd (let none : ⊥ = cc in none)
client_courses test setting number zero (first ∷ clients) client all is =
    let same : first ≡ client = cc in
    subst (λ (n : ℕ). list_all test (courses_from setting n 0 client.past client.now) ≡ true) (sym (add-zero number))
    (subst (λ (c : Client). list_all test (courses_from setting number 0 c.past c.now) ≡ true) same (left_all test (courses_from setting number 0 first.past first.now) (courses_of_clients setting (number + 1) clients) all).0)
client_courses test setting number (suc index) (first ∷ clients) client all is =
    let same : (number + 1) + index ≡ number + suc index = omega arith in
    subst (λ (n : ℕ). list_all test (courses_from setting n 0 client.past client.now) ≡ true) same
    (client_courses test setting (number + 1) index clients client (left_all test (courses_from setting number 0 first.past first.now) (courses_of_clients setting (number + 1) clients) all).1 is)

-- of the request that the client of this number is at
pub course_holds : (test : Course → Bool) (t : Traced) (number : ℕ) (client : Client) (doing : Doing) → list_all test (courses_of t) ≡ true → client_at t.machine.clients number ≡ Some client → client.now ≡ Some doing
    → test (course_now t.setting number (length client.past) doing) ≡ true
course_holds test t zero client doing all here now = absurd (let none : ⊥ = cc in none)
course_holds test t (suc index) client doing all here now =
    let same : 1 + index ≡ suc index = omega arith in
    let its : list_all test (courses_from t.setting (suc index) 0 client.past (Some doing)) ≡ true =
    subst (λ (found : Option Doing). list_all test (courses_from t.setting (suc index) 0 client.past found) ≡ true) now
    (subst (λ (n : ℕ). list_all test (courses_from t.setting n 0 client.past client.now) ≡ true) same (client_courses test t.setting 1 index t.machine.clients client all here)) in
    let zero_more : 0 + length client.past ≡ length client.past = omega arith in
    subst (λ (at : ℕ). test (course_now t.setting (suc index) at doing) ≡ true) zero_more (last_course test t.setting (suc index) 0 client.past doing its)

-- NEW OR OLD --------------------------------------------------------------------------------------

-- A request that began in this event wants a slot: one that wants something else was there before.
pub was_there : (terms : Terms) (event tick : ℕ) (wanted : Wants) (now : Option Doing) (next : Option Request) (doing : Doing) → option_or now (option_map (begun terms event tick) next) ≡ Some doing → wants_of terms doing.talk tick ≡ wanted
    → (wants.Slot ≡ wanted → ⊥) → now ≡ Some doing
was_there terms event tick wanted (Some one) next doing is wants other = is
was_there terms event tick wanted None None doing is wants other = absurd (let none : ⊥ = cc in none)
was_there terms event tick wanted None (Some request) doing is wants other =
    let same : begun terms event tick request ≡ doing = cc in
    absurd (other (sym (ap (λ (d : Doing). wants_of terms d.talk tick) (sym same)) ∙ wants))
