-- The course of a request is that of the request at its place, with the report that its steps give.
use Rattle.std.proofs.Common.{◌≡◌, refl, sym, ap, subst, ◌∙◌, ℕ, zero, suc, ◌+◌, List, [], ◌∷◌, ◌++◌, map, Option, Some, None, ◌⊎◌, inl, inr, arith}
use Rattle.std.specs.Prelude.{slice_get}
use Rattle.std.specs.Option.{option_map_or}
use Rattle.run_clauses.specs.meaning.Reports.{report_of}
use Rattle.world_model.specs.meaning.Clients.{Doing, Past, Client, client_at}
use Rattle.world_model.specs.records.Conversing.{AreThrough, IsThrough}
use Rattle.invariant_laws.specs.Invariant.{Invariant}
use Rattle.world_model.specs.meaning.Settings.{Setting}
use Rattle.world_model.specs.Traced.{Traced, Course, course_now, course_over, courses_from, courses_of_clients, courses_of}
use Rattle.world_model.specs.Words.{dones_of}
use Rattle.shown_laws.specs.ByPlace.{RequestSteps, over_so, doing_so, requests_by_place, IsRequestOf}
use Rattle.shown_laws.specs.Submitted.{submission_of, submission_so_far}
use Rattle.shown_laws.proofs.steps.BeforeSession.{talks_at}
use Rattle.shown_laws.proofs.events.Places.{get_either}
use Rattle.shown_laws.proofs.steps.RequestsOver.{over_there, through_at}

-- the request of a course, with the report that its steps give
pub record IsCourseOf (t : Traced) (course : Course) : Type 0 where
  pub request : IsRequestOf t.machine.clients course.owner (record { request = course.request; steps = course.steps })
  pub report : report_of t.setting.terms course.request (dones_of course.steps) ≡ course.report

record IsFrom (setting : Setting) (client place : ℕ) (past : List Past) (now : Option Doing) (course : Course) : Type 0 where
  index : ℕ
  client_is : course.owner.client ≡ client
  place_is : course.owner.place ≡ place + index
  at : slice_get (map over_so past ++ option_map_or (λ doing. doing_so doing ∷ []) now []) index ≡ Some (record { request = course.request; steps = course.steps })
  report : report_of setting.terms course.request (dones_of course.steps) ≡ course.report

course_from : (setting : Setting) (client place : ℕ) (past : List Past) (now : Option Doing) (index : ℕ) (course : Course) → AreThrough setting.terms past → slice_get (courses_from setting client place past now) index ≡ Some course → IsFrom setting client place past now course
course_from setting client place [] None index course through at = absurd (let none : ⊥ = cc in none)
course_from setting client place [] (Some doing) zero course through at =
    let same : course_now setting client place doing ≡ course = cc in
    subst (IsFrom setting client place [] (Some doing)) same (record { index = 0; client_is = refl; place_is = omega arith; at = refl; report = refl })
course_from setting client place [] (Some doing) (suc index) course through at = absurd (let none : ⊥ = cc in none)
course_from setting client place (one ∷ past) now zero course through at =
    let same : course_over client place one ≡ course = cc in
    subst (IsFrom setting client place (one ∷ past) now) same (record { index = 0; client_is = refl; place_is = omega arith; at = refl; report = through.0.reported })
course_from setting client place (one ∷ past) now (suc index) course through at =
    let later : IsFrom setting client (place + 1) past now course = course_from setting client (place + 1) past now index course through.1 at in
    let its : course.owner.place ≡ (place + 1) + later.index = later.place_is in
    record { index = suc later.index; client_is = later.client_is; place_is = omega (arith, its); at = later.at; report = later.report }

record IsAmongClients (setting : Setting) (number : ℕ) (clients : List Client) (course : Course) : Type 0 where
  index : ℕ
  own : Client
  here : slice_get clients index ≡ Some own
  from : IsFrom setting (number + index) 0 own.past own.now course

courses_from_clients : (setting : Setting) (number : ℕ) (clients : List Client) (index : ℕ) (course : Course) → ((at : ℕ) (own : Client) → slice_get clients at ≡ Some own → AreThrough setting.terms own.past)
    → slice_get (courses_of_clients setting number clients) index ≡ Some course → IsAmongClients setting number clients course
courses_from_clients setting number [] index course through at = absurd (let none : ⊥ = cc in none)
courses_from_clients setting number (own ∷ clients) index course through at =
    by (get_either (courses_from setting number 0 own.past own.now) (courses_of_clients setting (number + 1) clients) index course at)
    (λ other there. courses_from_clients setting (number + 1) clients other course (λ place one is. through (suc place) one is) there)
  where
    by : (slice_get (courses_from setting number 0 own.past own.now) index ≡ Some course) ⊎ ((other : ℕ) × (slice_get (courses_of_clients setting (number + 1) clients) other ≡ Some course))
        → ((other : ℕ) → slice_get (courses_of_clients setting (number + 1) clients) other ≡ Some course → IsAmongClients setting (number + 1) clients course) → IsAmongClients setting number (own ∷ clients) course
    by (inl there) rest =
        let same : number ≡ number + 0 = omega arith in
        record { index = 0; own = own; here = refl; from = subst (λ (n : ℕ). IsFrom setting n 0 own.past own.now course) same (course_from setting number 0 own.past own.now index course (through 0 own refl) there) }
    by (inr there) rest =
        let later : IsAmongClients setting (number + 1) clients course = rest there.0 there.1 in
        let same : (number + 1) + later.index ≡ number + suc later.index = omega arith in
        record { index = suc later.index; own = later.own; here = later.here; from = subst (λ (n : ℕ). IsFrom setting n 0 later.own.past later.own.now course) same later.from }

pub course_is : (t : Traced) → Invariant t → (place : ℕ) (course : Course) → slice_get (courses_of t) place ≡ Some course → IsCourseOf t course
course_is t inv place course at =
    let among : IsAmongClients t.setting 1 t.machine.clients course = courses_from_clients t.setting 1 t.machine.clients place course (λ index own here. (talks_at t.setting.terms t.machine.clients (suc index) own inv.orderly.script.talks here).0) at in
    let number : 1 + among.index ≡ suc among.index = omega arith in
    let zero_more : 0 + among.from.index ≡ among.from.index = omega arith in
    record {
      request = record {
        own = among.own;
        here = ap (client_at t.machine.clients) (among.from.client_is ∙ number) ∙ among.here;
        at = ap (slice_get (requests_by_place among.own)) (among.from.place_is ∙ zero_more) ∙ among.from.at;
      };
      report = among.from.report;
    }

-- Where the request is over, the course has come to its report.
pub course_over_is : (t : Traced) → Invariant t → (place : ℕ) (course : Course) (own : Client) (one : Past) → slice_get (courses_of t) place ≡ Some course → client_at t.machine.clients course.owner.client ≡ Some own → slice_get own.past course.owner.place ≡ Some one
    → submission_so_far course ≡ submission_of one
course_over_is t inv place course own one at here past =
    let is : IsCourseOf t course = course_is t inv place course at in
    let both : Some own ≡ Some is.request.own = sym here ∙ is.request.here in
    let mine : own ≡ is.request.own = cc in
    let its : Some (over_so one) ≡ Some (record { request = course.request; steps = course.steps }) =
    sym (over_there own course.owner.place one past) ∙ (ap (λ (c : Client). slice_get (requests_by_place c) course.owner.place) mine ∙ is.request.at) in
    let same : record { request = course.request; steps = course.steps } ≡ over_so one = ap (λ (found : Option RequestSteps). option_map_or (λ (r : RequestSteps). r) found (over_so one)) (sym its) in
    let through : IsThrough t.setting.terms one = through_at t.setting.terms own.past course.owner.place one (talks_at t.setting.terms t.machine.clients course.owner.client own inv.orderly.script.talks here).0 past in
    let request : course.request ≡ one.request = ap (λ (r : RequestSteps). r.request) same in
    let report : course.report ≡ one.report = sym is.report ∙ (ap (λ (r : RequestSteps). report_of t.setting.terms r.request (dones_of r.steps)) same ∙ through.reported) in
    λ i. record { request = request i; copy = report i }
