-- Steps by which a request waits for a slot, gets one, and tries to connect.
use Rattle.std.proofs.Common.{◌≡◌, ℕ, ◌+◌, ◌-◌, ◌==◌, ◌≤◌, ◌<◌, ◌&&◌, ◌||◌, Bool, true, false, not, List, [], ◌∷◌, length, Option, Some, None, if◌then◌else◌, refl, sym, ap, ◌∙◌, arith, nat_le}
use Rattle.std.specs.Prelude.{count_by, slice_get, unwrap_or, cond}
use Rattle.std.proofs.lemmas.Bool.Decides.{nat_tests}
use Rattle.std.proofs.lemmas.List.Sums.{sum_by-cons}
use Rattle.svc_values.specs.declared.answer.Answer.{Answer}
use Rattle.svc_values.specs.declared.call.Call.{Call}
use Rattle.svc_values.specs.declared.entry.Ltxid.{Ltxid}
use Rattle.request_bounds.specs.meaning.Rules.{Rules}
use Rattle.outage_schedule.specs.declared.document.Request.{Request}
use Rattle.outage_schedule.specs.declared.document.ServiceOf.{ServiceOf}
use Rattle.outage_schedule.specs.declared.failure.Failure.TheVariants as failure
use Rattle.outage_schedule.specs.declared.note.GoNote.{GoNote}
use Rattle.outage_schedule.specs.declared.note.GoNote.TheVariants as go
use Rattle.outage_schedule.specs.declared.item.Served.{Served}
use Rattle.outage_schedule.specs.declared.request.RequestReport.{RequestReport}
use Rattle.client_model.specs.meaning.States.{Losing}
use Rattle.client_model.specs.declared.act.Failed.TheVariants as failed
use Rattle.client_model.specs.declared.input.Input.TheVariants.{Waiting, Lent, Opened, TryFailed}
use Rattle.client_model.specs.meaning.Terms.{Terms, Talk, Queued, Seeking, Greeting, unsubmitted}
use Rattle.client_model.specs.meaning.Talk.{stands, quiet, fails, sending, sends_or_ends, begin_of, next_call, with_tried, on_waiting, on_hello}
use Rattle.client_model.specs.meaning.Account.{Account, session_of}
use Rattle.client_model.specs.Reasons.{rules_of}
use Rattle.shown_clauses.specs.meaning.Fronts.{front_from, front_of, is_empty}
use Rattle.shown_clauses.specs.meaning.Steps.{Step}
use Rattle.shown_clauses.specs.meaning.Causes.{is_down, is_early, last_downs, all_wait, pool_wait_line, retries_line}
use Rattle.svc_values.specs.declared.frame.Up.TheVariants as up
use Rattle.caused_laws.specs.ServiceTerms.{kind_of}
use Rattle.caused_laws.proofs.FactsKnown.{terms_by}
use Rattle.caused_laws.proofs.Standing.{SoFar, behind_it, Adds, adds_none, IsAt, Knows, GoesOn, ComesBy}
use Rattle.caused_laws.proofs.Submitting.{and_both, goes_by, fails_comes, sends_comes}

pub eq_self : (n : ℕ) → (n == n) ≡ true
eq_self n = grind (arith, nat_tests)

le_true : (a b : ℕ) → nat_le a b ≡ true → a ≤ b
le_true a b e = grind (arith, nat_tests)

-- a step with this note, that took this
abbrev pub made : Step → GoNote → Option Served → Step
made step did taken = record step { did = did; taken = taken }

-- TRIES IN A ROW ----------------------------------------------------------------------------------

-- the tries are counted over these
abbrev is_try : Step → Bool
is_try step = is_down step.did || is_early step.did

front_more : (step : Step) (steps : List Step) → is_try step ≡ true → front_of is_try (step ∷ steps) ≡ step ∷ front_of is_try steps
front_more step [] is = ap (λ b. front_from is_try b step []) is
front_more step (other ∷ steps) is = ap (λ b. front_from is_try b step (other ∷ steps)) is

down_more : (step : Step) (steps : List Step) → last_downs (made step go.Down None ∷ steps) ≡ last_downs steps + 1
down_more step steps =
    let first : count_by (λ (one : Step). is_down one.did) (made step go.Down None ∷ front_of is_try steps) ≡ 1 + last_downs steps =
    sum_by-cons (λ (one : Step). cond (is_down one.did) 1 0) (made step go.Down None) (front_of is_try steps) in
    let all : last_downs (made step go.Down None ∷ steps) ≡ 1 + last_downs steps = ap (count_by (λ (one : Step). is_down one.did)) (front_more (made step go.Down None) steps refl) ∙ first in
    omega arith

pub early_same : (step : Step) (steps : List Step) → last_downs (made step go.Early None ∷ steps) ≡ last_downs steps
early_same step steps =
    let first : count_by (λ (one : Step). is_down one.did) (made step go.Early None ∷ front_of is_try steps) ≡ 0 + last_downs steps =
    sum_by-cons (λ (one : Step). cond (is_down one.did) 1 0) (made step go.Early None) (front_of is_try steps) in
    let all : last_downs (made step go.Early None ∷ steps) ≡ 0 + last_downs steps = ap (count_by (λ (one : Step). is_down one.did)) (front_more (made step go.Early None) steps refl) ∙ first in
    omega arith

pub never_sends : (a b : Bool) → (not a && (not b && false)) ≡ false
never_sends true b = refl
never_sends false true = refl
never_sends false false = refl

-- STEPS -------------------------------------------------------------------------------------------

module _ (service : ServiceOf) (rules : Rules) (told : List Answer → List ℕ) (ruled : rules ≡ rules_of (kind_of service.failover service.consistency)) (request : Request) (copy : RequestReport) where
  abbrev terms : Terms
  terms = terms_by service rules told

  module _ (s : SoFar) (step : Step) (a : Account) (talk : Talk) (knows : Knows service rules told ruled request copy a s.steps s.facts s.course) where
    -- WAITING
    module _ (from : Option ℕ) (at : IsAt service (Queued from) a.reason a.tries s) where
      abbrev waiting : Step
      waiting = made step go.Wait None

      abbrev since : ℕ
      since = unwrap_or from step.tick

      since_is : unwrap_or s.begun step.tick ≡ since
      since_is = ap (λ (o : Option ℕ). unwrap_or o step.tick) at.0

      waits_line : (b : Bool) → nat_le service.pool.wait (step.tick - since) ≡ b
          → pool_wait_line service (unwrap_or s.begun step.tick) step.tick (waiting ∷ s.steps) ≡ (if b then Some (failure.PoolWait since step.tick) else None)
      waits_line true is =
          ap (λ n. pool_wait_line service n step.tick (waiting ∷ s.steps)) since_is
          ∙ ap (λ b. if all_wait b (waiting ∷ s.steps) then Some (failure.PoolWait since step.tick) else None) is
          ∙ ap (λ b. if b then Some (failure.PoolWait since step.tick) else None) at.1
      waits_line false is =
          ap (λ n. pool_wait_line service n step.tick (waiting ∷ s.steps)) since_is
          ∙ ap (λ b. if all_wait b (waiting ∷ s.steps) then Some (failure.PoolWait since step.tick) else None) is

      adds : Adds s waiting s.facts s.course
      adds = adds_none s waiting s.facts s.course (record { facts_are = refl; course_is = refl }) (never_sends s.course.submitted (is_empty s.course.unshown))

      waits_by : (b : Bool) → nat_le service.pool.wait (step.tick - since) ≡ b
          → ComesBy service rules told ruled request copy a Waiting s waiting (if b then fails talk false None (failed.PoolWait since step.tick) else (stands talk (Queued (Some since)), quiet))
      waits_by true is =
          fails_comes service rules told ruled request copy s waiting a Waiting talk false None (failed.PoolWait since step.tick) (failure.PoolWait since step.tick) refl
          (and_both (since == since) (step.tick == step.tick) (eq_self since) (eq_self step.tick))
          (waits_line true is) (λ outcomes. refl)
      waits_by false is = λ answered.
          GoesOn s.facts s.course refl (goes_by service rules told ruled request copy s waiting s.facts s.course adds (waits_line false is) refl) adds
          (record {
            knows = record { agrees = knows.agrees; count = knows.count; downs = sym at.3 };
            at = (ap Some since_is, at.1, at.2, at.3);
            last = λ still. tt;
          })

      pub waiting_comes : ComesBy service rules told ruled request copy a Waiting s waiting (on_waiting terms talk since step.tick)
      waiting_comes = waits_by (nat_le service.pool.wait (step.tick - since)) refl

      -- GETTING A CONNECTION THAT IS IDLE
      module _ (connection : ℕ) (x : Ltxid) (one : Call) (none_shown : a.shown ≡ []) (here : slice_get request.calls (length a.shown) ≡ Some one) where
        abbrev lent : Step
        lent = made step (go.Lent connection) None

        lends_by : (next : Option Call) → next ≡ Some one
            → ComesBy service rules told ruled request copy a (Lent connection x) s lent
            (sends_or_ends terms talk (record { track = unsubmitted terms; ltxid = x }) true (begin_of talk ∷ []) None step.tick next)
        lends_by None is = absurd (let none : ⊥ = cc in none)
        lends_by (Some call) is =
            sends_comes service rules told ruled request copy s lent s.facts s.course call (record a { slot = true; session = session_of (Some x) })
            (record { agrees = knows.agrees; count = knows.count; downs = sym at.3 }) (here ∙ sym is) at.3
            a (Lent connection x) talk (record { track = unsubmitted terms; ltxid = x }) true (Some talk.settings) None refl
            (record { facts_are = refl; course_is = refl })
            (ap (λ n. n == 0) (knows.agrees.index ∙ ap length none_shown))
            (λ dead. absurd (let none : ⊥ = cc in none)) (λ dead. absurd (let none : ⊥ = cc in none)) refl

        pub lent_comes : next_call talk ≡ Some one → ComesBy service rules told ruled request copy a (Lent connection x) s lent (on_hello terms talk None x true step.tick)
        lent_comes is = lends_by (next_call talk) is

    -- OPENING A CONNECTION
    -- a request that seeks one, with what it lost
    abbrev pub IsSeeking : Option Losing → Type 0
    IsSeeking lost = IsAt service (Seeking lost) a.reason a.tries s

    module _ (connection : ℕ) where
      abbrev opens : Step
      opens = made step (go.Open connection) None

      opens_adds : Adds s opens s.facts s.course
      opens_adds = adds_none s opens s.facts s.course (record { facts_are = refl; course_is = refl }) (never_sends s.course.submitted (is_empty s.course.unshown))

      greets : (lost : Option Losing) → IsSeeking lost → IsAt service (Greeting lost) a.reason 0 (behind_it s opens s.facts s.course)
      greets None at = (at, refl)
      greets (Some lost) at = (at, refl)

      pub opened_comes : (lost : Option Losing) → IsSeeking lost
          → ComesBy service rules told ruled request copy a (Opened connection) s opens (record talk { tries = 0; phase = Greeting lost }, sending (up.Connect ∷ []))
      opened_comes lost at answered =
          GoesOn s.facts s.course refl (goes_by service rules told ruled request copy s opens s.facts s.course opens_adds refl refl) opens_adds
          (record {
            knows = record { agrees = knows.agrees; count = knows.count; downs = refl };
            at = greets lost at;
            last = λ still. refl;
          })

    -- A TRY THAT FAILS
    abbrev tries : Step
    tries = made step go.Down None

    tries_adds : Adds s tries s.facts s.course
    tries_adds = adds_none s tries s.facts s.course (record { facts_are = refl; course_is = refl }) (never_sends s.course.submitted (is_empty s.course.unshown))

    seeks : (lost : Option Losing) → IsSeeking lost → (n : ℕ) → IsAt service (Seeking lost) a.reason n (behind_it s tries s.facts s.course)
    seeks None at n = at
    seeks (Some lost) at n = at

    module _ (lost : Option Losing) (at : IsSeeking lost) (same : talk.tries ≡ a.tries) (few : talk.tries < service.retries) where
      tries_line : (b : Bool) → nat_le service.retries (talk.tries + 1) ≡ b → retries_line service (tries ∷ s.steps) ≡ (if b then Some (failure.Retries service.retries) else None)
      tries_line b is =
          ap (λ n. if nat_le service.retries n then Some (failure.Retries service.retries) else None) (down_more step s.steps ∙ ap (λ n. n + 1) (knows.downs ∙ sym same))
          ∙ ap (λ t. if t then Some (failure.Retries service.retries) else None) is

      tries_by : (b : Bool) → nat_le service.retries (talk.tries + 1) ≡ b
          → ComesBy service rules told ruled request copy a TryFailed s tries
          (if b then fails (with_tried talk step.tick) false None (failed.Retries (talk.tries + 1)) else (stands (with_tried talk step.tick) (Seeking lost), quiet))
      tries_by true is =
          fails_comes service rules told ruled request copy s tries a TryFailed (with_tried talk step.tick) false None (failed.Retries (talk.tries + 1)) (failure.Retries service.retries)
          (ap (λ n. Some (failure.Retries n)) (let e : service.retries ≤ talk.tries + 1 = le_true service.retries (talk.tries + 1) is in let f : talk.tries + 1 ≡ service.retries = omega arith in f))
          (eq_self service.retries) (tries_line true is) (λ outcomes. refl)
      tries_by false is = λ answered.
          GoesOn s.facts s.course refl (goes_by service rules told ruled request copy s tries s.facts s.course tries_adds (tries_line false is) refl) tries_adds
          (record {
            knows = record { agrees = knows.agrees; count = knows.count; downs = down_more step s.steps ∙ ap (λ n. n + 1) knows.downs };
            at = seeks lost at (a.tries + 1);
            last = λ still. tt;
          })

      pub tried_comes : ComesBy service rules told ruled request copy a TryFailed s tries
          (if nat_le service.retries (talk.tries + 1) then fails (with_tried talk step.tick) false None (failed.Retries (talk.tries + 1)) else (stands (with_tried talk step.tick) (Seeking lost), quiet))
      tried_comes = tries_by (nat_le service.retries (talk.tries + 1)) refl
