-- Steps by which a client sends its next call, or comes to its last reply.
use Rattle.std.proofs.Common.{◌≡◌, ℕ, ◌&&◌, Bool, true, false, not, List, [], ◌∷◌, ◌++◌, length, map, reverse, Option, Some, None, refl, sym, ap, subst, ◌∙◌}
use Rattle.std.specs.Prelude.{IsSome, fold, slice_get}
use Rattle.std.specs.Option.{option_or, option_map_or}
use Rattle.svc_values.specs.declared.answer.Answer.{Answer}
use Rattle.svc_values.specs.declared.call.Call.{Call}
use Rattle.svc_values.specs.declared.value.Value.{Value}
use Rattle.svc_values.specs.declared.frame.Up.{Up}
use Rattle.svc_values.specs.declared.frame.Up.TheVariants as up
use Rattle.request_bounds.specs.declared.rule.Why.TheVariants as why
use Rattle.request_bounds.specs.meaning.Rules.{Rules}
use Rattle.outage_schedule.specs.declared.document.Consistency.{Consistency}
use Rattle.outage_schedule.specs.declared.document.Failover.{Failover}
use Rattle.outage_schedule.specs.declared.document.Failover.TheVariants as failover
use Rattle.outage_schedule.specs.declared.document.Request.{Request}
use Rattle.outage_schedule.specs.declared.document.ServiceOf.{ServiceOf}
use Rattle.outage_schedule.specs.declared.failure.Failure.{Failure}
use Rattle.outage_schedule.specs.declared.request.RequestReport.{RequestReport}
use Rattle.client_model.specs.meaning.States.{Living}
use Rattle.client_model.specs.declared.act.Failed.{Failed}
use Rattle.client_model.specs.declared.act.Hold.TheVariants.{Keep}
use Rattle.client_model.specs.declared.act.Shown.{Shown}
use Rattle.client_model.specs.declared.input.Input.{Input}
use Rattle.client_model.specs.meaning.Terms.{Terms, Talk, Running}
use Rattle.client_model.specs.meaning.Talk.{fails, ends, with_submitted, sends_call as sends_left}
use Rattle.client_model.specs.Conversation.{is_gone_next}
use Rattle.client_model.specs.meaning.Account.{Account, begins, sends, hears, shows}
use Rattle.client_model.specs.meaning.Account as account
use Rattle.client_model.specs.Reasons.{rules_of}
use Rattle.run_clauses.specs.meaning.Reports.{told_outcome, failure_of}
use Rattle.shown_clauses.specs.meaning.Fronts.{first_item, is_empty}
use Rattle.shown_clauses.specs.meaning.Steps.{Step}
use Rattle.shown_clauses.specs.meaning.Showings.{is_showing}
use Rattle.shown_clauses.specs.meaning.Facts.{Fact, Course, after_step, sends_call, submitted_fact}
use Rattle.shown_clauses.specs.meaning.Causes.{Past, line_at, outcomes_of}
use Rattle.shown_clauses.specs.meaning.Caused.{Goes, Ends, all_shown, ending_at, ending_if, same_failed, fits_outcomes}
use Rattle.caused_laws.specs.ServiceTerms.{kind_of}
use Rattle.caused_laws.proofs.Agreeing.{first-drop, sent_agree}
use Rattle.caused_laws.proofs.FactsKnown.{is_off, terms_by}
use Rattle.caused_laws.proofs.Standing.{SoFar, past_of, behind_it, Adds, Takes, adds_none, adds_sent, IsOpen, Knows, Stands, submission, GoesOn, IsOver, ComesBy}

pub and_false : (a b : Bool) → b ≡ false → (a && b) ≡ false
and_false true b is = is
and_false false b is = refl

pub and_both : (a b : Bool) → a ≡ true → b ≡ true → (a && b) ≡ true
and_both true b is other = other
and_both false b is other = is

and_not : (a b c : Bool) → b ≡ false → c ≡ true → (not a && (not b && c)) ≡ not a
and_not true b c empty sends = refl
and_not false true c empty sends = absurd (let none : ⊥ = cc in none)
and_not false false c empty sends = sends

pub and_never : (a b c : Bool) → c ≡ false → (not a && (not b && c)) ≡ false
and_never true b c never = refl
and_never false true c never = refl
and_never false false c never = never

and_empty : (a b c : Bool) → b ≡ true → (not a && (not b && c)) ≡ false
and_empty true b c empty = refl
and_empty false true c empty = refl
and_empty false false c empty = absurd (let none : ⊥ = cc in none)

pub left_from : {X : Type 0} (xs : List X) (x : X) → first_item xs ≡ Some x → is_empty xs ≡ false
left_from [] x is = absurd (let none : ⊥ = cc in none)
left_from (y ∷ xs) x is = refl

pub none_from : {X : Type 0} (xs : List X) → first_item xs ≡ None → is_empty xs ≡ true
none_from [] is = refl
none_from (y ∷ xs) is = absurd (let none : ⊥ = cc in none)

-- without replay each submission is a reason
off_reason : (f : Failover) (c : Consistency) (one : Call) (index : ℕ) → is_off f ≡ true → (rules_of (kind_of f c)).submit one index ≡ Some why.Off
off_reason failover.Off c one index off = refl
off_reason failover.Transaction c one index off = absurd (let none : ⊥ = cc in none)
off_reason failover.Auto c one index off = absurd (let none : ⊥ = cc in none)

some_behind : {T : Type 0} (a b : Option T) (x : T) → b ≡ Some x → IsSome (option_or a b)
some_behind None b x is = subst (λ o. IsSome o) (sym is) refl
some_behind (Some y) b x is = refl

ends_if : (shown : Bool) (failed : Failure) → ending_if shown (Some failed) ≡ Ends (Some failed)
ends_if true failed = refl
ends_if false failed = refl

-- a Begin before the call, if one is sent
abbrev pub fronted : Option (List (List ℕ × Value)) → List Up
fronted None = []
fronted (Some settings) = up.Begin settings ∷ []

module _ (service : ServiceOf) (rules : Rules) (told : List Answer → List ℕ) (ruled : rules ≡ rules_of (kind_of service.failover service.consistency)) (request : Request) (copy : RequestReport) where
  abbrev terms : Terms
  terms = terms_by service rules told

  module _ (s : SoFar) (step : Step) where
    abbrev past : Past
    past = past_of s step

    -- THE END
    -- no line holds, and the last call is not shown
    pub goes_by : (facts : List Fact) (course : Course) → Adds s step facts course → line_at service (submission service rules told ruled request copy) past step step.did ≡ None
        → (option_map_or is_showing step.taken false && is_empty course.unshown) ≡ false
        → ending_at service (submission service rules told ruled request copy) past step ≡ Goes
    goes_by facts course adds line unshown =
        ap (ending_if (all_shown step (after_step s.course step))) line
        ∙ ap (λ b. ending_if b None) (ap (λ (c : Course). option_map_or is_showing step.taken false && is_empty c.unshown) adds.course_is ∙ unshown)

    ends_by : (facts : List Fact) (course : Course) → Adds s step facts course → line_at service (submission service rules told ruled request copy) past step step.did ≡ None
        → (option_map_or is_showing step.taken false && is_empty course.unshown) ≡ true
        → ending_at service (submission service rules told ruled request copy) past step ≡ Ends None
    ends_by facts course adds line all =
        ap (ending_if (all_shown step (after_step s.course step))) line
        ∙ ap (λ b. ending_if b None) (ap (λ (c : Course). option_map_or is_showing step.taken false && is_empty c.unshown) adds.course_is ∙ all)

    -- the line of an error holds
    pub fails_by : (failed : Failure) → line_at service (submission service rules told ruled request copy) past step step.did ≡ Some failed
        → ending_at service (submission service rules told ruled request copy) past step ≡ Ends (Some failed)
    fails_by failed line = ap (ending_if (all_shown step (after_step s.course step))) line ∙ ends_if (all_shown step (after_step s.course step)) failed

    -- A client that fails: the report has its error.
    pub fails_comes : (a : Account) (input : Input) (talk : Talk) (alive : Bool) (shown : Option Shown) (failed : Failed) (failure : Failure)
        → failure_of failed ≡ Some failure → same_failed (Some failure) (Some failure) ≡ true
        → line_at service (submission service rules told ruled request copy) past step step.did ≡ Some failure
        → (copy.outcomes ≡ map told_outcome (account.after_step terms request.calls a (record { input = input; now = step.tick; act = (fails talk alive shown failed).1 })).outcomes
        → fits_outcomes service (first_item (outcomes_of (step ∷ s.steps))) copy (Some failure) ≡ true)
        → ComesBy service rules told ruled request copy a input s step (fails talk alive shown failed)
    fails_comes a input talk alive shown failed failure reported same line fits answered =
        IsOver (Some failure) refl (fails_by failure line)
        (and_both (same_failed copy.failed (Some failure)) (fits_outcomes service (first_item (outcomes_of (step ∷ s.steps))) copy (Some failure))
        (ap (λ f. same_failed f (Some failure)) ((answered.final refl).failed ∙ reported) ∙ same)
        (fits (answered.final refl).outcomes))

    -- A client that shows its last call is through.
    pub ends_comes : (a : Account) (input : Input) (talk : Talk) (alive : Bool) (shown : Option Shown) (facts : List Fact) (course : Course)
        → Takes s step facts course → is_empty course.unshown ≡ true → option_map_or is_showing step.taken false ≡ true
        → line_at service (submission service rules told ruled request copy) past step step.did ≡ None
        → ComesBy service rules told ruled request copy a input s step (ends talk alive shown)
    ends_comes a input talk true shown facts course takes all showing line answered =
        IsOver None refl
        (ends_by facts course (adds_none s step facts course takes (and_empty course.submitted (is_empty course.unshown) (sends_call course step.did step.taken) all)) line
        (and_both (option_map_or is_showing step.taken false) (is_empty course.unshown) showing all))
        (ap (λ f. same_failed f None && true) (answered.final refl).failed)
    ends_comes a input talk false shown facts course takes all showing line answered =
        IsOver None refl
        (ends_by facts course (adds_none s step facts course takes (and_empty course.submitted (is_empty course.unshown) (sends_call course step.did step.taken) all)) line
        (and_both (option_map_or is_showing step.taken false) (is_empty course.unshown) showing all))
        (ap (λ f. same_failed f None && true) (answered.final refl).failed)

    -- THE NEXT CALL
    module _ (facts : List Fact) (course : Course) (call : Call) where
      abbrev sent_facts : List Fact
      sent_facts = reverse (submitted_fact (not course.submitted) course (first_item course.unshown) step.tick) ++ facts

      abbrev sent_course : Course
      sent_course = record course { submitted = true }

      sent_stands : (acc : Account) (state : Living) (due : Bool) → Knows service rules told ruled request copy acc (step ∷ s.steps) facts course
          → slice_get request.calls (length acc.shown) ≡ Some call → acc.tries ≡ 0
          → Stands service rules told ruled request copy (sends terms step.tick acc (up.Call false [] call)) (Running state) due (behind_it s step sent_facts sent_course)
      sent_stands acc state due knows here tries = record {
        knows = record {
          agrees = sent_agree service rules told ruled request.calls copy.calls acc.shown acc.since_purge acc.reason acc.first facts course knows.agrees call step.tick here course.submitted refl;
          count = knows.count;
          downs = knows.downs;
        };
        at = (
          record {
            submitted = λ none. refl;
            stands = λ off. some_behind acc.reason (rules.submit call (length acc.shown)) why.Off (ap (λ (r : Rules). r.submit call (length acc.shown)) ruled ∙ off_reason service.failover service.consistency call (length acc.shown) off);
          },
          tries,
        );
        last = λ still. record { kept = []; one = call; is = refl };
      }

      module _ (heard : Account) (knows : Knows service rules told ruled request copy heard (step ∷ s.steps) facts course)
          (here : slice_get request.calls (length heard.shown) ≡ Some call) (tries : heard.tries ≡ 0) where
        begun_stands : (front : Option (List (List ℕ × Value))) (state : Living) (due : Bool)
            → Stands service rules told ruled request copy (fold (sends terms step.tick) heard (fronted front ++ up.Call false [] call ∷ [])) (Running state) due (behind_it s step sent_facts sent_course)
        begun_stands None state due = sent_stands heard state due knows here tries
        begun_stands (Some settings) state due = by heard.begun
          where
            by : (b : Bool) → Stands service rules told ruled request copy (sends terms step.tick (record (begins heard b) { last = Some (up.Begin settings) }) (up.Call false [] call)) (Running state) due (behind_it s step sent_facts sent_course)
            by true = sent_stands (record (begins heard true) { last = Some (up.Begin settings) }) state due knows here tries
            by false = sent_stands (record (begins heard false) { last = Some (up.Begin settings) }) state due knows here tries

        -- a call is left
        left : is_empty course.unshown ≡ false
        left = left_from course.unshown call (ap first_item knows.agrees.unshown ∙ first-drop request.calls (length heard.shown) ∙ here)

        -- The call is sent on a living connection, and on a dead one it waits.
        pub sends_comes : (a : Account) (input : Input) (talk : Talk) (state : Living) (alive : Bool) (front : Option (List (List ℕ × Value))) (shown : Option Shown)
            → shows terms request.calls (hears terms a input step.tick shown) shown ≡ heard
            → Takes s step facts course → sends_call course step.did step.taken ≡ alive
            → (alive ≡ false → is_gone_next input Keep ≡ true) → (alive ≡ false → IsOpen service heard.reason course)
            → line_at service (submission service rules told ruled request copy) past step step.did ≡ None
            → ComesBy service rules told ruled request copy a input s step (sends_left terms talk state alive (fronted front) shown step.tick call)
        sends_comes a input talk state true front shown heard_is takes sent dead ready line answered =
            let adds : Adds s step sent_facts sent_course = adds_sent s step facts course takes (and_not course.submitted (is_empty course.unshown) (sends_call course step.did step.taken) left sent) in
            GoesOn sent_facts sent_course refl (goes_by sent_facts sent_course adds line (and_false (option_map_or is_showing step.taken false) (is_empty course.unshown) left)) adds
            (subst (λ (h : Account). Stands service rules told ruled request copy (fold (sends terms step.tick) h (fronted front ++ up.Call false [] call ∷ [])) (Running (record state { track = with_submitted terms state.track call step.tick })) (is_gone_next input Keep) (behind_it s step sent_facts sent_course)) (sym heard_is)
            (begun_stands front (record state { track = with_submitted terms state.track call step.tick }) (is_gone_next input Keep)))
        sends_comes a input talk state false front shown heard_is takes sent dead ready line answered =
            let adds : Adds s step facts course = adds_none s step facts course takes (and_never course.submitted (is_empty course.unshown) (sends_call course step.did step.taken) sent) in
            let stands : Stands service rules told ruled request copy heard (Running state) (is_gone_next input Keep) (behind_it s step facts course) = record {
              knows = knows;
              at = (ready refl, tries);
              last = λ still. absurd (let gone : is_gone_next input Keep ≡ true = dead refl in let none : ⊥ = cc in none);
            } in
            GoesOn facts course refl (goes_by facts course adds line (and_false (option_map_or is_showing step.taken false) (is_empty course.unshown) left)) adds
            (subst (λ (h : Account). Stands service rules told ruled request copy h (Running state) (is_gone_next input Keep) (behind_it s step facts course)) (sym heard_is) stands)
