-- Steps that take a frame: those by which a session greets, blocks or refuses.
use Rattle.std.proofs.Common.{◌≡◌, inl, inr, ℕ, ◌+◌, ◌==◌, ◌<◌, ◌&&◌, Bool, true, false, not, List, [], ◌∷◌, length, Option, Some, None, refl, sym, ap, ◌∙◌, arith}
use Rattle.std.specs.Prelude.{nat_lt, slice_get}
use Rattle.std.specs.Option.{option_map_or}
use Rattle.std.proofs.lemmas.Bool.Decides.{nat_tests}
use Rattle.svc_values.specs.declared.answer.Answer.{Answer}
use Rattle.svc_values.specs.declared.call.Call.{Call}
use Rattle.svc_values.specs.declared.entry.Ltxid.{Ltxid}
use Rattle.svc_values.specs.declared.value.Value.{Value}
use Rattle.svc_values.specs.declared.frame.Down.{Down}
use Rattle.svc_values.specs.declared.frame.Down.TheVariants as down
use Rattle.svc_values.specs.declared.frame.Up.TheVariants as up
use Rattle.request_bounds.specs.meaning.Rules.{Rules}
use Rattle.outage_schedule.specs.declared.document.Request.{Request}
use Rattle.outage_schedule.specs.declared.document.ServiceOf.{ServiceOf}
use Rattle.outage_schedule.specs.declared.item.Item.{Item}
use Rattle.outage_schedule.specs.declared.item.Item.TheVariants as item
use Rattle.outage_schedule.specs.declared.item.Served.{Served}
use Rattle.outage_schedule.specs.declared.note.GoNote.TheVariants as go
use Rattle.outage_schedule.specs.declared.request.RequestReport.{RequestReport}
use Rattle.client_model.specs.meaning.States.{Living, Losing, asked_on}
use Rattle.client_model.specs.declared.act.Act.{Act}
use Rattle.client_model.specs.declared.act.Hold.TheVariants.{Keep, GiveBack}
use Rattle.client_model.specs.declared.act.Shown.{Shown}
use Rattle.client_model.specs.declared.input.Input.{Input}
use Rattle.client_model.specs.declared.input.Input.TheVariants.{Took}
use Rattle.client_model.specs.meaning.Terms.{Terms, Talk, Phase, Greeting, Asked, unsubmitted}
use Rattle.client_model.specs.meaning.Talk.{Step as Pace, stands, quiet, sending, sends_call as sends_left, sends_or_ends, begin_of, next_call, on_hello}
use Rattle.client_model.specs.Conversation.{is_gone_next}
use Rattle.client_model.specs.meaning.Account.{Account, session_of}
use Rattle.client_model.specs.Reasons.{rules_of}
use Rattle.shown_clauses.specs.meaning.Fronts.{is_empty}
use Rattle.shown_clauses.specs.meaning.Steps.{Step}
use Rattle.shown_clauses.specs.meaning.Showings.{is_showing}
use Rattle.shown_clauses.specs.meaning.Facts.{Course, submits}
use Rattle.shown_clauses.specs.meaning.Causes.{line_at}
use Rattle.caused_laws.specs.ServiceTerms.{kind_of}
use Rattle.caused_laws.specs.Telling.{SentBy}
use Rattle.caused_laws.proofs.FactsKnown.{terms_by}
use Rattle.caused_laws.proofs.Losing.{is_connected, none_tried, at_same, connected_on}
use Rattle.caused_laws.proofs.Slots.{made}
use Rattle.caused_laws.proofs.Standing.{SoFar, past_of, behind_it, Adds, Takes, adds_none, Stands, submission, Comes, GoesOn, ComesBy, is_over}
use Rattle.caused_laws.proofs.Submitting.{and_false, and_never, fronted, goes_by, sends_comes}

-- FRAMES THAT ARE SENT ----------------------------------------------------------------------------

pub is_above : (n : ℕ) → 0 < n → nat_lt 0 n ≡ true
is_above n above = grind (arith, nat_tests)

pub eq_true : (a b : ℕ) → a ≡ b → (a == b) ≡ true
eq_true a b e = grind (arith, nat_tests)

pub eq_zero : (a : ℕ) → (a == 0) ≡ true → a ≡ 0
eq_zero a e = grind (arith, nat_tests)

pub quiet_sent : (shown : Option Shown) (sent : ℕ) → SentBy (record quiet { shown = shown }) sent → nat_lt 0 sent ≡ false
quiet_sent shown sent (inl none) = ap (nat_lt 0) none
quiet_sent shown sent (inr given) = absurd (let no : Keep ≡ GiveBack = given.0 in let none : ⊥ = cc in none)

pub some_sent : (act : Act) (n sent : ℕ) → length act.send ≡ n + 1 → SentBy act sent → nat_lt 0 sent ≡ true
some_sent act n sent many (inl is) = is_above sent (let e : sent ≡ length act.send = is in let f : 0 < sent = omega arith in f)
some_sent act n sent many (inr given) = is_above sent (let e : sent ≡ length act.send + 1 = given.1 in let f : 0 < sent = omega arith in f)

-- the next call goes out on a living connection
pub left_sent : (terms : Terms) (talk : Talk) (state : Living) (alive : Bool) (front : Option (List (List ℕ × Value))) (shown : Option Shown) (now : ℕ) (call : Call) (sent : ℕ)
    → SentBy (sends_left terms talk state alive (fronted front) shown now call).1 sent → nat_lt 0 sent ≡ alive
left_sent terms talk state false front shown now call sent by = quiet_sent shown sent by
left_sent terms talk state true None shown now call sent by = some_sent (sends_left terms talk state true [] shown now call).1 0 sent refl by
left_sent terms talk state true (Some settings) shown now call sent by = some_sent (sends_left terms talk state true (up.Begin settings ∷ []) shown now call).1 1 sent refl by

pub and_true : (a b c : Bool) → a ≡ c → b ≡ true → (a && b) ≡ c
and_true true b c is t = t ∙ is
and_true false b c is t = is

pub dead_gone : (frame : Down) (alive : Bool) → alive ≡ false → is_gone_next (Took frame alive) Keep ≡ true
dead_gone frame true dead = absurd (let none : ⊥ = cc in none)
dead_gone frame false dead = refl

-- the first call went out before
and_submitted : (a b n c : Bool) → (c ≡ true → a ≡ true) → (not a && (not b && (n && c))) ≡ false
and_submitted true b n c before = refl
and_submitted false true n c before = refl
and_submitted false false false c before = refl
and_submitted false false true false before = refl
and_submitted false false true true before = absurd (let no : false ≡ true = before refl in let none : ⊥ = cc in none)

-- STEPS -------------------------------------------------------------------------------------------

-- a step that takes the reply to this item
abbrev pub took : Step → ℕ → ℕ → Served → Item → Step
took step connection sent served what = made step (go.Took connection sent) (Some (record served { item = what }))

module _ (service : ServiceOf) (rules : Rules) (told : List Answer → List ℕ) (ruled : rules ≡ rules_of (kind_of service.failover service.consistency)) (request : Request) (copy : RequestReport) where
  abbrev terms : Terms
  terms = terms_by service rules told

  -- told what was sent
  abbrev pub TakesBy : Account → Input → SoFar → Step → ℕ → Pace → Type 0
  TakesBy a input s step sent next = SentBy next.1 sent → ComesBy service rules told ruled request copy a input s step next

  module _ (s : SoFar) (step : Step) where
    -- The judge goes on, where no call was submitted and no line holds.
    pub goes_comes : (a : Account) (phase : Phase) (due : Bool) (course : Course) → is_over service rules told ruled request copy phase ≡ false
        → Takes s step s.facts course → submits course step ≡ false
        → line_at service (submission service rules told ruled request copy) (past_of s step) step step.did ≡ None → (option_map_or is_showing step.taken false && is_empty course.unshown) ≡ false
        → Stands service rules told ruled request copy a phase due (behind_it s step s.facts course) → Comes service rules told ruled request copy a phase due s step
    goes_comes a phase due course over takes none line unshown stands =
        let adds : Adds s step s.facts course = adds_none s step s.facts course takes none in
        GoesOn s.facts course over (goes_by service rules told ruled request copy s step s.facts course adds line unshown) adds stands

  module _ (s : SoFar) (step : Step) (connection sent : ℕ) (served : Served) (a : Account) (talk : Talk) where
    -- BLOCKED AND REFUSED
    module _ (phase : Phase) (connected : is_connected phase ≡ true) (before : Stands service rules told ruled request copy a phase false s) where
      abbrev Passes : Item → Down → Bool → Type 0
      Passes what frame alive = Comes service rules told ruled request copy a phase (is_gone_next (Took frame alive) Keep) s (took step connection sent served what)

      pub blocked_passes : (one : Call) (alive : Bool) → Passes (item.Blocked one) down.Blocked alive
      blocked_passes one alive =
          goes_comes s (took step connection sent served (item.Blocked one)) a phase (is_gone_next (Took down.Blocked alive) Keep) s.course
          (connected_on service rules told ruled request copy phase connected) (record { facts_are = refl; course_is = refl })
          (and_never s.course.submitted (is_empty s.course.unshown) (nat_lt 0 sent && false) (and_false (nat_lt 0 sent) false refl)) refl refl
          (record {
            knows = record { agrees = before.knows.agrees; count = before.knows.count; downs = sym (none_tried service phase a.reason a.tries s connected before.at) };
            at = at_same service phase a.reason a.tries s (behind_it s (took step connection sent served (item.Blocked one)) s.facts s.course) connected refl before.at;
            last = λ still. before.last refl;
          })

      pub refused_passes : (cause : ℕ) (alive : Bool) → Passes (item.Refused cause) (down.Refused cause) alive
      refused_passes cause alive =
          goes_comes s (took step connection sent served (item.Refused cause)) a phase (is_gone_next (Took (down.Refused cause) alive) Keep) s.course
          (connected_on service rules told ruled request copy phase connected) (record { facts_are = refl; course_is = refl })
          (and_never s.course.submitted (is_empty s.course.unshown) (nat_lt 0 sent && false) (and_false (nat_lt 0 sent) false refl)) refl refl
          (record {
            knows = record { agrees = before.knows.agrees; count = before.knows.count; downs = sym (none_tried service phase a.reason a.tries s connected before.at) };
            at = at_same service phase a.reason a.tries s (behind_it s (took step connection sent served (item.Refused cause)) s.facts s.course) connected refl before.at;
            last = λ still. before.last refl;
          })

    -- HELLO
    module _ (x : Ltxid) where
      abbrev greeted : Step
      greeted = took step connection sent served item.Connect

      abbrev here : Account
      here = record a { session = session_of (Some x) }

      -- on a connection that has ended
      dead_hello : (lost : Option Losing) → Stands service rules told ruled request copy a (Greeting lost) false s → TakesBy a (Took (down.Hello x) false) s greeted sent (stands talk (Greeting lost), quiet)
      dead_hello lost before sends answered =
          goes_comes s greeted here (Greeting lost) true s.course refl (record { facts_are = refl; course_is = refl })
          (and_never s.course.submitted (is_empty s.course.unshown) (nat_lt 0 sent && (s.course.index == 0)) (ap (λ b. b && (s.course.index == 0)) (quiet_sent None sent sends))) refl refl
          (record {
            knows = record { agrees = before.knows.agrees; count = before.knows.count; downs = sym (none_tried service (Greeting lost) a.reason a.tries s refl before.at) };
            at = at_same service (Greeting lost) a.reason a.tries s (behind_it s greeted s.facts s.course) refl refl before.at;
            last = λ still. absurd (let none : ⊥ = cc in none);
          })

      -- the first call is sent
      first_by : (one : Call) (before : Stands service rules told ruled request copy a (Greeting None) false s) (none_shown : a.shown ≡ []) (next : Option Call) → next ≡ Some one → slice_get request.calls (length a.shown) ≡ Some one
          → TakesBy a (Took (down.Hello x) true) s greeted sent (sends_or_ends terms talk (record { track = unsubmitted terms; ltxid = x }) true (begin_of talk ∷ []) None step.tick next)
      first_by one before none_shown None is there sends = absurd (let none : ⊥ = cc in none)
      first_by one before none_shown (Some call) is there sends =
          sends_comes service rules told ruled request copy s greeted s.facts s.course call here
          (record { agrees = before.knows.agrees; count = before.knows.count; downs = sym before.at.1 }) (there ∙ sym is) before.at.1
          a (Took (down.Hello x) true) talk (record { track = unsubmitted terms; ltxid = x }) true (Some talk.settings) None refl
          (record { facts_are = refl; course_is = refl })
          (and_true (nat_lt 0 sent) (s.course.index == 0) true
          (left_sent terms talk (record { track = unsubmitted terms; ltxid = x }) true (Some talk.settings) None step.tick call sent sends)
          (ap (λ n. n == 0) (before.knows.agrees.index ∙ ap length none_shown)))
          (λ dead. absurd (let none : ⊥ = cc in none)) (λ dead. absurd (let none : ⊥ = cc in none)) refl

      pub hello_first : (one : Call) (alive : Bool) → Stands service rules told ruled request copy a (Greeting None) false s → a.shown ≡ [] → next_call talk ≡ Some one → slice_get request.calls (length a.shown) ≡ Some one
          → TakesBy a (Took (down.Hello x) alive) s greeted sent (on_hello terms talk None x alive step.tick)
      hello_first one false before none_shown is there = dead_hello None before
      hello_first one true before none_shown is there = first_by one before none_shown (next_call talk) is there

      -- the outcome is asked
      asks : (lost : Losing) → Stands service rules told ruled request copy a (Greeting (Some lost)) false s
          → TakesBy a (Took (down.Hello x) true) s greeted sent (stands talk (Asked (asked_on lost x)), sending (up.Outcome lost.ltxid ∷ []))
      asks lost before sends answered =
          goes_comes s greeted (record here { last = Some (up.Outcome lost.ltxid) }) (Asked (asked_on lost x)) false s.course refl (record { facts_are = refl; course_is = refl })
          (and_submitted s.course.submitted (is_empty s.course.unshown) (nat_lt 0 sent) (s.course.index == 0) (λ first. before.at.0.submitted (eq_zero s.course.index first))) refl refl
          (record {
            knows = record { agrees = before.knows.agrees; count = before.knows.count; downs = sym before.at.1 };
            at = (record { submitted = before.at.0.submitted; stands = before.at.0.stands }, before.at.1);
            last = λ still. tt;
          })

      pub hello_again : (lost : Losing) (alive : Bool) → Stands service rules told ruled request copy a (Greeting (Some lost)) false s
          → TakesBy a (Took (down.Hello x) alive) s greeted sent (on_hello terms talk (Some lost) x alive step.tick)
      hello_again lost false before = dead_hello (Some lost) before
      hello_again lost true before = asks lost before
