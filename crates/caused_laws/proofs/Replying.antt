-- Steps that show a call: by a reply to it, or by an outcome.
use Rattle.std.proofs.Common.{◌≡◌, ℕ, zero, suc, ◌+◌, Bool, true, false, List, [], ◌∷◌, ◌++◌, length, map, drop, reverse, Option, Some, None, refl, sym, ap, ◌∙◌, arith}
use Rattle.std.specs.Prelude.{IsSome, count_by, fold, nat_lt, slice_get, option_and_then}
use Rattle.std.specs.Option.{option_or, option_map_or}
use Rattle.std.proofs.lemmas.List.{drop-drop, length_push}
use Rattle.svc_values.specs.declared.answer.Answer.{Answer}
use Rattle.svc_values.specs.declared.call.Call.{Call}
use Rattle.svc_values.specs.declared.draw.Draw.{Draw}
use Rattle.svc_values.specs.declared.entry.Ltxid.{Ltxid}
use Rattle.svc_values.specs.declared.value.Value.{Value}
use Rattle.svc_values.specs.declared.frame.Down.{Down}
use Rattle.svc_values.specs.declared.frame.Down.TheVariants as down
use Rattle.svc_values.specs.declared.frame.Up.{Up}
use Rattle.svc_values.specs.declared.frame.Up.TheVariants as up
use Rattle.request_bounds.specs.meaning.Rules.{Rules}
use Rattle.outage_schedule.specs.declared.document.Request.{Request}
use Rattle.outage_schedule.specs.declared.document.ServiceOf.{ServiceOf}
use Rattle.outage_schedule.specs.declared.item.Item.{Item}
use Rattle.outage_schedule.specs.declared.item.Item.TheVariants as item
use Rattle.outage_schedule.specs.declared.item.Served.{Served}
use Rattle.outage_schedule.specs.declared.request.RequestReport.{RequestReport}
use Rattle.outage_schedule.specs.declared.request.ShownCall.{ShownCall}
use Rattle.client_model.specs.meaning.States.{Living}
use Rattle.client_model.specs.declared.act.Shown.{Shown}
use Rattle.client_model.specs.declared.input.Input.TheVariants.{Took}
use Rattle.client_model.specs.meaning.Terms.{Terms, Talk}
use Rattle.client_model.specs.meaning.Talk.{ends, sends_call as sends_left, sends_or_ends, next_call, talk_shown, with_shown, on_reply}
use Rattle.client_model.specs.Conversation.{is_gone_next}
use Rattle.client_model.specs.meaning.Account.{Account, begins, hears, sends, shows, shows_call, shows_found, after_step}
use Rattle.client_model.specs.Account.{is_uncommitted}
use Rattle.client_model.specs.Reasons.{rules_of}
use Rattle.run_clauses.specs.meaning.Reports.{shown_call}
use Rattle.shown_clauses.specs.meaning.Fronts.{first_item}
use Rattle.shown_clauses.specs.meaning.Steps.{Step}
use Rattle.shown_clauses.specs.meaning.Showings.{is_showing, shown_answers}
use Rattle.shown_clauses.specs.meaning.Facts.{Showed, Course, answers_shown, after_showing, after_taking, comes_after, shown_fact, showing_facts}
use Rattle.shown_clauses.specs.meaning.Causes.{line_at, outcomes_of, says_uncommitted}
use Rattle.caused_laws.specs.ServiceTerms.{kind_of}
use Rattle.caused_laws.proofs.Agreeing.{Agrees, first-drop, ahead_is, shows_agree}
use Rattle.caused_laws.proofs.FactsKnown.{is_off, terms_by}
use Rattle.caused_laws.proofs.Standing.{SoFar, past_of, Takes, IsOpen, Knows, submission, Comes, Foretold}
use Rattle.caused_laws.proofs.Submitting.{fronted, none_from, ends_comes, sends_comes}
use Rattle.caused_laws.proofs.Taking.{took, and_true, dead_gone, left_sent, TakesBy}

-- CALLS THAT ARE LEFT -----------------------------------------------------------------------------

pub slice-drop : {X : Type 0} (xs : List X) (n : ℕ) → slice_get (drop n xs) 0 ≡ slice_get xs n
slice-drop [] zero = refl
slice-drop [] (suc n) = refl
slice-drop (x ∷ xs) zero = refl
slice-drop (x ∷ xs) (suc n) = slice-drop xs n

-- behind the first that is left
pub next_behind : {X Y : Type 0} (calls left : List X) (shown : List Y) (one : Y) → left ≡ drop (length shown) calls → slice_get (drop 1 left) 0 ≡ slice_get calls (length (shown ++ one ∷ []))
next_behind calls left shown one is =
    ap (λ l. slice_get (drop 1 l) 0) is
    ∙ ap (λ l. slice_get l 0) (drop-drop 1 (length shown) calls)
    ∙ slice-drop calls (length shown + 1)
    ∙ ap (slice_get calls) (sym (length_push shown one))

known_behind : {T : Type 0} (a b : Option T) → IsSome a → IsSome (option_or a b)
known_behind None b is = absurd (let none : ⊥ = cc in none)
known_behind (Some x) b is = refl

module _ (service : ServiceOf) (rules : Rules) (told : List Answer → List ℕ) (ruled : rules ≡ rules_of (kind_of service.failover service.consistency)) (request : Request) (copy : RequestReport) where
  abbrev terms : Terms
  terms = terms_by service rules told

  begin_shown : (a : Account) (b : Bool) (last : Option Up) → (λ (c : Account). c.shown) (record (begins a b) { last = last }) ≡ a.shown
  begin_shown a true last = refl
  begin_shown a false last = refl

  -- frames that are sent show nothing
  pub sent_shown : (now : ℕ) (frames : List Up) (a : Account) → (fold (sends terms now) a frames).shown ≡ a.shown
  sent_shown now [] a = refl
  sent_shown now (up.Connect ∷ frames) a = sent_shown now frames (sends terms now a up.Connect)
  sent_shown now (up.Begin settings ∷ frames) a = sent_shown now frames (sends terms now a (up.Begin settings)) ∙ begin_shown a a.begun (Some (up.Begin settings))
  sent_shown now (up.Call true kept call ∷ frames) a = sent_shown now frames (sends terms now a (up.Call true kept call))
  sent_shown now (up.Call false kept call ∷ frames) a = sent_shown now frames (sends terms now a (up.Call false kept call))
  sent_shown now (up.Outcome x ∷ frames) a = sent_shown now frames (sends terms now a (up.Outcome x))
  sent_shown now (up.End ∷ frames) a = sent_shown now frames (sends terms now a up.End)
  sent_shown now (up.Close ∷ frames) a = sent_shown now frames (sends terms now a up.Close)

  module _ (s : SoFar) (step : Step) (connection sent : ℕ) (served : Served) (what : Item) (one : Shown) (call : Call) (acc : Account) where
    abbrev here : Step
    here = took step connection sent served what

    abbrev pub heard : Account
    heard = shows_call terms acc one call

    -- What the step shows is this, and the client knew all that came before.
    pub record Shows : Type 0 where
      pub agrees : Agrees service rules told ruled request.calls copy.calls acc.shown acc.since_purge acc.reason acc.first s.facts s.course
      pub count : count_by says_uncommitted (outcomes_of (here ∷ s.steps)) ≡ count_by is_uncommitted acc.outcomes
      pub tries : acc.tries ≡ 0
      pub there : slice_get request.calls (length acc.shown) ≡ Some call
      pub stands : is_off service.failover ≡ true → IsSome acc.reason
      pub course_is : after_taking s.course here.taken ≡ after_showing s.course (answers_shown s.course one.answers)
      pub facts_are : showing_facts s.course (option_and_then (λ taken. shown_answers taken.item) here.taken) ≡ shown_fact (first_item s.course.unshown) (answers_shown s.course one.answers)

    module _ (w : Shows) (rest : List ShownCall) (extends : copy.calls ≡ map shown_call (acc.shown ++ one ∷ []) ++ rest) where
      answers_are : answers_shown s.course one.answers ≡ one.answers
      answers_are = ap (λ l. option_map_or (λ shown. shown.answers) (first_item l) one.answers)
          (ahead_is service rules told ruled request.calls copy.calls acc.shown acc.since_purge acc.reason acc.first s.facts s.course w.agrees one rest extends)

      first_is : first_item s.course.unshown ≡ Some call
      first_is = ap first_item w.agrees.unshown ∙ first-drop request.calls (length acc.shown) ∙ w.there

      pub takes_shown : Takes s here (Showed call one.answers ∷ s.facts) (after_showing s.course one.answers)
      takes_shown = record {
        facts_are = ap (λ l. reverse l ++ s.facts)
            (w.facts_are ∙ ap (λ o. shown_fact o (answers_shown s.course one.answers)) first_is ∙ ap (shown_fact (Some call)) answers_are);
        course_is = w.course_is ∙ ap (after_showing s.course) answers_are;
      }

      pub knows_shown : Knows service rules told ruled request copy heard (here ∷ s.steps) (Showed call one.answers ∷ s.facts) (after_showing s.course one.answers)
      knows_shown = record {
        agrees = shows_agree service rules told ruled request.calls copy.calls acc.shown acc.since_purge acc.reason acc.first s.facts s.course w.agrees one call rest w.there extends w.stands;
        count = w.count;
        downs = sym w.tries;
      }

    module _ (w : Shows) (a : Account) (frame : Down) (alive : Bool) (hears_is : hears terms a (Took frame alive) step.tick (Some one) ≡ acc)
        (line : line_at service (submission service rules told ruled request copy) (past_of s here) here here.did ≡ None)
        (showing : option_map_or is_showing here.taken false ≡ true) (comes : (c : Course) → comes_after c what ≡ true) where
      heard_is : shows terms request.calls (hears terms a (Took frame alive) step.tick (Some one)) (Some one) ≡ heard
      heard_is = ap (λ (h : Account). shows_found terms h one (slice_get request.calls (length h.shown))) hears_is ∙ ap (shows_found terms acc one) w.there

      ready : IsOpen service heard.reason (after_showing s.course one.answers)
      ready = record {
        submitted = λ none. absurd (let e : s.course.index + 1 ≡ 0 = none in let never : ⊥ = omega arith in never);
        stands = λ off. known_behind acc.reason _ (w.stands off);
      }

      -- what the report shows
      extends_by : (frames : List Up) (rest : List ShownCall) → copy.calls ≡ map shown_call (fold (sends terms step.tick) (shows terms request.calls (hears terms a (Took frame alive) step.tick (Some one)) (Some one)) frames).shown ++ rest
          → copy.calls ≡ map shown_call (acc.shown ++ one ∷ []) ++ rest
      extends_by frames rest is =
          is ∙ ap (λ l. map shown_call l ++ rest) (sent_shown step.tick frames (shows terms request.calls (hears terms a (Took frame alive) step.tick (Some one)) (Some one)) ∙ ap (λ (h : Account). h.shown) heard_is)

      module _ (talk : Talk) (state : Living) (front : Option (List (List ℕ × Value))) where
        abbrev Next : Option Call → Type 0
        Next next = TakesBy service rules told ruled request copy a (Took frame alive) s here sent (sends_or_ends terms talk state alive (fronted front) (Some one) step.tick next)

        ends_by : (b : Bool) → alive ≡ b → slice_get request.calls (length heard.shown) ≡ None
            → Foretold service rules told ruled request copy a (Took frame alive) step.tick (ends talk b (Some one))
            → Comes service rules told ruled request copy (after_step terms request.calls a (record { input = Took frame alive; now = step.tick; act = (ends talk b (Some one)).1 })) (ends talk b (Some one)).0.phase (is_gone_next (Took frame alive) (ends talk b (Some one)).1.hold) s here
        ends_by b is none answered =
            let e : copy.calls ≡ map shown_call (acc.shown ++ one ∷ []) ++ answered.rest = extends_by (ends talk b (Some one)).1.send answered.rest answered.extends in
            ends_comes service rules told ruled request copy s here a (Took frame alive) talk b (Some one) (Showed call one.answers ∷ s.facts) (after_showing s.course one.answers)
            (takes_shown w answered.rest e)
            (none_from (after_showing s.course one.answers).unshown (ap first_item (knows_shown w answered.rest e).agrees.unshown ∙ first-drop request.calls (length heard.shown) ∙ none))
            showing line answered

        sends_by : (next : Call) → slice_get request.calls (length heard.shown) ≡ Some next → Next (Some next)
        sends_by next is sends_so answered =
            let e : copy.calls ≡ map shown_call (acc.shown ++ one ∷ []) ++ answered.rest = extended alive answered.extends in
            sends_comes service rules told ruled request copy s here (Showed call one.answers ∷ s.facts) (after_showing s.course one.answers) next heard
            (knows_shown w answered.rest e) is w.tries a (Took frame alive) talk state alive front (Some one) heard_is
            (takes_shown w answered.rest e)
            (and_true (nat_lt 0 sent) (comes_after (after_showing s.course one.answers) what) alive (left_sent terms talk state alive front (Some one) step.tick next sent sends_so) (comes (after_showing s.course one.answers)))
            (dead_gone frame alive) (λ dead. ready) line answered
          where
            extended : (b : Bool) → copy.calls ≡ map shown_call (after_step terms request.calls a (record { input = Took frame alive; now = step.tick; act = (sends_left terms talk state b (fronted front) (Some one) step.tick next).1 })).shown ++ answered.rest
                → copy.calls ≡ map shown_call (acc.shown ++ one ∷ []) ++ answered.rest
            extended true is = extends_by (fronted front ++ up.Call false [] next ∷ []) answered.rest is
            extended false is = extends_by [] answered.rest is

        -- the call is shown, and the next one is sent, or the request is through
        pub showing_comes : (next : Option Call) → slice_get request.calls (length heard.shown) ≡ next → Next next
        showing_comes None is sends_so answered = ends_by alive refl is answered
        showing_comes (Some next) is sends_so answered = sends_by next is sends_so answered

  -- A REPLY
  module _ (s : SoFar) (step : Step) (connection sent : ℕ) (served : Served) (a : Account) (talk : Talk) (state : Living) (named call : Call) (answers : List Answer) (draws : List Draw) (x : Ltxid) where
    abbrev replied : Item
    replied = item.Call false named answers draws

    abbrev shown : Shown
    shown = record { answers = answers; draws = draws; ltxid = x }

    abbrev held : Account
    held = record a { held = Some x; ended = None }

    pub reply_comes : (alive : Bool) → Knows service rules told ruled request copy a s.steps s.facts s.course → IsOpen service a.reason s.course → a.tries ≡ 0 → talk.left ≡ drop (length a.shown) request.calls
        → slice_get request.calls (length a.shown) ≡ Some call → (next : Option Call) → next ≡ Some call
        → TakesBy service rules told ruled request copy a (Took (down.Reply answers draws x) alive) s (took step connection sent served replied) sent (on_reply terms talk state answers draws x alive step.tick next)
    reply_comes alive knows is_open tries left there None is = absurd (let none : ⊥ = cc in none)
    reply_comes alive knows is_open tries left there (Some found) is =
        let same : call ≡ found = cc in
        showing_comes s step connection sent served replied shown found held
        (record {
          agrees = knows.agrees;
          count = knows.count;
          tries = tries;
          there = there ∙ sym is;
          stands = is_open.stands;
          course_is = refl;
          facts_are = refl;
        })
        a (down.Reply answers draws x) alive refl refl refl (λ c. refl)
        (talk_shown terms talk found answers) (record { track = with_shown terms state.track found answers draws; ltxid = x }) None
        (next_call (talk_shown terms talk found answers)) (sym (next_behind request.calls talk.left a.shown shown left))
