-- Steps that take an outcome which says committed, and one that is forgotten.
use Rattle.std.proofs.Common.{◌≡◌, ℕ, ◌+◌, ◌<◌, ◌&&◌, ◌||◌, Bool, true, false, not, List, [], ◌∷◌, ◌++◌, drop, length, map, Option, Some, None, if◌then◌else◌, refl, sym, ap, subst, ◌∙◌, arith, nat_le}
use Rattle.std.specs.Prelude.{count_by, slice_get}
use Rattle.std.specs.List.{list_any}
use Rattle.std.proofs.lemmas.List.Folds.{list_any-append}
use Rattle.svc_values.specs.declared.answer.Answer.{Answer}
use Rattle.svc_values.specs.declared.answer.Answer.TheVariants as answer
use Rattle.svc_values.specs.declared.call.Call.{Call}
use Rattle.svc_values.specs.declared.frame.Ahead.TheVariants as ahead
use Rattle.svc_values.specs.declared.frame.Down.TheVariants as down
use Rattle.svc_values.specs.declared.frame.Up.TheVariants as up
use Rattle.request_bounds.specs.declared.rule.After.{After}
use Rattle.request_bounds.specs.declared.rule.After.TheVariants as after
use Rattle.request_bounds.specs.declared.rule.Why.{Why}
use Rattle.request_bounds.specs.declared.rule.Why.TheVariants as why
use Rattle.request_bounds.specs.meaning.Rules.{Rules}
use Rattle.call_recorder.specs.declared.recorded.Recorded.{Recorded}
use Rattle.call_recorder.specs.meaning.Recording.{noted}
use Rattle.outage_schedule.specs.declared.document.Consistency.{Consistency}
use Rattle.outage_schedule.specs.declared.document.Consistency.TheVariants as consistency
use Rattle.outage_schedule.specs.declared.document.Failover.{Failover}
use Rattle.outage_schedule.specs.declared.document.Failover.TheVariants as failover
use Rattle.outage_schedule.specs.declared.document.Request.{Request}
use Rattle.outage_schedule.specs.declared.document.ServiceOf.{ServiceOf}
use Rattle.outage_schedule.specs.declared.failure.Failure.{Failure}
use Rattle.outage_schedule.specs.declared.failure.Failure.TheVariants as failure
use Rattle.outage_schedule.specs.declared.failure.Reason.TheVariants as reason
use Rattle.outage_schedule.specs.declared.item.Item.TheVariants as item
use Rattle.outage_schedule.specs.declared.item.Served.{Served}
use Rattle.outage_schedule.specs.declared.note.AskResult.TheVariants as result
use Rattle.outage_schedule.specs.declared.request.RequestReport.{RequestReport}
use Rattle.client_model.specs.declared.track.Track.{Track}
use Rattle.client_model.specs.meaning.States.{Living, Asking}
use Rattle.client_model.specs.declared.act.Failed.TheVariants as failed
use Rattle.client_model.specs.declared.act.Shown.{Shown}
use Rattle.client_model.specs.declared.input.Input.TheVariants.{Took}
use Rattle.client_model.specs.meaning.Terms.{Terms, Talk}
use Rattle.client_model.specs.meaning.Talk.{is_set, fails, next_call, recorded_as, talk_shown, with_recorded, with_reply, with_shown, after_completed, on_completed, begin_of, sends_call as sends_left}
use Rattle.client_model.specs.meaning.Account.{Account, Outcome as Heard, hears, hears_outcome, shows, shows_found}
use Rattle.client_model.specs.Account.{is_uncommitted, count_uncommitted as heard_uncommitted}
use Rattle.client_model.specs.Reasons.{rules_of}
use Rattle.client_model.proofs.Offered.{Tracked}
use Rattle.run_clauses.specs.meaning.Reports.{told_outcome}
use Rattle.shown_clauses.specs.meaning.Fronts.{first_item, rest_items}
use Rattle.shown_clauses.specs.meaning.Steps.{Step}
use Rattle.shown_clauses.specs.meaning.Reasons.{keeps_settings}
use Rattle.shown_clauses.specs.meaning.Facts.{Course, after_showing, answers_shown, facts_at, shown_fact, submits, submitted_fact}
use Rattle.shown_clauses.specs.meaning.Causes.{AtOutcome, at_outcome, ended_of, is_set_shown, line_at, outcomes_of, says_uncommitted, state_lost_line}
use Rattle.shown_clauses.specs.meaning.Causes as causes
use Rattle.caused_laws.specs.ServiceTerms.{kind_of}
use Rattle.caused_laws.proofs.Agreeing.{first-drop, or_false, same_set}
use Rattle.caused_laws.proofs.FactsKnown.{or-none, terms_by}
use Rattle.caused_laws.proofs.OutcomesTold.{count-first, count-last, is_last, ltxid_self, sent_outcomes}
use Rattle.caused_laws.proofs.Replying.{Shows, showing_comes, next_behind}
use Rattle.caused_laws.proofs.Standing.{SoFar, past_of, IsOpen, Knows, submission}
use Rattle.caused_laws.proofs.Submitting.{left_from, none_from, fails_comes}
use Rattle.caused_laws.proofs.Taking.{took, TakesBy}
use Rattle.caused_laws.proofs.Uncommitted.{disabled_self}

-- the rule keeps settings where the judge says so
keeps_same : (f : Failover) (c : Consistency) → (rules_of (kind_of f c)).keeps ≡ keeps_settings f
keeps_same failover.Transaction consistency.Dynamic = refl
keeps_same failover.Transaction consistency.Static = refl
keeps_same failover.Off c = refl
keeps_same failover.Auto c = refl

-- what is submitted is no showing of a `set`
none_set : (b : Bool) (course : Course) (one : Option Call) (tick : ℕ) → list_any is_set_shown (submitted_fact b course one tick) ≡ false
none_set true course (Some one) tick = refl
none_set true course None tick = refl
none_set false course (Some one) tick = refl
none_set false course None tick = refl

-- a reply changes only the recorder and the reason
module _ (terms : Terms) (track : Track) (one : Recorded) where
  recorded_set : (w : Option Why) → (λ (k : Track). k.set_shown) (with_recorded terms track one w) ≡ track.set_shown
  recorded_set (Some reason) = refl
  recorded_set None = by (nat_le terms.recorded (length track.recorder.calls))
    where
      by : (b : Bool) → (λ (k : Track). k.set_shown) (if b then record track { why = Some (why.Full terms.recorded) } else record track { recorder = noted track.recorder one }) ≡ track.set_shown
      by true = refl
      by false = refl

  recorded_call : (w : Option Why) → (λ (k : Track). k.call) (with_recorded terms track one w) ≡ track.call
  recorded_call (Some reason) = refl
  recorded_call None = by (nat_le terms.recorded (length track.recorder.calls))
    where
      by : (b : Bool) → (λ (k : Track). k.call) (if b then record track { why = Some (why.Full terms.recorded) } else record track { recorder = noted track.recorder one }) ≡ track.call
      by true = refl
      by false = refl

  reply_set : (a : After) → (λ (k : Track). k.set_shown) (with_reply terms track one a) ≡ track.set_shown
  reply_set after.Record = recorded_set track.why
  reply_set after.Purge = refl
  reply_set (after.Stop reason) = refl

  reply_call : (a : After) → (λ (k : Track). k.call) (with_reply terms track one a) ≡ track.call
  reply_call after.Record = recorded_call track.why
  reply_call after.Purge = refl
  reply_call (after.Stop reason) = refl

module _ (service : ServiceOf) (rules : Rules) (told : List Answer → List ℕ) (ruled : rules ≡ rules_of (kind_of service.failover service.consistency)) (request : Request) (copy : RequestReport) where
  abbrev terms : Terms
  terms = terms_by service rules told

  module _ (s : SoFar) (step : Step) (connection sent : ℕ) (served : Served) (a : Account) (talk : Talk) (state : Asking)
      (knows : Knows service rules told ruled request copy a s.steps s.facts s.course) (is_open : IsOpen service a.reason s.course) (tries : a.tries ≡ 0)
      (last : a.last ≡ Some (up.Outcome state.ltxid)) where
    -- FORGOTTEN
    pub forgotten_comes : (horizon : ℕ) (alive : Bool)
        → TakesBy service rules told ruled request copy a (Took (down.OutcomeRefused ahead.Forgotten horizon) alive) s (took step connection sent served (item.Outcome state.ltxid (result.Forgotten horizon))) sent
        (fails talk alive None (failed.Unknown state.ltxid))
    forgotten_comes horizon alive sends_so =
        fails_comes service rules told ruled request copy s (took step connection sent served (item.Outcome state.ltxid (result.Forgotten horizon))) a (Took (down.OutcomeRefused ahead.Forgotten horizon) alive) talk alive None
        (failed.Unknown state.ltxid) (failure.Unknown state.ltxid) refl (ltxid_self state.ltxid) refl (λ outcomes. refl)

    module _ (completed : Bool) where
      abbrev outcome : Heard
      outcome = record { ltxid = state.ltxid; committed = true; completed = completed }

      abbrev here : Step
      here = took step connection sent served (item.Outcome state.ltxid (result.Committed completed))

      abbrev heard : Account
      heard = hears_outcome a true completed (Some (up.Outcome state.ltxid))

      hears_is : (alive : Bool) (shown : Option Shown) → hears terms a (Took (down.OutcomeIs true completed) alive) step.tick shown ≡ heard
      hears_is alive shown = ap (hears_outcome a true completed) last

    -- NOT COMPLETED
    pub incomplete_comes : (alive : Bool)
        → TakesBy service rules told ruled request copy a (Took (down.OutcomeIs true false) alive) s (here false) sent (fails talk alive None (failed.Incomplete state.ltxid))
    incomplete_comes alive sends_so =
        fails_comes service rules told ruled request copy s (here false) a (Took (down.OutcomeIs true false) alive) talk alive None (failed.Incomplete state.ltxid) (failure.Incomplete state.ltxid) refl
        (ltxid_self state.ltxid) refl
        (λ outcomes. is_last copy a.outcomes (outcome false)
        (outcomes ∙ ap (map told_outcome)
        (sent_outcomes service rules told step.tick (fails talk alive None (failed.Incomplete state.ltxid)).1.send (hears terms a (Took (down.OutcomeIs true false) alive) step.tick None)
        ∙ ap (λ (h : Account). h.outcomes) (hears_is false alive None))))

    -- COMPLETED
    module _ (alive : Bool) (one : Call) (there : slice_get request.calls (length a.shown) ≡ Some one) (left : talk.left ≡ drop (length a.shown) request.calls)
        (tracked : Tracked terms request.calls a state.track) (above : 0 < state.event) (ended : ended_of (here true ∷ s.steps) step.lost ≡ state.event) where
      abbrev shown : Shown
      shown = record { answers = answer.Committed ∷ []; draws = []; ltxid = state.fresh }

      abbrev next : Living
      next = record { track = with_shown terms state.track one (answer.Committed ∷ []) []; ltxid = state.fresh }

      abbrev after_it : Talk
      after_it = talk_shown terms talk one (answer.Committed ∷ [])

      count : count_by says_uncommitted (outcomes_of (here true ∷ s.steps)) ≡ count_by is_uncommitted (heard true).outcomes
      count =
          let e : count_by says_uncommitted (outcomes_of (here true ∷ s.steps)) ≡ 0 + count_by says_uncommitted (outcomes_of s.steps) = count-first (told_outcome (outcome true)) (outcomes_of s.steps) in
          let f : count_by says_uncommitted (outcomes_of s.steps) ≡ heard_uncommitted a = knows.count in
          let g : count_by is_uncommitted (heard true).outcomes ≡ heard_uncommitted a + 0 = count-last a.outcomes (outcome true) in
          omega arith

      abbrev shows_here : Type 0
      shows_here = Shows service rules told ruled request copy s step connection sent served (item.Outcome state.ltxid (result.Committed true)) shown one (heard true)

      shows_it : shows_here
      shows_it = record {
        agrees = knows.agrees;
        count = count;
        tries = tries;
        there = there;
        stands = is_open.stands;
        course_is = refl;
        facts_are = refl;
      }

      -- THE LINE
      abbrev seen : AtOutcome
      seen = at_outcome service (past_of s (here true)) (here true) (told_outcome (outcome true))

      abbrev loses : Bool → Bool → Bool → ℕ → ℕ → Option Failure
      loses follows set keeps index event = if follows && (set && not keeps) then Some (failure.Disabled (reason.StateLost index) event) else None

      line_is : line_at service (submission service rules told ruled request copy) (past_of s (here true)) (here true) (here true).did ≡ loses seen.follows seen.set_shown (keeps_settings service.failover) seen.index seen.ended
      line_is = or-none (state_lost_line service seen)

      set_is : seen.set_shown ≡ next.track.set_shown
      set_is =
          list_any-append is_set_shown s.facts (facts_at s.course (here true))
          ∙ ap (λ b. list_any is_set_shown s.facts || b) here_set
          ∙ ap (λ b. b || is_set one) (knows.agrees.sets ∙ sym tracked.set_shown ∙ sym (reply_set terms state.track (recorded_as terms one (answer.Committed ∷ []) []) (rules.reply (answer.Committed ∷ []))))
        where
          first_is : first_item s.course.unshown ≡ Some one
          first_is = ap first_item knows.agrees.unshown ∙ first-drop request.calls (length a.shown) ∙ there

          here_set : list_any is_set_shown (facts_at s.course (here true)) ≡ is_set one
          here_set =
              ap (λ o. list_any is_set_shown (shown_fact o (answers_shown s.course (answer.Committed ∷ [])) ++ submitted_fact (submits (after_showing s.course (answers_shown s.course (answer.Committed ∷ []))) (here true)) (after_showing s.course (answers_shown s.course (answer.Committed ∷ []))) (first_item (after_showing s.course (answers_shown s.course (answer.Committed ∷ []))).unshown) step.tick)) first_is
              ∙ ap (λ b. causes.is_set one || b) (none_set (submits (after_showing s.course (answers_shown s.course (answer.Committed ∷ []))) (here true)) (after_showing s.course (answers_shown s.course (answer.Committed ∷ []))) (first_item (after_showing s.course (answers_shown s.course (answer.Committed ∷ []))).unshown) step.tick)
              ∙ or_false (causes.is_set one)
              ∙ same_set one

      index_is : seen.index ≡ next.track.call
      index_is =
          ap (λ n. n + 1) (knows.agrees.index ∙ sym tracked.call ∙ sym (reply_call terms state.track (recorded_as terms one (answer.Committed ∷ []) []) (rules.reply (answer.Committed ∷ []))))

      keeps_is : keeps_settings service.failover ≡ rules.keeps
      keeps_is = sym (ap (λ (r : Rules). r.keeps) ruled ∙ keeps_same service.failover service.consistency)

      line_so : line_at service (submission service rules told ruled request copy) (past_of s (here true)) (here true) (here true).did ≡ loses seen.follows next.track.set_shown rules.keeps next.track.call state.event
      line_so =
          line_is
          ∙ ap (λ b. loses seen.follows b (keeps_settings service.failover) seen.index seen.ended) set_is
          ∙ ap (λ b. loses seen.follows next.track.set_shown b seen.index seen.ended) keeps_is
          ∙ ap (λ n. loses seen.follows next.track.set_shown rules.keeps n seen.ended) index_is
          ∙ ap (loses seen.follows next.track.set_shown rules.keeps next.track.call) ended

      -- what is left behind the call
      unshown_is : first_item (after_showing s.course (answers_shown s.course (answer.Committed ∷ []))).unshown ≡ next_call after_it
      unshown_is = rest_first s.course.unshown talk.left (knows.agrees.unshown ∙ sym left)
        where
          rest_first : (xs ys : List Call) → xs ≡ ys → first_item (rest_items xs) ≡ slice_get (drop 1 ys) 0
          rest_first xs ys is = ap (λ l. first_item (rest_items l)) is ∙ by ys
            where
              by : (l : List Call) → first_item (rest_items l) ≡ slice_get (drop 1 l) 0
              by [] = refl
              by (x ∷ []) = refl
              by (x ∷ y ∷ l) = refl

      abbrev Next : Option Call → Type 0
      Next found = TakesBy service rules told ruled request copy a (Took (down.OutcomeIs true true) alive) s (here true) sent (after_completed terms after_it next state.event alive shown step.tick found)

      -- the settings are gone, or the next call is sent
      lost_or : (found : Call) → next_call after_it ≡ Some found → (b : Bool) → (next.track.set_shown && not rules.keeps) ≡ b
          → TakesBy service rules told ruled request copy a (Took (down.OutcomeIs true true) alive) s (here true) sent
          (if b then fails after_it alive (Some shown) (failed.Disabled (why.StateLost next.track.call) state.event)
          else sends_left terms after_it next alive (begin_of after_it ∷ []) (Some shown) step.tick found)
      lost_or found is true gone sends_so =
          fails_comes service rules told ruled request copy s (here true) a (Took (down.OutcomeIs true true) alive) after_it alive (Some shown) (failed.Disabled (why.StateLost next.track.call) state.event)
          (failure.Disabled (reason.StateLost next.track.call) state.event) refl (disabled_self (reason.StateLost next.track.call) state.event above)
          (line_so ∙ ap (λ (b : Bool). if not b && (next.track.set_shown && not rules.keeps) then Some (failure.Disabled (reason.StateLost next.track.call) state.event) else None) (left_from (after_showing s.course (answers_shown s.course (answer.Committed ∷ []))).unshown found (unshown_is ∙ is))
          ∙ ap (λ (b : Bool). if b then Some (failure.Disabled (reason.StateLost next.track.call) state.event) else None) gone)
          (λ outcomes. is_last copy a.outcomes (outcome true)
          (outcomes ∙ ap (map told_outcome)
          (sent_outcomes service rules told step.tick (fails after_it alive (Some shown) (failed.Disabled (why.StateLost next.track.call) state.event)).1.send (shows terms request.calls (hears terms a (Took (down.OutcomeIs true true) alive) step.tick (Some shown)) (Some shown))
          ∙ ap (λ (h : Account). (shows terms request.calls h (Some shown)).outcomes) (hears_is true alive (Some shown))
          ∙ ap (λ (o : Option Call). (shows_found terms (heard true) shown o).outcomes) there)))
      lost_or found is false kept sends_so =
          showing_comes service rules told ruled request copy s step connection sent served (item.Outcome state.ltxid (result.Committed true)) shown one (heard true) shows_it a (down.OutcomeIs true true) alive (hears_is true alive (Some shown))
          (line_so ∙ none_lost seen.follows (next.track.set_shown && not rules.keeps) kept) refl (λ c. refl) after_it next (Some after_it.settings) (Some found)
          (sym (next_behind request.calls talk.left a.shown shown left) ∙ is) sends_so
        where
          none_lost : (f b : Bool) → b ≡ false → (if f && b then Some (failure.Disabled (reason.StateLost next.track.call) state.event) else None) ≡ None
          none_lost true b none = ap (λ (t : Bool). if t then Some (failure.Disabled (reason.StateLost next.track.call) state.event) else None) none
          none_lost false b none = refl

      completed_by : (found : Option Call) → next_call after_it ≡ found → Next found
      completed_by None is =
          showing_comes service rules told ruled request copy s step connection sent served (item.Outcome state.ltxid (result.Committed true)) shown one (heard true) shows_it a (down.OutcomeIs true true) alive (hears_is true alive (Some shown))
          (line_so ∙ ap (λ (b : Bool). if not b && (next.track.set_shown && not rules.keeps) then Some (failure.Disabled (reason.StateLost next.track.call) state.event) else None) (none_from (after_showing s.course (answers_shown s.course (answer.Committed ∷ []))).unshown (unshown_is ∙ is)))
          refl (λ c. refl) after_it next None None (sym (next_behind request.calls talk.left a.shown shown left) ∙ is)
      completed_by (Some found) is = lost_or found is (next.track.set_shown && not rules.keeps) refl

      pub completed_comes : (found : Option Call) → found ≡ Some one
          → TakesBy service rules told ruled request copy a (Took (down.OutcomeIs true true) alive) s (here true) sent (on_completed terms talk (record { track = state.track; ltxid = state.fresh }) state.event alive step.tick found)
      completed_comes None same sends_so answered = absurd (let none : ⊥ = cc in none)
      completed_comes (Some found) same sends_so answered =
          let is : one ≡ found = cc in
          subst (λ (c : Call). TakesBy service rules told ruled request copy a (Took (down.OutcomeIs true true) alive) s (here true) sent (on_completed terms talk (record { track = state.track; ltxid = state.fresh }) state.event alive step.tick (Some c))) is
          (completed_by (next_call after_it) refl) sends_so answered
