-- Steps that take an outcome which says uncommitted: a reason against a replay, too many replays,
-- too late, or a replay.
use Rattle.std.proofs.Common.{◌≡◌, ℕ, ◌+◌, ◌==◌, ◌<◌, ◌≤◌, ◌&&◌, Bool, true, false, List, [], ◌∷◌, ◌++◌, length, map, Option, Some, None, if◌then◌else◌, refl, sym, ap, ◌∙◌, arith, nat_le}
use Rattle.std.specs.Prelude.{count_by, is_none, nat_lt, option_map, slice_get, unwrap_or}
use Rattle.std.specs.Option.{option_or}
use Rattle.std.proofs.lemmas.Bool.Decides.{nat_tests}
use Rattle.svc_values.specs.declared.answer.Answer.{Answer}
use Rattle.svc_values.specs.declared.call.Call.{Call}
use Rattle.svc_values.specs.declared.frame.Down.TheVariants as down
use Rattle.svc_values.specs.declared.frame.Up.TheVariants as up
use Rattle.request_bounds.specs.declared.rule.Why.{Why}
use Rattle.request_bounds.specs.meaning.Rules.{Rules}
use Rattle.outage_schedule.specs.declared.document.Request.{Request}
use Rattle.outage_schedule.specs.declared.document.ServiceOf.{ServiceOf}
use Rattle.outage_schedule.specs.declared.failure.Failure.{Failure}
use Rattle.outage_schedule.specs.declared.failure.Failure.TheVariants as failure
use Rattle.outage_schedule.specs.declared.failure.Reason.{Reason}
use Rattle.outage_schedule.specs.declared.failure.Reason.TheVariants as reason
use Rattle.outage_schedule.specs.declared.item.Item.TheVariants as item
use Rattle.outage_schedule.specs.declared.item.Served.{Served}
use Rattle.outage_schedule.specs.declared.note.AskResult.TheVariants as result
use Rattle.outage_schedule.specs.declared.request.RequestReport.{RequestReport}
use Rattle.client_model.specs.meaning.Told.{over, repeated, is_late, uncommitted}
use Rattle.client_model.specs.meaning.Told as told_so
use Rattle.client_model.specs.meaning.States.{Asking, next_of}
use Rattle.client_model.specs.declared.act.Failed.{Failed}
use Rattle.client_model.specs.declared.act.Failed.TheVariants as failed
use Rattle.client_model.specs.declared.input.Input.TheVariants.{Took}
use Rattle.client_model.specs.meaning.Terms.{Terms, Talk}
use Rattle.client_model.specs.meaning.Talk.{fails, next_call, on_told}
use Rattle.client_model.specs.meaning.Account.{Account, Outcome as Heard, hears, hears_outcome, after_step}
use Rattle.client_model.specs.Account.{count_uncommitted as heard_uncommitted}
use Rattle.client_model.specs.Reasons.{rules_of}
use Rattle.client_model.proofs.Offered.{Tracked}
use Rattle.run_clauses.specs.meaning.Reports.{told_outcome}
use Rattle.run_clauses.specs.meaning.Reports as report
use Rattle.shown_clauses.specs.meaning.Steps.{Step}
use Rattle.shown_clauses.specs.meaning.Causes.{AtOutcome, at_outcome, disabled_if, ended_of, line_at, outcome_lines, outcomes_of, says_uncommitted, timeout_by}
use Rattle.shown_clauses.specs.meaning.Caused.{count_uncommitted, is_last_outcome, same_failed, same_reason, same_event}
use Rattle.caused_laws.specs.ServiceTerms.{kind_of}
use Rattle.caused_laws.proofs.FactsKnown.{terms_by}
use Rattle.caused_laws.proofs.OutcomesTold.{count-first, count-last, is_last, count_is, sent_outcomes}
use Rattle.caused_laws.proofs.Repeating.{marked_comes}
use Rattle.caused_laws.proofs.Slots.{eq_self}
use Rattle.caused_laws.proofs.Standing.{SoFar, past_of, IsOpen, Knows, submission}
use Rattle.caused_laws.proofs.Submitting.{and_both, fails_comes}
use Rattle.caused_laws.proofs.Taking.{eq_true, is_above, took, TakesBy}

le_from : (a b : ℕ) → a ≤ b → nat_le a b ≡ true
le_from a b le = grind (arith, nat_tests)

le_to : (a b : ℕ) → nat_le a b ≡ true → a ≤ b
le_to a b e = grind (arith, nat_tests)

lt_to : (a b : ℕ) → nat_le a b ≡ false → b < a
lt_to a b e = grind (arith, nat_tests)

other : (a b : ℕ) → a < b → (a == b) ≡ false
other a b lt = grind (arith, nat_tests)

reason_self : (r : Reason) → same_reason r r ≡ true
reason_self reason.Off = refl
reason_self reason.AfterCommit = refl
reason_self (reason.Restricted n) = eq_self n
reason_self (reason.Settings n) = eq_self n
reason_self (reason.Asked n) = eq_self n
reason_self (reason.Full n) = eq_self n
reason_self (reason.StateLost n) = eq_self n

event_self : (event : ℕ) → 0 < event → same_event event event ≡ true
event_self event above = and_both (nat_lt 0 event) (event == event) (is_above event above) (eq_self event)

-- the same error of the same event
pub disabled_self : (r : Reason) (event : ℕ) → 0 < event → same_failed (Some (failure.Disabled r event)) (Some (failure.Disabled r event)) ≡ true
disabled_self r event above = and_both (same_reason r r) (same_event event event) (reason_self r) (event_self event above)

module _ (service : ServiceOf) (rules : Rules) (told : List Answer → List ℕ) (ruled : rules ≡ rules_of (kind_of service.failover service.consistency)) (request : Request) (copy : RequestReport) where
  abbrev terms : Terms
  terms = terms_by service rules told

  module _ (s : SoFar) (step : Step) (connection sent : ℕ) (served : Served) (a : Account) (talk : Talk) (state : Asking)
      (knows : Knows service rules told ruled request copy a s.steps s.facts s.course) (is_open : IsOpen service a.reason s.course) (tries : a.tries ≡ 0)
      (last : a.last ≡ Some (up.Outcome state.ltxid)) (tracked : Tracked terms request.calls a state.track) where
    abbrev here : Step
    here = took step connection sent served (item.Outcome state.ltxid result.Uncommitted)

    abbrev outcome : Heard
    outcome = record { ltxid = state.ltxid; committed = false; completed = false }

    abbrev heard : Account
    heard = hears_outcome a false false (Some (up.Outcome state.ltxid))

    module _ (alive : Bool) (above : 0 < state.event) (ended : ended_of (here ∷ s.steps) step.lost ≡ state.event) where
      hears_is : hears terms a (Took (down.OutcomeIs false false) alive) step.tick None ≡ heard
      hears_is = ap (hears_outcome a false false) last

      many : count_by says_uncommitted (outcomes_of (here ∷ s.steps)) ≡ heard_uncommitted a + 1
      many =
          let e : count_by says_uncommitted (outcomes_of (here ∷ s.steps)) ≡ 1 + count_by says_uncommitted (outcomes_of s.steps) = count-first (told_outcome outcome) (outcomes_of s.steps) in
          let f : count_by says_uncommitted (outcomes_of s.steps) ≡ heard_uncommitted a = knows.count in
          omega arith

      -- THE LINES
      -- of the reason, how many outcomes said uncommitted, the tick of the first submission, and
      -- the event of the loss
      abbrev lines : Option Reason → ℕ → Option ℕ → ℕ → Option Failure
      lines why count first event =
          option_or (disabled_if true why event)
          (option_or (if is_none why && (count == service.replays + 1) then Some (failure.Replays service.replays event) else None)
          (if is_none why && nat_le count service.replays then timeout_by service step.tick first else None))

      abbrev seen : AtOutcome
      seen = at_outcome service (past_of s here) here (told_outcome outcome)

      lines_are : outcome_lines service seen ≡ lines (option_map report.reason_of a.reason) (heard_uncommitted a + 1) a.first state.event
      lines_are =
          ap (λ r. lines r seen.uncommitted seen.first seen.ended) knows.agrees.reason
          ∙ ap (λ n. lines (option_map report.reason_of a.reason) n seen.first seen.ended) many
          ∙ ap (λ f. lines (option_map report.reason_of a.reason) (heard_uncommitted a + 1) f seen.ended) knows.agrees.tick
          ∙ ap (lines (option_map report.reason_of a.reason) (heard_uncommitted a + 1) a.first) ended

      line_of : (w : Option Why) → a.reason ≡ w → line_at service (submission service rules told ruled request copy) (past_of s here) here here.did ≡ lines (option_map report.reason_of w) (heard_uncommitted a + 1) a.first state.event
      line_of w is = lines_are ∙ ap (λ (o : Option Why). lines (option_map report.reason_of o) (heard_uncommitted a + 1) a.first state.event) is

      -- THE REPORT
      outcomes_are : (fault : Failed) → copy.outcomes ≡ map told_outcome (after_step terms request.calls a (record { input = Took (down.OutcomeIs false false) alive; now = step.tick; act = (fails talk alive None fault).1 })).outcomes
          → copy.outcomes ≡ map told_outcome (a.outcomes ++ outcome ∷ [])
      outcomes_are fault is =
          is ∙ ap (map told_outcome) (sent_outcomes service rules told step.tick (fails talk alive None fault).1.send (hears terms a (Took (down.OutcomeIs false false) alive) step.tick None) ∙ ap (λ (h : Account). h.outcomes) hears_is)

      abbrev Leads : told_so.Told → Type 0
      Leads what = TakesBy service rules told ruled request copy a (Took (down.OutcomeIs false false) alive) s here sent (on_told terms talk state alive step.tick what)

      -- A REASON STANDS
      reasons : (w : Why) → state.track.why ≡ Some w → Leads (told_so.Disabled (over state) w)
      reasons w is sends_so =
          fails_comes service rules told ruled request copy s here a (Took (down.OutcomeIs false false) alive) talk alive None (failed.Disabled w state.event) (failure.Disabled (report.reason_of w) state.event) refl
          (disabled_self (report.reason_of w) state.event above) (line_of (Some w) (sym tracked.why ∙ is))
          (λ outcomes. is_last copy a.outcomes outcome (outcomes_are (failed.Disabled w state.event) outcomes))

      -- NO REASON STANDS
      module _ (none : state.track.why ≡ None) where
        no_reason : a.reason ≡ None
        no_reason = sym tracked.why ∙ none

        replayed : nat_le service.replays state.track.replays ≡ true → Leads (told_so.Replays (over state))
        replayed is sends_so =
            let e : service.replays ≤ state.track.replays = le_to service.replays state.track.replays is in
            let f : state.track.replays ≡ heard_uncommitted a = tracked.replays in
            let g : state.track.replays ≤ service.replays = tracked.few in
            let all : heard_uncommitted a + 1 ≡ service.replays + 1 = omega arith in
            let full : (heard_uncommitted a + 1 == service.replays + 1) ≡ true = eq_true (heard_uncommitted a + 1) (service.replays + 1) all in
            fails_comes service rules told ruled request copy s here a (Took (down.OutcomeIs false false) alive) talk alive None (failed.Replays service.replays state.event) (failure.Replays service.replays state.event) refl
            (and_both (service.replays == service.replays) (same_event state.event state.event) (eq_self service.replays) (event_self state.event above))
            (line_of None no_reason
            ∙ ap (λ (b : Bool). option_or (if b then Some (failure.Replays service.replays state.event) else None) (if nat_le (heard_uncommitted a + 1) service.replays then timeout_by service step.tick a.first else None)) full)
            (λ outcomes.
            let told_all : copy.outcomes ≡ map told_outcome (a.outcomes ++ outcome ∷ []) = outcomes_are (failed.Replays service.replays state.event) outcomes in
            and_both (is_last_outcome (Some (told_outcome outcome)) copy) (count_uncommitted copy == service.replays + 1) (is_last copy a.outcomes outcome told_all)
            (eq_true (count_uncommitted copy) (service.replays + 1) (count_is copy a.outcomes outcome told_all ∙ all)))

        module _ (few : nat_le service.replays state.track.replays ≡ false) where
          few_said : heard_uncommitted a + 1 ≤ service.replays
          few_said =
              let e : state.track.replays < service.replays = lt_to service.replays state.track.replays few in
              let f : state.track.replays ≡ heard_uncommitted a = tracked.replays in
              omega arith

          -- no line but that of the ticks is left
          late_line : line_at service (submission service rules told ruled request copy) (past_of s here) here here.did ≡ timeout_by service step.tick state.track.first
          late_line =
              let lt : heard_uncommitted a + 1 < service.replays + 1 = (let e : heard_uncommitted a + 1 ≤ service.replays = few_said in omega arith) in
              line_of None no_reason
              ∙ ap (λ (b : Bool). option_or (if b then Some (failure.Replays service.replays state.event) else None) (if nat_le (heard_uncommitted a + 1) service.replays then timeout_by service step.tick a.first else None)) (other (heard_uncommitted a + 1) (service.replays + 1) lt)
              ∙ ap (λ (b : Bool). if b then timeout_by service step.tick a.first else None) (le_from (heard_uncommitted a + 1) service.replays few_said)
              ∙ ap (timeout_by service step.tick) (sym tracked.first)

          timeout_is : (first : Option ℕ) (b : Bool) → is_late service.timeout first step.tick ≡ b
              → timeout_by service step.tick first ≡ (if b then Some (failure.ReplayTimeout (unwrap_or first 0) step.tick) else None)
          timeout_is None true is = absurd (let no : ⊥ = cc in no)
          timeout_is None false is = refl
          timeout_is (Some first) b is = ap (λ (t : Bool). if t then Some (failure.ReplayTimeout first step.tick) else None) is

          late : is_late service.timeout state.track.first step.tick ≡ true → Leads (told_so.Late (over state))
          late is sends_so =
              fails_comes service rules told ruled request copy s here a (Took (down.OutcomeIs false false) alive) talk alive None (failed.ReplayTimeout (unwrap_or state.track.first 0) step.tick) (failure.ReplayTimeout (unwrap_or state.track.first 0) step.tick) refl
              (and_both (unwrap_or state.track.first 0 == unwrap_or state.track.first 0) (step.tick == step.tick) (eq_self (unwrap_or state.track.first 0)) (eq_self step.tick))
              (late_line ∙ timeout_is state.track.first true is)
              (λ outcomes.
              let told_all : copy.outcomes ≡ map told_outcome (a.outcomes ++ outcome ∷ []) = outcomes_are (failed.ReplayTimeout (unwrap_or state.track.first 0) step.tick) outcomes in
              and_both (is_last_outcome (Some (told_outcome outcome)) copy) (nat_le (count_uncommitted copy) service.replays) (is_last copy a.outcomes outcome told_all)
              (ap (λ n. nat_le n service.replays) (count_is copy a.outcomes outcome told_all) ∙ le_from (heard_uncommitted a + 1) service.replays few_said))

          -- A REPLAY BEGINS
          replay : (call : Call) → slice_get request.calls (length a.shown) ≡ Some call → next_call talk ≡ Some call → is_late service.timeout state.track.first step.tick ≡ false → Leads (told_so.Replay (repeated state))
          replay call there follows is sends_so =
              marked_comes service rules told ruled request copy s step connection sent served (item.Outcome state.ltxid result.Uncommitted) (record s.course { behind = s.course.since }) heard (repeated state)
              (record {
                takes = record { facts_are = refl; course_is = refl };
                knows = record {
                  agrees = record {
                    unshown = knows.agrees.unshown;
                    index = knows.agrees.index;
                    ahead = knows.agrees.ahead;
                    many = knows.agrees.many;
                    reason = knows.agrees.reason;
                    recorded = knows.agrees.recorded;
                    tick = knows.agrees.tick;
                    sets = knows.agrees.sets;
                    known_tick = knows.agrees.known_tick;
                    known_reason = knows.agrees.known_reason;
                  };
                  count = many ∙ sym (count-last a.outcomes outcome);
                  downs = sym tries;
                };
                tries = tries;
                is_open = record { submitted = is_open.submitted; stands = is_open.stands };
                line = late_line ∙ timeout_is state.track.first false is;
                unshown = refl;
                comes = refl;
                left =
                    let e : length a.since_purge ≡ s.course.since = knows.agrees.recorded no_reason in
                    let f : length state.track.recorder.calls ≡ length a.since_purge = ap length (tracked.recorded none) in
                    let g : s.course.since + 0 ≡ length state.track.recorder.calls = omega arith in g;
              })
              a (down.OutcomeIs false false) alive hears_is talk (Some talk.settings) call there follows (next_of (repeated state)) refl sends_so

          late_or : (call : Call) → slice_get request.calls (length a.shown) ≡ Some call → next_call talk ≡ Some call → (b : Bool) → is_late service.timeout state.track.first step.tick ≡ b
              → Leads (if b then told_so.Late (over state) else told_so.Replay (repeated state))
          late_or call there follows true is = late is
          late_or call there follows false is = replay call there follows is

        replays_or : (call : Call) → slice_get request.calls (length a.shown) ≡ Some call → next_call talk ≡ Some call → (b : Bool) → nat_le service.replays state.track.replays ≡ b
            → Leads (if b then told_so.Replays (over state) else (if is_late service.timeout state.track.first step.tick then told_so.Late (over state) else told_so.Replay (repeated state)))
        replays_or call there follows true is = replayed is
        replays_or call there follows false is = late_or is call there follows (is_late service.timeout state.track.first step.tick) refl

      pub uncommitted_comes : (call : Call) → slice_get request.calls (length a.shown) ≡ Some call → next_call talk ≡ Some call → (w : Option Why) → state.track.why ≡ w
          → Leads (uncommitted w state terms.limits step.tick)
      uncommitted_comes call there follows (Some w) is = reasons w is
      uncommitted_comes call there follows None is = replays_or is call there follows (nat_le service.replays state.track.replays) refl
