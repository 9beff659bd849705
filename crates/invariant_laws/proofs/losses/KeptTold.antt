-- Of Lost: where an outcome was taken that says committed and completed, the call that was sent
-- under its identifier was shown as committed. At the start and behind each event.
use Rattle.std.proofs.Common.{◌≡◌, refl, sym, ap, subst, ◌∙◌, Bool, true, false, ℕ, ◌&&◌, length, List, [], ◌∷◌, ◌++◌, map, Option, Some, None}
use Rattle.std.specs.Prelude.{◌==◌, slice_get, is_none}
use Rattle.std.specs.List.{list_all, list_any}
use Rattle.std.specs.Option.{option_map_or}
use Rattle.std.proofs.lemmas.Bool.{and_parts, and_from}
use Rattle.std.proofs.lemmas.List.{append-nil, map-append}
use Rattle.svc_values.specs.declared.answer.Answer.{Answer}
use Rattle.svc_values.specs.declared.entry.Ltxid.{Ltxid}
use Rattle.svc_values.specs.declared.frame.Down.TheVariants as down
use Rattle.svc_values.specs.meaning.Calls.{has_commit}
use Rattle.svc_values.specs.meaning.Endings.{ends_committed}
use Rattle.svc_values.specs.meaning.Identifiers.{same_ltxid}
use Rattle.outage_schedule.specs.declared.item.Served.{Served}
use Rattle.outage_schedule.specs.declared.request.Outcome.{Outcome}
use Rattle.outage_schedule.specs.declared.request.ShownCall.{ShownCall}
use Rattle.run_clauses.specs.meaning.Reports.{shown_call, report_of}
use Rattle.client_model.specs.declared.act.Act.{Act}
use Rattle.client_model.specs.declared.input.Input.{Input}
use Rattle.client_model.specs.declared.input.Input.TheVariants.{Took}
use Rattle.client_model.specs.meaning.Account.{Account, account_of, unheard}
use Rattle.client_model.specs.meaning.States.{Asking}
use Rattle.client_model.specs.meaning.Conversation.{Done}
use Rattle.client_model.specs.Conversation.{talk_after}
use Rattle.client_model.specs.meaning.Talk.{next_call, talk_step}
use Rattle.client_model.specs.meaning.Terms.{Terms, Talk, Phase, Asked}
use Rattle.client_model.proofs.Offered.{Fits, IsTalk, first_talks, last_talks, next_left}
use Rattle.world_model.specs.meaning.Clients.{Doing}
use Rattle.world_model.specs.records.Conversing.{Talks, inputs_of, first_talk}
use Rattle.invariant_laws.specs.Invariant.{Invariant}
use Rattle.world_model.specs.Orderly.{Orderly}
use Rattle.invariant_laws.specs.KeptLaws.{IsKeptOfAll}
use Rattle.world_model.specs.meaning.Links.{Link}
use Rattle.invariant_laws.specs.Lost.{is_failed_by, is_told, are_told}
use Rattle.world_model.specs.meaning.Machines.{Machine}
use Rattle.world_model.specs.meaning.Matching.{Noted}
use Rattle.world_model.specs.Parts.{Sending, answered, implies, sendings_of}
use Rattle.world_model.specs.meaning.Settings.{setting_of}
use Rattle.world_model.specs.Traced.{Traced, Course, courses_of}
use Rattle.world_model.specs.Words.{dones_of}
use Rattle.world_model.proofs.Offered.{append_all, weaker_all, HasStepped, happens_step, Followed, follow_happens, at_event, resting_none, any_with, Happens, get_further, get_last, scan_by, heard_scan, after_sendings, account_now, first_step, first_doing, before_talks, eq_from}
use Rattle.invariant_laws.proofs.sendings.CommittedSendings.{is_unanswered}
use Rattle.invariant_laws.proofs.losses.KeptFailed.{failed_law}
use Rattle.invariant_laws.proofs.losses.LostKept.{both_all, course_before, KeepsLost, lost_kept}
use Rattle.invariant_laws.proofs.losses.OutcomesTold.{told_more, outcomes_are}
use Rattle.invariant_laws.proofs.rows.RowSteps.{ShownStep, NoneMore, OneMore, shown_step, shown_after, shown_more, before_fits}
use Rattle.invariant_laws.proofs.sendings.SendingsTaken.{answered_any, frames_any}
use Rattle.invariant_laws.proofs.talks.TalkCompletes.{completed_as, completed_shows}
use Rattle.invariant_laws.proofs.talks.TalkRuns.{is_idle}
use Rattle.invariant_laws.proofs.losses.AskedSendings.{sent_one}

-- CALLS -------------------------------------------------------------------------------------------

-- a sending under this identifier was shown as committed
abbrev shows_so : List ShownCall → Ltxid → Sending → Bool
shows_so calls x sending = same_ltxid sending.ltxid x && option_map_or (λ shown. ends_committed shown.answers) (slice_get calls sending.at) false

shows_further : (calls more : List ShownCall) (x : Ltxid) (sending : Sending) → shows_so calls x sending ≡ true → shows_so (calls ++ more) x sending ≡ true
shows_further calls more x sending here =
    let parts = and_parts (same_ltxid sending.ltxid x) (option_map_or (λ shown. ends_committed shown.answers) (slice_get calls sending.at) false) here in
    and_from (same_ltxid sending.ltxid x) (option_map_or (λ shown. ends_committed shown.answers) (slice_get (calls ++ more) sending.at) false) parts.0 (by (slice_get calls sending.at) refl parts.1)
  where
    by : (found : Option ShownCall) → slice_get calls sending.at ≡ found → option_map_or (λ shown. ends_committed shown.answers) found false ≡ true
        → option_map_or (λ shown. ends_committed shown.answers) (slice_get (calls ++ more) sending.at) false ≡ true
    by None is here = absurd (let none : ⊥ = cc in none)
    by (Some shown) is here = ap (λ (one : Option ShownCall). option_map_or (λ shown. ends_committed shown.answers) one false) (get_further calls more sending.at shown is) ∙ here

any_weaker : (test next : Sending → Bool) (xs : List Sending) → ((x : Sending) → test x ≡ true → next x ≡ true) → list_any test xs ≡ true → list_any next xs ≡ true
any_weaker test next xs weaker any = any_with test (λ x. true) next xs (λ x here passes. weaker x here) any (all_true xs)
  where
    all_true : (ys : List Sending) → list_all (λ y. true) ys ≡ true
    all_true [] = refl
    all_true (y ∷ ys) = all_true ys

-- an outcome that says committed and completed
abbrev completes : List ShownCall → List Sending → Outcome → Bool
completes calls sendings outcome = implies (outcome.committed && outcome.completed) (list_any (shows_so calls outcome.ltxid) sendings)

told_all : (calls : List ShownCall) (sendings : List Sending) (input : Input) (phase : Phase)
    → ((asking : Asking) (alive : Bool) → input ≡ Took (down.OutcomeIs true true) alive → phase ≡ Asked asking → list_any (shows_so calls asking.ltxid) sendings ≡ true) → list_all (completes calls sendings) (told_more input phase) ≡ true
told_all calls sendings (Took (down.OutcomeIs true true) alive) (Asked asking) so = and_from (list_any (shows_so calls asking.ltxid) sendings) true (so asking alive refl refl) refl
told_all calls sendings (Took (down.OutcomeIs true false) alive) (Asked asking) so = refl
told_all calls sendings (Took (down.OutcomeIs false completed) alive) (Asked asking) so = refl
told_all calls sendings input phase so = refl

-- it is told rightly
completed_told : (course : Course) (outcome : Outcome) → is_told course outcome ≡ true → completes course.report.calls (sendings_of course) outcome ≡ true
completed_told course outcome here = by outcome.committed outcome.completed here
  where
    by : (committed completed : Bool) → is_told course (record outcome { committed = committed; completed = completed }) ≡ true → completes course.report.calls (sendings_of course) (record outcome { committed = committed; completed = completed }) ≡ true
    by true true here = here
    by true false here = refl
    by false completed here = refl

both_told : (course : Course) (outcome : Outcome) → (completes course.report.calls (sendings_of course) outcome && is_failed_by course outcome) ≡ true → is_told course outcome ≡ true
both_told course outcome here =
    let parts = and_parts (completes course.report.calls (sendings_of course) outcome) (is_failed_by course outcome) here in by outcome.committed outcome.completed parts.0 parts.1
  where
    by : (committed completed : Bool) → completes course.report.calls (sendings_of course) (record outcome { committed = committed; completed = completed }) ≡ true → is_failed_by course (record outcome { committed = committed; completed = completed }) ≡ true
        → is_told course (record outcome { committed = committed; completed = completed }) ≡ true
    by true true shows failed = shows
    by true false shows failed = failed
    by false completed shows failed = refl

-- EVENTS ------------------------------------------------------------------------------------------

-- the rest of a talk fits its account
pub talk_is : (terms : Terms) (doing : Doing) → Talks terms false doing → is_idle doing.talk.phase ≡ false → IsTalk terms doing.request.settings doing.request.calls (account_now terms doing) doing.talk
talk_is terms doing talks busy =
    let talk : Talk = first_talk doing.request in
    subst (λ (one : Talk). IsTalk terms doing.request.settings doing.request.calls (account_now terms doing) one) talks.stands
    (subst (λ (dones : List Done). IsTalk terms doing.request.settings doing.request.calls (account_of terms doing.request.calls dones) (talk_after terms talk (inputs_of doing.steps))) (sym talks.converses.acts)
    (last_talks terms doing.request.settings doing.request.calls (inputs_of doing.steps) unheard false talk (λ e. first_talks terms doing.request.settings doing.request.calls) refl talks.converses.may
    (ap (λ (one : Talk). is_idle one.phase) talks.stands ∙ busy)))

module _ (t : Traced) (whole : Invariant t) (new : Traced) (setting : new.setting ≡ t.setting) (items left : List Served) (kind : Noted) (happens : Happens t.setting (at_event t.machine) items left kind new.machine) where
  abbrev now : Machine
  now = at_event t.machine

  inv : Orderly t
  inv = whole.orderly

  abbrev told_test : List Link → Course → Bool
  told_test links course = list_all (completes course.report.calls (sendings_of course)) course.report.outcomes

  module _ (who : ℕ) (step : HasStepped t.setting now who new.machine) where
    abbrev before : Course
    before = course_before t whole.orderly new setting items left kind happens who step

    abbrev act : Act
    act = (first_step t.setting now whole.orderly.script.talks who new.machine step).done.act

    abbrev account_before : Account
    account_before = account_now t.setting.terms step.before

    abbrev count : ℕ
    count = length before.report.calls

    abbrev calls_after : List ShownCall
    calls_after = map shown_call (account_now t.setting.terms step.after).shown

    abbrev sendings_after : List Sending
    sendings_after = (scan_by before.owner step.after.steps).sendings

    -- CALLS AND SENDINGS STAY
    -- -----------------------------------------------------------------------

    calls_more : (more : List ShownCall) × (calls_after ≡ before.report.calls ++ more)
    calls_more = by (shown_step t.setting now whole.orderly.script.talks who new.machine step)
      where
        by : ShownStep account_before.shown (account_now t.setting.terms (first_doing t.setting now whole.orderly.script.talks who new.machine step)).shown act.shown → (more : List ShownCall) × (calls_after ≡ before.report.calls ++ more)
        by (NoneMore same) = ([], ap (map shown_call) (shown_after t.setting now whole.orderly.script.talks who new.machine step ∙ same) ∙ sym (append-nil before.report.calls))
        by (OneMore shown is more) =
            (shown_call shown ∷ [], ap (map shown_call) (shown_after t.setting now whole.orderly.script.talks who new.machine step ∙ more) ∙ map-append shown_call account_before.shown (shown ∷ []))

    sendings_more : (test : Sending → Bool) → ((sending : Sending) (answers : List Answer) → test sending ≡ true → test (record sending { taken = Some answers }) ≡ true) → list_any test (sendings_of before) ≡ true → list_any test sendings_after ≡ true
    sendings_more test stays any =
        ap (list_any test) (after_sendings t.setting now whole.orderly.script.talks who new.machine step)
        ∙ frames_any test stays (heard_scan t.setting now whole.orderly.script.talks who new.machine step) act.send (answered step.input act.shown (sendings_of before)) (answered_any test stays step.input act.shown (sendings_of before) any)

    shows_still : (x : Ltxid) → list_any (shows_so before.report.calls x) (sendings_of before) ≡ true → list_any (shows_so calls_after x) sendings_after ≡ true
    shows_still x any =
        ap (λ (calls : List ShownCall). list_any (shows_so calls x) sendings_after) calls_more.1
        ∙ sendings_more (shows_so (before.report.calls ++ calls_more.0) x) (λ sending answers here. here)
        (any_weaker (shows_so before.report.calls x) (shows_so (before.report.calls ++ calls_more.0) x) (sendings_of before) (shows_further before.report.calls calls_more.0 x) any)

    -- THE OUTCOME
    -- -----------------------------------------------------------------------------------

    module _ (asking : Asking) (alive : Bool) (input : step.input ≡ Took (down.OutcomeIs true true) alive) (phase : step.before.talk.phase ≡ Asked asking) where
      abbrev x : Ltxid
      x = asking.ltxid

      fits_at : (p : Phase) → step.before.talk.phase ≡ p → Fits t.setting.terms step.before.request.calls account_before (before_fits t.setting now whole.orderly.script.talks who new.machine step).gone p
      fits_at p is =
          subst (λ (q : Phase). Fits t.setting.terms step.before.request.calls account_before (before_fits t.setting now whole.orderly.script.talks who new.machine step).gone q) is
          (before_fits t.setting now whole.orderly.script.talks who new.machine step).fits

      -- THE CALL IS SHOWN
      -- ---------------------------------------------------------------------------

      pub shown_is : act.shown ≡ Some (completed_as asking)
      shown_is =
          let fits = fits_at (Asked asking) phase in
          let next : next_call step.before.talk ≡ Some fits.0.left.one =
          sym (next_left t.setting.terms step.before.request.settings step.before.request.calls account_before step.before.talk asking.track
          (talk_is t.setting.terms step.before (before_talks t.setting now whole.orderly.script.talks who new.machine step) (ap is_idle phase)) fits.0.tracked) ∙ fits.0.left.is in
          ap (λ (one : Input). (talk_step t.setting.terms step.before.talk one now.tick).1.shown) input ∙ completed_shows t.setting.terms step.before.talk asking alive now.tick fits.0.left.one phase next

      calls_are : calls_after ≡ before.report.calls ++ shown_call (completed_as asking) ∷ []
      calls_are =
          let fits = fits_at (Asked asking) phase in
          let at : slice_get step.before.request.calls (length account_before.shown) ≡ Some fits.0.left.one = ap (slice_get step.before.request.calls) (sym fits.0.tracked.call) ∙ fits.0.left.is in
          ap (map shown_call) (shown_after t.setting now whole.orderly.script.talks who new.machine step ∙ shown_more t.setting now whole.orderly.script.talks who new.machine step (completed_as asking) fits.0.left.one shown_is at)
          ∙ map-append shown_call account_before.shown (completed_as asking ∷ [])

      -- it is shown then
      shows_now : list_any (shows_so calls_after x) sendings_after ≡ true
      shows_now =
          ap (λ (calls : List ShownCall). list_any (shows_so calls x) sendings_after) calls_are
          ∙ any_weaker (λ (s : Sending). same_ltxid s.ltxid x && (s.at == count)) (shows_so (before.report.calls ++ shown_call (completed_as asking) ∷ []) x) sendings_after shows
          (sendings_more (λ (s : Sending). same_ltxid s.ltxid x && (s.at == count)) (λ sending answers here. here)
          (any_weaker (is_unanswered x count) (λ (s : Sending). same_ltxid s.ltxid x && (s.at == count)) (sendings_of before) sent (sent_one t whole who new.machine step asking true alive input phase)))
        where
          sent : (s : Sending) → is_unanswered x count s ≡ true → (same_ltxid s.ltxid x && (s.at == count)) ≡ true
          sent s here =
              let one = and_parts (same_ltxid s.ltxid x) _ here in
              and_from (same_ltxid s.ltxid x) (s.at == count) one.0 (and_parts (s.at == count) (has_commit s.call && is_none s.taken) one.1).0

          shows : (s : Sending) → (same_ltxid s.ltxid x && (s.at == count)) ≡ true → shows_so (before.report.calls ++ shown_call (completed_as asking) ∷ []) x s ≡ true
          shows s here =
              let parts = and_parts (same_ltxid s.ltxid x) (s.at == count) here in
              and_from (same_ltxid s.ltxid x) (option_map_or (λ shown. ends_committed shown.answers) (slice_get (before.report.calls ++ shown_call (completed_as asking) ∷ []) s.at) false) parts.0
              (ap (λ (found : Option ShownCall). option_map_or (λ shown. ends_committed shown.answers) found false)
              (ap (slice_get (before.report.calls ++ shown_call (completed_as asking) ∷ [])) (eq_from s.at count parts.1) ∙ get_last before.report.calls (shown_call (completed_as asking))))

    step_told : told_test t.machine.links before ≡ true → list_all (completes calls_after sendings_after) (report_of t.setting.terms step.after.request (dones_of step.after.steps)).outcomes ≡ true
    step_told old =
        ap (list_all (completes calls_after sendings_after)) (outcomes_are t whole.orderly who new.machine step)
        ∙ append_all (completes calls_after sendings_after) before.report.outcomes (told_more step.input step.before.talk.phase)
        (weaker_all (completes before.report.calls (sendings_of before)) (completes calls_after sendings_after) before.report.outcomes (λ outcome here. by (outcome.committed && outcome.completed) outcome.ltxid here) old)
        (told_all calls_after sendings_after step.input step.before.talk.phase shows_now)
      where
        by : (told : Bool) (y : Ltxid) → implies told (list_any (shows_so before.report.calls y) (sendings_of before)) ≡ true → implies told (list_any (shows_so calls_after y) sendings_after) ≡ true
        by true y here = shows_still y here
        by false y here = refl

  keeps_told : KeepsLost t whole.orderly new setting items left kind happens told_test
  keeps_told = record {
    others = λ course gone here. here;
    begins = λ who place request. refl;
    goes = λ who step keep gone here. step_told who step here;
    ends = λ who step over gone here. step_told who step here;
  }

pub told_law : IsKeptOfAll are_told
told_law = record {
  at_start = λ document. resting_none (setting_of document) 1 (λ course. list_all (is_told course) course.report.outcomes) document.clients;
  at_event = λ before after old new event note items left one inv.
      let by : Followed old.setting old.machine event note items left new.machine = follow_happens old.setting old.machine event note items left new.machine one.follows in
      let completed : list_all (told_test old inv new one.setting items left by.kind by.happens new.machine.links) (courses_of new) ≡ true =
      lost_kept old inv.orderly new one.setting items left by.kind by.happens (told_test old inv new one.setting items left by.kind by.happens) (keeps_told old inv new one.setting items left by.kind by.happens) inv.lost.gone
      (happens_step old.setting (at_event old.machine) items left by.kind new.machine by.happens)
      (weaker_all (λ course. list_all (is_told course) course.report.outcomes) (λ course. list_all (completes course.report.calls (sendings_of course)) course.report.outcomes) (courses_of old)
      (λ course here. weaker_all (is_told course) (completes course.report.calls (sendings_of course)) course.report.outcomes (completed_told course) here) inv.lost.told) in
      weaker_all (λ course. list_all (completes course.report.calls (sendings_of course)) course.report.outcomes && list_all (is_failed_by course) course.report.outcomes) (λ course. list_all (is_told course) course.report.outcomes) (courses_of new)
      (λ course here.
      let parts = and_parts (list_all (completes course.report.calls (sendings_of course)) course.report.outcomes) (list_all (is_failed_by course) course.report.outcomes) here in
      weaker_all (λ outcome. completes course.report.calls (sendings_of course) outcome && is_failed_by course outcome) (is_told course) course.report.outcomes (both_told course)
      (both_all (completes course.report.calls (sendings_of course)) (is_failed_by course) course.report.outcomes parts.0 parts.1))
      (both_all (λ course. list_all (completes course.report.calls (sendings_of course)) course.report.outcomes) (λ course. list_all (is_failed_by course) course.report.outcomes) (courses_of new) completed
      (failed_law.at_event before after old new event note items left one inv));
}
