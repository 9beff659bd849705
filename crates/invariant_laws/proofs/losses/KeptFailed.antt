-- Of Lost: an outcome that says committed and not completed is what its request failed with, at the
-- start and behind each event.
use Rattle.std.proofs.Common.{◌≡◌, refl, sym, ap, subst, ◌∙◌, Bool, true, false, ℕ, ◌&&◌, ◌||◌, List, Option, None}
use Rattle.std.specs.Prelude.{not, option_and_then}
use Rattle.std.specs.List.{list_all}
use Rattle.std.proofs.lemmas.Bool.{and_parts, and_from}
use Rattle.svc_values.specs.declared.frame.Down.TheVariants as down
use Rattle.svc_values.specs.SameLaws.{same_ltxid_decides}
use Rattle.outage_schedule.specs.declared.failure.Failure.{Failure}
use Rattle.outage_schedule.specs.declared.item.Served.{Served}
use Rattle.outage_schedule.specs.declared.request.Outcome.{Outcome}
use Rattle.run_clauses.specs.meaning.Reports.{failure_of, failed_in, report_of}
use Rattle.client_model.specs.declared.act.Failed.{Failed}
use Rattle.client_model.specs.declared.act.Hold.{Hold}
use Rattle.client_model.specs.declared.act.Hold.TheVariants as hold
use Rattle.client_model.specs.declared.input.Input.{Input}
use Rattle.client_model.specs.declared.input.Input.TheVariants.{Took}
use Rattle.client_model.specs.Conversation.{is_wanted, is_gone}
use Rattle.client_model.specs.meaning.States.{Asking}
use Rattle.client_model.specs.meaning.Talk.{Step, takes, talk_step, wants_in, wants_of}
use Rattle.client_model.specs.meaning.Terms.{Terms, Talk, Phase, Idle, Asked}
use Rattle.world_model.specs.meaning.Clients.{Doing}
use Rattle.world_model.specs.Orderly.{Orderly}
use Rattle.invariant_laws.specs.KeptLaws.{IsKeptOfAll}
use Rattle.world_model.specs.meaning.Links.{Link}
use Rattle.invariant_laws.specs.Lost.{fails_incomplete, is_told, is_failed_by, fail_incomplete}
use Rattle.world_model.specs.meaning.Machines.{Machine}
use Rattle.world_model.specs.meaning.Matching.{Noted}
use Rattle.world_model.specs.Parts.{implies}
use Rattle.world_model.specs.meaning.Settings.{setting_of}
use Rattle.world_model.specs.Traced.{Traced, Course, courses_of}
use Rattle.world_model.specs.Words.{dones_of}
use Rattle.world_model.proofs.Offered.{append_all, weaker_all, HasStepped, GoesOn, AtOnce, LostToo, happens_step, Followed, follow_happens, at_event, resting_none, Happens, first_step, first_doing, before_talks}
use Rattle.invariant_laws.proofs.losses.LostKept.{course_before, course_kept, course_ended, KeepsLost, lost_kept}
use Rattle.invariant_laws.proofs.losses.LostSteps.{over_failed}
use Rattle.invariant_laws.proofs.losses.OutcomesTold.{told_more, outcomes_are}
use Rattle.invariant_laws.proofs.talks.TalkRuns.{is_idle, running_unfailed}

-- OUTCOMES ----------------------------------------------------------------------------------------

-- an outcome that says committed and not completed is that of this error
abbrev failed_by : Option Failure → Outcome → Bool
failed_by failure outcome = implies (outcome.committed && not outcome.completed) (fails_incomplete outcome.ltxid failure)

-- where there was no error there was no such outcome
none_failed : (failure : Option Failure) (outcome : Outcome) → failed_by None outcome ≡ true → failed_by failure outcome ≡ true
none_failed failure outcome here = by (outcome.committed && not outcome.completed) here
  where
    by : (told : Bool) → implies told false ≡ true → implies told (fails_incomplete outcome.ltxid failure) ≡ true
    by true here = absurd (let none : ⊥ = cc in none)
    by false here = refl

told_failed : (course : Course) (outcome : Outcome) → is_told course outcome ≡ true → is_failed_by course outcome ≡ true
told_failed course outcome here = by outcome.committed outcome.completed here
  where
    by : (committed completed : Bool) → is_told course (record outcome { committed = committed; completed = completed }) ≡ true → is_failed_by course (record outcome { committed = committed; completed = completed }) ≡ true
    by true true here = refl
    by true false here = here
    by false completed here = refl

-- A STEP ------------------------------------------------------------------------------------------

-- a request that steps is not idle
pub idle_wants : (terms : Terms) (talk : Talk) (phase : Phase) (now : ℕ) (input : Input) → is_wanted (wants_in terms talk phase now) input ≡ true → is_idle phase ≡ false
idle_wants terms talk Idle now input is = absurd (let none : ⊥ = cc in none)
idle_wants terms talk phase now input is = refl

-- what it fails with at an outcome that says committed and not completed
incomplete_fails : (terms : Terms) (talk : Talk) (asking : Asking) (alive : Bool) (now : ℕ) → talk.phase ≡ Asked asking
    → fails_incomplete asking.ltxid (option_and_then failure_of (talk_step terms talk (Took (down.OutcomeIs true false) alive) now).1.failed) ≡ true
incomplete_fails terms talk asking alive now phase =
    ap (λ (p : Phase). fails_incomplete asking.ltxid (option_and_then failure_of (takes terms talk p (down.OutcomeIs true false) alive now).1.failed)) phase ∙ (same_ltxid_decides asking.ltxid asking.ltxid).1 refl

incomplete_drops : (terms : Terms) (talk : Talk) (asking : Asking) (alive : Bool) (now : ℕ) → talk.phase ≡ Asked asking → (talk_step terms talk (Took (down.OutcomeIs true false) alive) now).1.hold ≡ hold.Drop
incomplete_drops terms talk asking alive now phase = ap (λ (p : Phase). (takes terms talk p (down.OutcomeIs true false) alive now).1.hold) phase

pub kept_hold : (setting : _) (first : Doing) (held : Hold) (after : Doing) (kept : Hold) → GoesOn setting first held after kept → kept ≡ hold.Keep → held ≡ hold.Keep
kept_hold setting first held _ _ AtOnce keep = keep
kept_hold setting first held _ _ (LostToo event tick ended is) keep = is

-- the outcome of a step
told_by_step : (failure : Option Failure) (input : Input) (phase : Phase) → ((asking : Asking) (alive : Bool) → input ≡ Took (down.OutcomeIs true false) alive → phase ≡ Asked asking → fails_incomplete asking.ltxid failure ≡ true)
    → list_all (failed_by failure) (told_more input phase) ≡ true
told_by_step failure (Took (down.OutcomeIs true false) alive) (Asked asking) fails = and_from (fails_incomplete asking.ltxid failure) true (fails asking alive refl refl) refl
told_by_step failure (Took (down.OutcomeIs true true) alive) (Asked asking) fails = refl
told_by_step failure (Took (down.OutcomeIs false completed) alive) (Asked asking) fails = refl
told_by_step failure input phase fails = refl

-- EVENTS ------------------------------------------------------------------------------------------

module _ (t : Traced) (inv : Orderly t) (new : Traced) (setting : new.setting ≡ t.setting) (items left : List Served) (kind : Noted) (happens : Happens t.setting (at_event t.machine) items left kind new.machine) where
  abbrev now : Machine
  now = at_event t.machine

  abbrev failed_test : List Link → Course → Bool
  failed_test links course = list_all (is_failed_by course) course.report.outcomes

  module _ (who : ℕ) (step : HasStepped t.setting now who new.machine) where
    abbrev before : Course
    before = course_before t inv new setting items left kind happens who step

    abbrev step_on : Input → Step
    step_on input = talk_step t.setting.terms step.before.talk input now.tick

    abbrev failure_now : Option Failure
    failure_now = option_and_then failure_of (failed_in (dones_of step.after.steps))

    -- it had not failed
    was_none : failed_in (dones_of step.before.steps) ≡ None
    was_none =
        running_unfailed t.setting.terms false step.before (before_talks t.setting now inv.script.talks who new.machine step)
        (idle_wants t.setting.terms step.before.talk step.before.talk.phase now.tick step.input (and_parts (is_wanted (wants_of t.setting.terms step.before.talk now.tick) step.input) (is_gone step.input || not false) step.may).0)

    step_so : ((asking : Asking) (alive : Bool) → step.input ≡ Took (down.OutcomeIs true false) alive → step.before.talk.phase ≡ Asked asking → fails_incomplete asking.ltxid failure_now ≡ true)
        → list_all (is_failed_by before) before.report.outcomes ≡ true → list_all (failed_by failure_now) (report_of t.setting.terms step.after.request (dones_of step.after.steps)).outcomes ≡ true
    step_so fails old =
        ap (list_all (failed_by failure_now)) (outcomes_are t inv who new.machine step)
        ∙ append_all (failed_by failure_now) before.report.outcomes (told_more step.input step.before.talk.phase)
        (weaker_all (failed_by None) (failed_by failure_now) before.report.outcomes (none_failed failure_now)
        (subst (λ (failure : Option Failed). list_all (failed_by (option_and_then failure_of failure)) before.report.outcomes ≡ true) was_none old))
        (told_by_step failure_now step.input step.before.talk.phase fails)

    -- one that goes on took none
    goes_so : step.held ≡ hold.Keep → list_all (is_failed_by before) before.report.outcomes ≡ true → failed_test new.machine.links (course_kept t inv new setting items left kind happens who step) ≡ true
    goes_so keep = step_so never
      where
        never : (asking : Asking) (alive : Bool) → step.input ≡ Took (down.OutcomeIs true false) alive → step.before.talk.phase ≡ Asked asking → fails_incomplete asking.ltxid failure_now ≡ true
        never asking alive is phase =
            let kept : (step_on step.input).1.hold ≡ hold.Keep =
            kept_hold t.setting (first_doing t.setting now inv.script.talks who new.machine step) (first_step t.setting now inv.script.talks who new.machine step).done.act.hold step.after step.held step.goes_on keep in
            let drops : (step_on step.input).1.hold ≡ hold.Drop = ap (λ (input : Input). (step_on input).1.hold) is ∙ incomplete_drops t.setting.terms step.before.talk asking alive now.tick phase in
            absurd (let both : hold.Keep ≡ hold.Drop = sym kept ∙ drops in let none : ⊥ = cc in none)

    ends_so : (step.held ≡ hold.Keep → ⊥) → list_all (is_failed_by before) before.report.outcomes ≡ true → failed_test new.machine.links (course_ended t inv new setting items left kind happens who step) ≡ true
    ends_so lets =
        step_so (λ asking alive is phase.
        ap (λ (failure : Option Failed). fails_incomplete asking.ltxid (option_and_then failure_of failure)) (over_failed t inv who new.machine step lets)
        ∙ (ap (λ (input : Input). fails_incomplete asking.ltxid (option_and_then failure_of (step_on input).1.failed)) is ∙ incomplete_fails t.setting.terms step.before.talk asking alive now.tick phase))

  keeps_failed : KeepsLost t inv new setting items left kind happens failed_test
  keeps_failed = record {
    others = λ course gone here. here;
    begins = λ who place request. refl;
    goes = λ who step keep gone here. goes_so who step keep here;
    ends = λ who step over gone here. ends_so who step over here;
  }

pub failed_law : IsKeptOfAll fail_incomplete
failed_law = record {
  at_start = λ document. resting_none (setting_of document) 1 (λ course. list_all (is_failed_by course) course.report.outcomes) document.clients;
  at_event = λ before after old new event note items left one inv.
      let by : Followed old.setting old.machine event note items left new.machine = follow_happens old.setting old.machine event note items left new.machine one.follows in
      lost_kept old inv.orderly new one.setting items left by.kind by.happens (failed_test old inv.orderly new one.setting items left by.kind by.happens)
      (keeps_failed old inv.orderly new one.setting items left by.kind by.happens) inv.lost.gone (happens_step old.setting (at_event old.machine) items left by.kind new.machine by.happens)
      (weaker_all (λ course. list_all (is_told course) course.report.outcomes) (λ course. list_all (is_failed_by course) course.report.outcomes) (courses_of old)
      (λ course here. weaker_all (is_told course) (is_failed_by course) course.report.outcomes (told_failed course) here) inv.lost.told);
}
