-- Each Begin of a request goes with its first call, or with one behind a call that was shown with a
-- decided commit: at the start and behind each event.
use Rattle.std.proofs.Common.{◌≡◌, refl, sym, ap, subst, ◌∙◌, Bool, true, ℕ, length, List, ◌++◌, map, Some}
use Rattle.std.specs.Prelude.{unwrap_or}
use Rattle.std.specs.List.{list_all}
use Rattle.svc_values.specs.declared.frame.Up.{Up}
use Rattle.svc_values.specs.declared.frame.Up.TheVariants as up
use Rattle.outage_schedule.specs.declared.request.ShownCall.{ShownCall}
use Rattle.pool_core.specs.declared.answers.Back.{Back}
use Rattle.pool_core.specs.declared.answers.Back.TheVariants as back
use Rattle.pool_core.specs.meaning.Slots.{give_back_answer}
use Rattle.client_model.specs.declared.act.Act.{Act}
use Rattle.client_model.specs.declared.act.Hold.{Hold}
use Rattle.client_model.specs.declared.act.Hold.TheVariants.{GiveBack}
use Rattle.run_clauses.specs.meaning.Reports.{shown_call}
use Rattle.world_model.specs.meaning.Acting.{closing, frames_of, call_in}
use Rattle.world_model.specs.meaning.Clients.{client_at}
use Rattle.world_model.specs.records.Conversing.{AllTalk}
use Rattle.invariant_laws.specs.FirstCalls.{begins_behind, begin_decided}
use Rattle.world_model.specs.meaning.Frames.{Sent}
use Rattle.invariant_laws.specs.KeptLaws.{StaysTrue}
use Rattle.world_model.specs.meaning.Machines.{Machine}
use Rattle.world_model.specs.Parts.{implies}
use Rattle.world_model.specs.Sames.{owned_by}
use Rattle.world_model.specs.records.Script.{is_kept}
use Rattle.world_model.specs.meaning.Settings.{Setting}
use Rattle.world_model.specs.Traced.{Traced, Course, course_now, courses_of}
use Rattle.world_model.proofs.Offered.{append_all, HasStepped, StepPasses, frames_start, frames_event, at_event, account_now, first_step, first_doing}
use Rattle.invariant_laws.proofs.talks.BeginsStep.{IsRule, rule_of}
use Rattle.invariant_laws.proofs.talks.DecidedStep.{begins_decided, decided_more, grows}

abbrev pub carries : Course → Sent → Bool
carries course sent = implies (owned_by course.owner sent) (begins_behind course.report.calls sent.call sent.frame)

still_begins : (shown more : List ShownCall) (index : ℕ) (frame : Up) → begins_behind shown index frame ≡ true → begins_behind (shown ++ more) index frame ≡ true
still_begins shown more index (up.Begin settings) is = decided_more shown more index is
still_begins shown more index frame is = refl

closing_begins : (shown : List ShownCall) (index : ℕ) (held : Hold) (how : Back) → list_all (begins_behind shown index) (closing held how) ≡ true
closing_begins shown index GiveBack back.Closed = refl
closing_begins shown index held how = refl

-- at a step
step_begins : (t : Traced) (m : Machine) (talks : AllTalk t.setting.terms m.clients) (number : ℕ) (n : Machine) (step : HasStepped t.setting m number n) → IsRule t.setting.terms.rules → client_at t.machine.clients number ≡ Some step.client → list_all (is_kept t) (courses_of t) ≡ true
    → StepPasses (λ course. begins_behind course.report.calls) t.setting m talks number n step
step_begins t m talks number n step rule here kept course request report = record {
  says =
      subst (λ (shown : List ShownCall). list_all (begins_behind shown index) (frames_of step.pool (unwrap_or step.connection 0) act) ≡ true) (sym report)
      (append_all (begins_behind shown_after index) act.send (closing act.hold (give_back_answer step.pool (unwrap_or step.connection 0))) (begins_decided t m talks number n step rule here kept)
      (closing_begins shown_after index act.hold (give_back_answer step.pool (unwrap_or step.connection 0))));
  still = λ at frame is.
      let so = grows t m talks number n step rule here kept in
      ap (λ (shown : List ShownCall). begins_behind shown at frame) (report ∙ so.1) ∙ still_begins (course_now t.setting number (length step.client.past) step.before).report.calls so.0 at frame is;
}
  where
    act : Act
    act = (first_step t.setting m talks number n step).done.act

    index : ℕ
    index = call_in (first_doing t.setting m talks number n step).talk.phase

    shown_after : List ShownCall
    shown_after = map shown_call (account_now t.setting.terms step.after).shown

pub decided_law : StaysTrue begin_decided
decided_law = record {
  at_start = frames_start (λ course. begins_behind course.report.calls);
  at_event = λ before after old new event note items left one inv carry.
      let rule : IsRule old.setting.terms.rules = subst (λ (setting : Setting). IsRule setting.terms.rules) (sym inv.setting.same) (rule_of inv.setting.document.service.failover inv.setting.document.service.consistency) in
      frames_event (λ course. begins_behind course.report.calls) before after old new event note items left one inv
      (λ number step. step_begins old (at_event old.machine) inv.script.talks number new.machine step rule step.here inv.script.kept) carry;
}
