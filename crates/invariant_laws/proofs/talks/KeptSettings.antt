-- Each Begin of a request carries its settings, changed by each `set` before the call that follows
-- it: at the start and behind each event.
use Rattle.std.proofs.Common.{◌≡◌, refl, sym, ap, subst, ◌∙◌, Bool, true, ℕ}
use Rattle.std.specs.Prelude.{unwrap_or}
use Rattle.std.specs.List.{list_all}
use Rattle.outage_schedule.specs.declared.document.Request.{Request}
use Rattle.pool_core.specs.declared.answers.Back.{Back}
use Rattle.pool_core.specs.declared.answers.Back.TheVariants as back
use Rattle.pool_core.specs.meaning.Slots.{give_back_answer}
use Rattle.client_model.specs.declared.act.Act.{Act}
use Rattle.client_model.specs.declared.act.Hold.{Hold}
use Rattle.client_model.specs.declared.act.Hold.TheVariants.{GiveBack}
use Rattle.world_model.specs.meaning.Acting.{closing, frames_of, call_in}
use Rattle.invariant_laws.specs.Begins.{carries_settings, carry_settings}
use Rattle.world_model.specs.records.Conversing.{AllTalk}
use Rattle.world_model.specs.meaning.Frames.{Sent}
use Rattle.invariant_laws.specs.KeptLaws.{StaysTrue}
use Rattle.world_model.specs.meaning.Machines.{Machine}
use Rattle.world_model.specs.Parts.{implies}
use Rattle.world_model.specs.Sames.{owned_by}
use Rattle.world_model.specs.meaning.Settings.{Setting}
use Rattle.world_model.specs.Traced.{Course}
use Rattle.world_model.proofs.Offered.{append_all, HasStepped, StepPasses, frames_start, frames_event, at_event, first_step, first_doing, request_after}
use Rattle.invariant_laws.proofs.talks.BeginsStep.{IsRule, begins_rightly, rule_of}

abbrev pub carries : Course → Sent → Bool
carries course sent = implies (owned_by course.owner sent) (carries_settings course.request sent.call sent.frame)

closing_carries : (request : Request) (index : ℕ) (held : Hold) (how : Back) → list_all (carries_settings request index) (closing held how) ≡ true
closing_carries request index GiveBack back.Closed = refl
closing_carries request index held how = refl

-- at a step
step_carries : (setting : Setting) (m : Machine) (talks : AllTalk setting.terms m.clients) (number : ℕ) (n : Machine) (step : HasStepped setting m number n) → IsRule setting.terms.rules → StepPasses (λ course. carries_settings course.request) setting m talks number n step
step_carries setting m talks number n step rule course request shown = record {
  says =
      subst (λ (one : Request). list_all (carries_settings one index) (frames_of step.pool (unwrap_or step.connection 0) act) ≡ true) (sym same)
      (append_all (carries_settings step.before.request index) act.send (closing act.hold (give_back_answer step.pool (unwrap_or step.connection 0))) (begins_rightly setting m talks number n step rule)
      (closing_carries step.before.request index act.hold (give_back_answer step.pool (unwrap_or step.connection 0))));
  still = λ at frame is. ap (λ (one : Request). carries_settings one at frame) same ∙ is;
}
  where
    act : Act
    act = (first_step setting m talks number n step).done.act

    index : ℕ
    index = call_in (first_doing setting m talks number n step).talk.phase

    same : course.request ≡ step.before.request
    same = request ∙ request_after setting m talks number n step

pub settings_law : StaysTrue carry_settings
settings_law = record {
  at_start = frames_start (λ course. carries_settings course.request);
  at_event = λ before after old new event note items left one inv carry.
      let rule : IsRule old.setting.terms.rules = subst (λ (setting : Setting). IsRule setting.terms.rules) (sym inv.setting.same) (rule_of inv.setting.document.service.failover inv.setting.document.service.consistency) in
      frames_event (λ course. carries_settings course.request) before after old new event note items left one inv (λ number step. step_carries old.setting (at_event old.machine) inv.script.talks number new.machine step rule) carry;
}
