-- Of Script: a marked call carries the draws that were shown of its call, at the start and behind
-- each event.
use Rattle.std.proofs.Common.{◌≡◌, refl, sym, ap, subst, ◌∙◌, true, false, ℕ, ◌&&◌, length, append_assoc, List, [], ◌∷◌, map, Option, Some, None}
use Rattle.std.specs.Prelude.{◌==◌, unwrap_or, slice_get}
use Rattle.std.specs.Option.{option_map_or}
use Rattle.std.proofs.lemmas.Bool.{and_parts}
use Rattle.std.proofs.lemmas.List.{map-append}
use Rattle.svc_values.specs.declared.call.Call.{Call}
use Rattle.svc_values.specs.declared.draw.Draw.{Draw}
use Rattle.svc_values.specs.declared.frame.Up.{Up}
use Rattle.svc_values.specs.declared.frame.Up.TheVariants as up
use Rattle.svc_values.specs.meaning.Same.{same_call, same_draws}
use Rattle.call_recorder.specs.declared.recorded.Recorded.{Recorded}
use Rattle.outage_schedule.specs.declared.request.ShownCall.{ShownCall}
use Rattle.client_model.specs.declared.act.Shown.{Shown}
use Rattle.client_model.specs.meaning.States.{Repeating, next_of}
use Rattle.client_model.specs.meaning.Terms.{Phase, Idle, Unbegun, Queued, Seeking, Greeting, Asked, Running, Replaying}
use Rattle.client_model.specs.meaning.Verifying.{index_of}
use Rattle.world_model.specs.meaning.Acting.{frames_of, call_in}
use Rattle.world_model.specs.meaning.Clients.{Doing}
use Rattle.world_model.specs.records.Conversing.{AllTalk}
use Rattle.world_model.specs.OrderlyLaws.{IsKept}
use Rattle.world_model.specs.meaning.Machines.{Machine}
use Rattle.run_clauses.specs.meaning.Reports.{shown_call}
use Rattle.world_model.specs.records.Script.{has_shown_draws, carry_draws}
use Rattle.world_model.specs.meaning.Settings.{Setting}
use Rattle.world_model.specs.Traced.{Course, course_now}
use Rattle.world_model.proofs.events.AllLists.{weaker_all}
use Rattle.world_model.proofs.events.ClientSteps.{HasStepped}
use Rattle.world_model.proofs.events.CoursesGrow.{HasMore}
use Rattle.world_model.proofs.script.DrawsKept.{next_recalled, still_shown}
use Rattle.world_model.proofs.script.FramesKept.{StepPasses, frames_start, frames_event}
use Rattle.world_model.proofs.events.Happened.{at_event}
use Rattle.world_model.proofs.events.Lists.{get_mapped}
use Rattle.world_model.proofs.script.Recalling.{Recalled, ShownMore, get_further}
use Rattle.world_model.proofs.events.StepFacts.{account_now, shown_later, first_step, first_doing, first_fits, request_after, behind_first}
use Rattle.world_model.proofs.script.TalkFrames.{is_next, frame_fits, frames_fit}

module _ (setting : Setting) (m : Machine) (talks : AllTalk setting.terms m.clients) (number : ℕ) (n : Machine) (step : HasStepped setting m number n) where
  abbrev first : Doing
  first = first_doing setting m talks number n step

  -- a call that is repeated was shown so
  next_draws : (course : Course) (state : Repeating) (one : Recorded) (kept : List Draw) (call : Call) → course.report.calls ≡ map shown_call (account_now setting.terms step.after).shown → first.talk.phase ≡ Replaying state → next_of state ≡ Some one
      → same_draws kept one.draws ≡ true → has_shown_draws course (index_of state) (up.Call true kept call) ≡ true
  next_draws course state one kept call report phase next same =
      let recalled : Recalled (account_now setting.terms first).shown first.request.calls (index_of state) one = next_recalled setting.terms first state one (first_fits setting m talks number n step) phase next in
      let later : ShownMore setting.terms first.request.calls (account_now setting.terms first) (account_now setting.terms step.after) =
      shown_later setting.terms first step.after (request_after setting m talks number n step) (behind_first setting m talks number n step) in
      let there : slice_get course.report.calls (index_of state) ≡ Some (shown_call recalled.one) =
      ap (λ (calls : List ShownCall). slice_get calls (index_of state)) report
      ∙ get_mapped shown_call (account_now setting.terms step.after).shown (index_of state) recalled.one
      (ap (λ (shown : List Shown). slice_get shown (index_of state)) later.are ∙ get_further (account_now setting.terms first).shown later.more (index_of state) recalled.one recalled.is) in
      subst (λ (found : Option ShownCall). option_map_or (λ (shown : ShownCall). same_draws kept shown.draws) found false ≡ true) (sym there)
      (subst (λ (draws : List Draw). same_draws kept draws ≡ true) (sym recalled.draws) same)

  frame_draws : (course : Course) (frame : Up) → course.report.calls ≡ map shown_call (account_now setting.terms step.after).shown → frame_fits first.talk.phase frame ≡ true → has_shown_draws course (call_in first.talk.phase) frame ≡ true
  frame_draws course (up.Call true kept call) report fits = by first.talk.phase refl fits
    where
      found : (state : Repeating) → first.talk.phase ≡ Replaying state → (one : Option Recorded) → next_of state ≡ one → option_map_or (λ (r : Recorded). same_draws kept r.draws && same_call r.call call) one false ≡ true
          → has_shown_draws course (index_of state) (up.Call true kept call) ≡ true
      found state phase None next fits = absurd (let none : ⊥ = cc in none)
      found state phase (Some one) next fits = next_draws course state one kept call report phase next (and_parts (same_draws kept one.draws) (same_call one.call call) fits).0

      by : (phase : Phase) → first.talk.phase ≡ phase → is_next phase kept call ≡ true → has_shown_draws course (call_in phase) (up.Call true kept call) ≡ true
      by (Replaying state) is fits = found state is (next_of state) refl fits
      by Idle is fits = absurd (let none : ⊥ = cc in none)
      by Unbegun is fits = absurd (let none : ⊥ = cc in none)
      by (Queued from) is fits = absurd (let none : ⊥ = cc in none)
      by (Seeking lost) is fits = absurd (let none : ⊥ = cc in none)
      by (Greeting lost) is fits = absurd (let none : ⊥ = cc in none)
      by (Asked asking) is fits = absurd (let none : ⊥ = cc in none)
      by (Running state) is fits = absurd (let none : ⊥ = cc in none)
  frame_draws course (up.Call false kept call) report fits = (and_parts (length kept == 0) _ fits).0
  frame_draws course frame report fits = refl

  -- at its step
  step_draws : StepPasses has_shown_draws setting m talks number n step
  step_draws course request report = record {
    says =
        weaker_all (frame_fits first.talk.phase) (has_shown_draws course (call_in first.talk.phase)) (frames_of step.pool (unwrap_or step.connection 0) (first_step setting m talks number n step).done.act)
        (λ frame fits. frame_draws course frame report fits) (frames_fit setting.terms step.before.talk step.input m.tick step.pool (unwrap_or step.connection 0));
    still =
        still_shown (course_now setting number (length step.client.past) step.before) course (map shown_call later.more)
        (report ∙ (ap (λ (shown : List Shown). map shown_call shown) later.are ∙ map-append shown_call (account_now setting.terms step.before).shown later.more));
  }
    where
      all_more : HasMore step.before.steps step.after.steps
      all_more = record {
        more = first_step setting m talks number n step ∷ (behind_first setting m talks number n step).more;
        are = (behind_first setting m talks number n step).are ∙ append_assoc step.before.steps (first_step setting m talks number n step ∷ []) (behind_first setting m talks number n step).more;
      }

      later : ShownMore setting.terms step.before.request.calls (account_now setting.terms step.before) (account_now setting.terms step.after)
      later = shown_later setting.terms step.before step.after (request_after setting m talks number n step) all_more

pub draws_law : IsKept carry_draws
draws_law = record {
  at_start = frames_start has_shown_draws;
  at_event = λ before after old new event note items left one inv.
      frames_event has_shown_draws before after old new event note items left one inv (λ number step. step_draws old.setting (at_event old.machine) inv.script.talks number new.machine step) inv.script.marks;
}
