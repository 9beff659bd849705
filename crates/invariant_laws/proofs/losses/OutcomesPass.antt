-- A test of each outcome that a request took: behind an event it holds where it did before and
-- holds of what is told in the event.
use Rattle.std.proofs.Common.{◌≡◌, refl, sym, ap, subst, ◌∙◌, Bool, true, ℕ, length, List}
use Rattle.std.specs.List.{list_all}
use Rattle.std.proofs.lemmas.Bool.{and_from}
use Rattle.svc_values.specs.declared.frame.Down.TheVariants as down
use Rattle.outage_schedule.specs.declared.request.Outcome.{Outcome}
use Rattle.run_clauses.specs.meaning.Reports.{report_of}
use Rattle.client_model.specs.declared.input.Input.{Input}
use Rattle.client_model.specs.declared.input.Input.TheVariants.{Took}
use Rattle.client_model.specs.meaning.States.{Asking}
use Rattle.client_model.specs.meaning.Terms.{Phase, Asked}
use Rattle.world_model.specs.meaning.Clients.{Client, past_of}
use Rattle.world_model.specs.Orderly.{Orderly}
use Rattle.world_model.specs.meaning.Machines.{Machine}
use Rattle.world_model.specs.Traced.{Traced, Course, course_now, course_over, courses_of, courses_of_clients}
use Rattle.world_model.specs.Words.{dones_of}
use Rattle.world_model.proofs.Offered.{append_all, weaker_all, HasStepped, MayStep, Still, Closed, Stepped, all_step, at_event}
use Rattle.invariant_laws.proofs.losses.LostSteps.{before_so}
use Rattle.invariant_laws.proofs.losses.OutcomesTold.{told_more, outcomes_are}

-- each outcome that it took passes
abbrev pub outcomes_pass : (Outcome → Bool) → Course → Bool
outcomes_pass passes course = list_all passes course.report.outcomes

-- the outcome of a step
told_all : (passes : Outcome → Bool) (input : Input) (phase : Phase)
    → ((asking : Asking) (committed completed alive : Bool) → input ≡ Took (down.OutcomeIs committed completed) alive → phase ≡ Asked asking → passes (record { ltxid = asking.ltxid; committed = committed; completed = completed }) ≡ true)
    → list_all passes (told_more input phase) ≡ true
told_all passes (Took (down.OutcomeIs committed completed) alive) (Asked asking) so =
    and_from (passes (record { ltxid = asking.ltxid; committed = committed; completed = completed })) true (so asking committed completed alive refl refl) refl
told_all passes input phase so = refl

module _ (old : Traced) (n : Machine) (inv : Orderly old) (test passes : Outcome → Bool) (outcomes : list_all (outcomes_pass test) (courses_of old) ≡ true) (still : (outcome : Outcome) → test outcome ≡ true → passes outcome ≡ true)
    (told : (number : ℕ) (step : HasStepped old.setting (at_event old.machine) number n) (asking : Asking) (committed completed alive : Bool) → step.input ≡ Took (down.OutcomeIs committed completed) alive → step.before.talk.phase ≡ Asked asking
    → passes (record { ltxid = asking.ltxid; committed = committed; completed = completed }) ≡ true) where
  others_pass : (course : Course) → outcomes_pass test course ≡ true → outcomes_pass passes course ≡ true
  others_pass course here = weaker_all test passes course.report.outcomes still here

  untouched : (clients : List Client) → clients ≡ old.machine.clients → list_all (outcomes_pass passes) (courses_of_clients old.setting 1 clients) ≡ true
  untouched clients same =
      subst (λ (c : List Client). list_all (outcomes_pass passes) (courses_of_clients old.setting 1 c) ≡ true) (sym same) (weaker_all (outcomes_pass test) (outcomes_pass passes) (courses_of old) others_pass outcomes)

  module _ (number : ℕ) (step : HasStepped old.setting (at_event old.machine) number n) where
    abbrev before : Course
    before = course_now old.setting number (length step.client.past) step.before

    steps_pass : (d : Course) → d.report.outcomes ≡ (report_of old.setting.terms step.after.request (dones_of step.after.steps)).outcomes → outcomes_pass passes d ≡ true
    steps_pass d is =
        ap (list_all passes) (is ∙ outcomes_are old inv number n step)
        ∙ append_all passes before.report.outcomes (told_more step.input step.before.talk.phase) (others_pass before (before_so old inv number n step (outcomes_pass test) outcomes (λ request. refl)))
        (told_all passes step.input step.before.talk.phase (told number step))

  -- behind the event
  pub may_pass : MayStep old.setting (at_event old.machine) n → list_all (outcomes_pass passes) (courses_of_clients old.setting 1 n.clients) ≡ true
  may_pass (Still same sents) = untouched n.clients same
  may_pass (Closed same sents) = untouched n.clients same
  may_pass (Stepped number step) =
      all_step old.setting (outcomes_pass test) (outcomes_pass passes) (record { client = number; place = length step.client.past }) (λ course differs. others_pass course) (at_event old.machine) number n step refl
      (λ keep. steps_pass number step (course_now old.setting number (length step.client.past) step.after) refl)
      (λ over. steps_pass number step (course_over number (length step.client.past) (past_of old.setting.terms step.after)) refl) outcomes
