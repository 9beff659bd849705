-- Each call of a report was served: by a reply to it, or as a lone commit whose identifier stands
-- in the list of its transaction.
use Rattle.std.proofs.Common.{◌≡◌, refl, sym, ap, subst, ◌∙◌, Bool, true, ℕ, ◌&&◌, List, [], ◌∷◌, map, Some}
use Rattle.std.specs.Prelude.{slice_get}
use Rattle.std.specs.List.{list_all}
use Rattle.std.proofs.lemmas.Bool.{and_parts, and_from}
use Rattle.svc_values.specs.declared.entry.Ltxid.{Ltxid}
use Rattle.outage_schedule.specs.declared.item.Item.TheVariants as item
use Rattle.outage_schedule.specs.declared.item.Served.{Served}
use Rattle.outage_schedule.specs.declared.note.AskResult.{AskResult}
use Rattle.shown_clauses.specs.meaning.Parts.{Part, parts_of}
use Rattle.shown_clauses.specs.meaning.Showings.{showings, showing_at, tried_by_call, calls_served}
use Rattle.shown_clauses.specs.meaning.Steps.{steps_of}
use Rattle.shown_clauses.specs.meaning.Submissions.{Submission}
use Rattle.world_model.specs.meaning.Clients.{Past}
use Rattle.invariant_laws.specs.Once.{are_known, tells_tried}
use Rattle.world_model.specs.meaning.Settings.{Setting}
use Rattle.world_model.specs.Traced.{Traced, Course, course_over, courses_of}
use Rattle.shown_laws.specs.AnswersTold.{calls_answered, outcomes_lone, CallsAreAnswered, OutcomesAreLone, CallsAreServed}
use Rattle.shown_laws.specs.Submitted.{submission_of}
use Rattle.shown_laws.specs.Telling.{steps_told}
use Rattle.shown_laws.specs.Tellings.{Telling, steps_in_tellings, FinishesTellSteps}
use Rattle.shown_laws.proofs.shown.AnswersTold.{parts_served}
use Rattle.shown_laws.proofs.steps.CoursesOver.{both_hold}
use Rattle.shown_laws.proofs.shown.LoneOutcomes.{IsLoneAt, part_lone}
use Rattle.shown_laws.proofs.shown.OutcomesSent.{IsCommitSent, request_sent}
use Rattle.shown_laws.proofs.shown.OutcomesShown.{IsCommitted, outcome_committed}
use Rattle.shown_laws.proofs.shown.PartsHold.{IsTold, HoldsOfCourse, FinishesStand, finishes_hold_with}
use Rattle.shown_laws.proofs.steps.PartsSplit.{part_gives}
use Rattle.shown_laws.proofs.shown.ShowingsHold.{quiet_shows}
use Rattle.shown_laws.proofs.shown.TriedKept.{commit_tried}

-- LONE COMMITS ------------------------------------------------------------------------------------

-- its lists are those of its sendings, and what became of each is known
abbrev is_noted : Traced → Course → Bool
is_noted t course = tells_tried course && are_known t course

lone_at : (t : Traced) (setting : Setting) (client place : ℕ) (one : Past) (tellings : List Telling) (part : Part) → IsTold setting client place one tellings part → is_noted t (course_over client place one) ≡ true
    → (at : ℕ) (served : Served) (x : Ltxid) (result : AskResult) → slice_get (showings part.steps) at ≡ Some served → served.item ≡ item.Outcome x result → IsLoneAt part.submission.request.calls (tried_by_call part.submission.copy) at x
lone_at t setting client place one tellings part told noted at served x result there is =
    subst (λ (s : Submission). IsLoneAt s.request.calls (tried_by_call s.copy) at x) (sym told.is)
    (record { call = sent.call; there = sent.there; lone = sent.lone; list = commit_tried t.blocked (course_over client place one) at x both.0 both.1 committed.among committed.committed sent.sent })
  where
    both : (tells_tried (course_over client place one) ≡ true) × (are_known t (course_over client place one) ≡ true)
    both = and_parts (tells_tried (course_over client place one)) (are_known t (course_over client place one)) noted

    committed : IsCommitted one.report.calls at
    committed = subst (λ (s : Submission). IsCommitted s.copy.calls at) told.is (outcome_committed setting client place one tellings part told at served x result there is)

    sent : IsCommitSent one.request.calls (record { client = client; place = place }) one.steps at x
    sent =
        request_sent setting client place one.request tellings one.steps told.tells at served x result
        (sym (ap (λ (items : List Served). slice_get items at) (part_gives showing_at quiet_shows (steps_in_tellings tellings) part told.parts)) ∙ there) is

lone_right : (t : Traced) → HoldsOfCourse (is_noted t) outcomes_lone
lone_right t setting client place one tellings part told noted = part_lone part (lone_at t setting client place one tellings part told noted)

pub outcomes_are_lone : FinishesStand → FinishesTellSteps → OutcomesAreLone
outcomes_are_lone stands tell = finishes_hold_with stands tell is_noted (λ t inv. both_hold tells_tried (are_known t) (courses_of t) inv.once.tried inv.once.known) outcomes_lone lone_right

-- ALL CALLS ---------------------------------------------------------------------------------------

all_parts : (parts : List Part) → list_all calls_answered parts ≡ true → list_all outcomes_lone parts ≡ true → list_all calls_served parts ≡ true
all_parts [] answered lone = refl
all_parts (part ∷ parts) answered lone =
    let first = and_parts (calls_answered part) (list_all calls_answered parts) answered in
    let second = and_parts (outcomes_lone part) (list_all outcomes_lone parts) lone in
    and_from (calls_served part) (list_all calls_served parts) (parts_served part first.0 second.0) (all_parts parts first.1 second.1)

pub calls_are_served : CallsAreAnswered → OutcomesAreLone → CallsAreServed
calls_are_served answered lone document place notes items seen t client own right finishing here rests =
    all_parts (parts_of (map submission_of own.past) (steps_of client (steps_told notes items))) (answered document place notes items seen t client own right finishing here rests)
    (lone document place notes items seen t client own right finishing here rests)
