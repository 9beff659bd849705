-- The calls and the outcomes of a report are those that the steps of its request tell.
use Rattle.std.proofs.Common.{◌≡◌, refl, sym, ap, subst, ◌∙◌, true, ℕ, suc, ◌&&◌, length, List, [], ◌∷◌, map, None}
use Rattle.std.specs.Prelude.{◌==◌, filter_map, option_and_then}
use Rattle.std.specs.List.{list_all}
use Rattle.std.specs.Cmp.Lexicographic.{pointwise}
use Rattle.std.proofs.lemmas.Bool.{and_from}
use Rattle.svc_values.specs.declared.answer.Answer.TheVariants as answer
use Rattle.svc_values.specs.declared.call.Call.{Call}
use Rattle.svc_values.specs.declared.entry.Ltxid.{Ltxid}
use Rattle.svc_values.specs.meaning.Identifiers.{same_ltxid}
use Rattle.svc_values.specs.meaning.Same.{same_answers, same_bool, same_draws}
use Rattle.svc_values.specs.SameLaws.{same_answers_decide, same_bool_decides, same_draws_decide, same_ltxid_decides}
use Rattle.client_model.specs.meaning.Account.{Account, account_of}
use Rattle.client_model.specs.declared.act.Shown.{Shown}
use Rattle.outage_schedule.specs.declared.item.Item.{Item}
use Rattle.outage_schedule.specs.declared.item.Served.{Served}
use Rattle.outage_schedule.specs.declared.request.Outcome.{Outcome}
use Rattle.outage_schedule.specs.declared.request.RequestReport.{RequestReport}
use Rattle.outage_schedule.specs.declared.request.ShownCall.{ShownCall}
use Rattle.run_clauses.specs.meaning.Reports.{shown_call}
use Rattle.shown_clauses.specs.meaning.Fronts.{is_empty}
use Rattle.shown_clauses.specs.meaning.Parts.{Part}
use Rattle.shown_clauses.specs.meaning.Showings.{outcome_at, outcome_told, same_outcome, showing_at, showing_of, is_showing, showings, shown_with, shown_calls, tried_by_call, is_shown_by, has_its_showings}
use Rattle.shown_clauses.specs.Showings.{has_its_outcomes}
use Rattle.shown_clauses.specs.meaning.Steps.{Step as StepTold}
use Rattle.shown_clauses.specs.meaning.Submissions.{Submission}
use Rattle.world_model.specs.meaning.Clients.{Past}
use Rattle.world_model.specs.meaning.Settings.{Setting}
use Rattle.world_model.specs.Words.{dones_of}
use Rattle.shown_laws.specs.PartsTold.{IsQuiet, OutcomesAreTaken, CallsAreShown}
use Rattle.shown_laws.specs.ShowingsTold.{ShownBy, ByReply, ByOutcome, AreShownBy, NoneShown, OneShown}
use Rattle.shown_laws.specs.Tellings.{Telling, steps_in_tellings, FinishesTellSteps}
use Rattle.shown_laws.proofs.events.Lookups.{eq_to}
use Rattle.shown_laws.proofs.shown.PartsHold.{IsTold, HoldsOfTold, FinishesStand, finishes_hold}
use Rattle.shown_laws.proofs.steps.PartsSplit.{part_gives}
use Rattle.shown_laws.proofs.shown.RequestsAdd.{IsAccounted, request_accounted}

-- quiet steps show nothing, and take no outcome
pub quiet_shows : (step : StepTold) → IsQuiet step → showing_at step ≡ None
quiet_shows step is = ap (option_and_then (λ one. showing_of (is_showing one) one)) is.takes_none

quiet_tells : (step : StepTold) → IsQuiet step → outcome_at step ≡ None
quiet_tells step is = ap (option_and_then (λ one. outcome_told one.item)) is.takes_none

module _ (setting : Setting) (client place : ℕ) (one : Past) (tellings : List Telling) (part : Part) (told : IsTold setting client place one tellings part) where
  abbrev heard : Account
  heard = account_of setting.terms one.request.calls (dones_of one.steps)

  accounted : IsAccounted heard (steps_in_tellings tellings)
  accounted = request_accounted setting client place one.request tellings one.steps told.tells

  copied : part.submission.copy ≡ one.report
  copied = ap (λ (s : Submission). s.copy) told.is

  -- the outcomes that the steps of the part took
  pub outcomes_listed : part.submission.copy.outcomes ≡ filter_map outcome_at part.steps
  outcomes_listed =
      ap (λ (copy : RequestReport). copy.outcomes) (copied ∙ sym told.through.reported)
      ∙ (accounted.outcomes ∙ sym (part_gives outcome_at quiet_tells (steps_in_tellings tellings) part told.parts))

  -- the calls, and the showings of the part
  pub calls_listed : part.submission.copy.calls ≡ map shown_call heard.shown
  calls_listed = ap (λ (copy : RequestReport). copy.calls) (copied ∙ sym told.through.reported)

  pub shown_by_part : AreShownBy heard.shown (showings part.steps)
  shown_by_part = subst (AreShownBy heard.shown) (sym (part_gives showing_at quiet_shows (steps_in_tellings tellings) part told.parts)) accounted.shown

-- OUTCOMES ----------------------------------------------------------------------------------------

outcome_self : (one : Outcome) → same_outcome one one ≡ true
outcome_self one =
    and_from (same_ltxid one.ltxid one.ltxid) (same_bool one.committed one.committed && same_bool one.completed one.completed) ((same_ltxid_decides one.ltxid one.ltxid).1 refl)
    (and_from (same_bool one.committed one.committed) (same_bool one.completed one.completed) ((same_bool_decides one.committed one.committed).1 refl) ((same_bool_decides one.completed one.completed).1 refl))

outcomes_self : (outcomes : List Outcome) → pointwise same_outcome outcomes outcomes ≡ true
outcomes_self [] = refl
outcomes_self (one ∷ outcomes) = and_from (same_outcome one one) (pointwise same_outcome outcomes outcomes) (outcome_self one) (outcomes_self outcomes)

outcomes_right : HoldsOfTold has_its_outcomes
outcomes_right setting client place one tellings part told =
    subst (λ (found : List Outcome). pointwise same_outcome part.submission.copy.outcomes found ≡ true) (outcomes_listed setting client place one tellings part told) (outcomes_self part.submission.copy.outcomes)

pub outcomes_taken : FinishesStand → FinishesTellSteps → OutcomesAreTaken
outcomes_taken stands tell = finishes_hold stands tell has_its_outcomes outcomes_right

-- SHOWINGS ----------------------------------------------------------------------------------------

pub as_many : (shown : List Shown) (items : List Served) → AreShownBy shown items → length (map shown_call shown) ≡ length items
as_many _ _ NoneShown = refl
as_many _ _ (OneShown shown served more items is rest) = ap suc (as_many more items rest)

by_item : (call : Call) (tried : List Ltxid) (shown : Shown) (served : Served) → ShownBy shown served → is_shown_by (record { call = call; tried = tried; shown = shown_call shown; showing = served }) served.item ≡ true
by_item call tried shown served (ByReply other commits is identified) =
    subst (λ (one : Item). is_shown_by (record { call = call; tried = tried; shown = shown_call shown; showing = served }) one ≡ true) (sym is)
    (and_from (same_answers shown.answers shown.answers) (same_draws shown.draws shown.draws) ((same_answers_decide shown.answers shown.answers).1 refl) ((same_draws_decide shown.draws shown.draws).1 refl))
by_item call tried shown served (ByOutcome x is answers draws) =
    subst (λ (one : Item). is_shown_by (record { call = call; tried = tried; shown = shown_call shown; showing = served }) one ≡ true) (sym is)
    (and_from (same_answers shown.answers (answer.Committed ∷ [])) (is_empty shown.draws) ((same_answers_decide shown.answers (answer.Committed ∷ [])).1 answers) (ap is_empty draws))

by_items : (calls : List Call) (tried : List (List Ltxid)) (shown : List Shown) (items : List Served) → AreShownBy shown items → list_all (λ one. is_shown_by one one.showing.item) (shown_with calls tried (map shown_call shown) items) ≡ true
by_items [] tried shown items is = refl
by_items (call ∷ calls) [] shown items is = refl
by_items (call ∷ calls) (ids ∷ tried) _ _ NoneShown = refl
by_items (call ∷ calls) (ids ∷ tried) _ _ (OneShown shown served more items is rest) =
    and_from (is_shown_by (record { call = call; tried = ids; shown = shown_call shown; showing = served }) served.item) (list_all (λ one. is_shown_by one one.showing.item) (shown_with calls tried (map shown_call more) items))
    (by_item call ids shown served is) (by_items calls tried more items rest)

showings_right : HoldsOfTold has_its_showings
showings_right setting client place one tellings part told =
    and_from (length part.submission.copy.calls == length (showings part.steps)) (list_all (λ one. is_shown_by one one.showing.item) (shown_calls part))
    (eq_to (length part.submission.copy.calls) (length (showings part.steps)) (ap length listed ∙ as_many shown (showings part.steps) by))
    (subst (λ (calls : List ShownCall). list_all (λ one. is_shown_by one one.showing.item) (shown_with part.submission.request.calls (tried_by_call part.submission.copy) calls (showings part.steps)) ≡ true) (sym listed)
    (by_items part.submission.request.calls (tried_by_call part.submission.copy) shown (showings part.steps) by))
  where
    shown : List Shown
    shown = (account_of setting.terms one.request.calls (dones_of one.steps)).shown

    listed : part.submission.copy.calls ≡ map shown_call shown
    listed = calls_listed setting client place one tellings part told

    by : AreShownBy shown (showings part.steps)
    by = shown_by_part setting client place one tellings part told

pub calls_shown : FinishesStand → FinishesTellSteps → CallsAreShown
calls_shown stands tell = finishes_hold stands tell has_its_showings showings_right
