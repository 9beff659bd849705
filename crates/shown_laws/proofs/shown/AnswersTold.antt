-- Each call of a report was answered: by a reply to that call of the script, of a session of the
-- report, or by an outcome that the report has.
use Rattle.std.proofs.Common.{◌≡◌, refl, sym, ap, subst, ◌∙◌, append_assoc, Bool, true, false, ◌&&◌, ◌||◌, List, [], ◌∷◌, ◌++◌, map, Option, Some, None, option_to_list}
use Rattle.std.specs.Prelude.{filter_map, option_and_then}
use Rattle.std.specs.List.{list_all, list_any, cons_option}
use Rattle.std.proofs.lemmas.Bool.{and_parts, and_from, or_right}
use Rattle.svc_values.specs.declared.call.Call.{Call}
use Rattle.svc_values.specs.declared.entry.Ltxid.{Ltxid}
use Rattle.svc_values.specs.meaning.Calls.{is_lone_commit}
use Rattle.svc_values.specs.meaning.Identifiers.{same_session, same_ltxid}
use Rattle.svc_values.specs.meaning.Same.{same_call}
use Rattle.svc_values.specs.SameLaws.{same_ltxid_decides}
use Rattle.client_model.specs.meaning.Account.{account_of}
use Rattle.client_model.specs.declared.act.Shown.{Shown as ShownNow}
use Rattle.outage_schedule.specs.declared.document.Request.{Request}
use Rattle.outage_schedule.specs.declared.item.Item.{Item}
use Rattle.outage_schedule.specs.declared.item.Item.TheVariants as item
use Rattle.outage_schedule.specs.declared.item.Served.{Served}
use Rattle.outage_schedule.specs.declared.note.AskResult.TheVariants as told
use Rattle.outage_schedule.specs.declared.request.Outcome.{Outcome}
use Rattle.outage_schedule.specs.declared.request.RequestReport.{RequestReport}
use Rattle.outage_schedule.specs.declared.request.ShownCall.{ShownCall}
use Rattle.run_clauses.specs.meaning.Reports.{shown_call}
use Rattle.run_clauses.specs.meaning.Tried.{holds}
use Rattle.shown_clauses.specs.meaning.Parts.{Part}
use Rattle.shown_clauses.specs.meaning.Showings.{Shown, shown_with, shown_calls, tried_by_call, showings, showing_at, outcome_at, outcome_told, says_completed, is_served, calls_served}
use Rattle.shown_clauses.specs.meaning.Steps.{Step as StepTold}
use Rattle.shown_clauses.specs.meaning.Submissions.{Submission}
use Rattle.world_model.specs.Words.{dones_of}
use Rattle.shown_laws.specs.AnswersTold.{is_answered, calls_answered, CallsAreAnswered, is_lone, outcomes_lone}
use Rattle.shown_laws.specs.ShowingsTold.{ShownBy, ByReply, ByOutcome, AreShownBy, NoneShown, OneShown}
use Rattle.shown_laws.specs.Tellings.{steps_in_tellings, FinishesTellSteps}
use Rattle.shown_laws.proofs.shown.OwnShown.{own_right}
use Rattle.shown_laws.proofs.shown.PartsHold.{HoldsOfTold, FinishesStand, finishes_hold}
use Rattle.shown_laws.proofs.steps.PartsSplit.{part_gives}
use Rattle.shown_laws.proofs.shown.ScriptShown.{is_of_call, are_of, request_scripts}
use Rattle.shown_laws.proofs.shown.ShowingsHold.{quiet_shows, outcomes_listed, calls_listed, shown_by_part}
use Rattle.shown_laws.proofs.shown.ShownOnSessions.{is_own}
use Rattle.shown_laws.proofs.shown.StepsAdd.{shown_item}

-- OUTCOMES ----------------------------------------------------------------------------------------

-- where an outcome showed it, these have the outcome
abbrev is_told_in : List Outcome → Item → Bool
is_told_in outcomes (item.Outcome x result) = list_any (says_completed x) outcomes
is_told_in outcomes _ = true

any_among : (test : Outcome → Bool) (before rest : List Outcome) (one : Outcome) → test one ≡ true → list_any test (before ++ one ∷ rest) ≡ true
any_among test [] rest one is = ap (λ (b : Bool). b || list_any test rest) is
any_among test (first ∷ before) rest one is = or_right (test first) (list_any test (before ++ one ∷ rest)) (any_among test before rest one is)

all_cons : (test : Served → Bool) (found : Option Served) (rest : List Served) → list_all test (option_to_list found) ≡ true → list_all test rest ≡ true → list_all test (cons_option found rest) ≡ true
all_cons test None rest here later = later
all_cons test (Some one) rest here later = and_from (test one) (list_all test rest) (and_parts (test one) true here).0 later

says_itself : (x : Ltxid) → says_completed x (record { ltxid = x; committed = true; completed = true }) ≡ true
says_itself x = and_from (same_ltxid x x) true ((same_ltxid_decides x x).1 refl) refl

module _ (outcomes : List Outcome) where
  abbrev told_served : Served → Bool
  told_served one = is_told_in outcomes one.item

  item_told : (served : Served) (one : Item) (before rest : List Outcome) → served.item ≡ one → outcomes ≡ before ++ cons_option (outcome_told one) rest → list_all told_served (option_to_list (shown_item served one)) ≡ true
  item_told served (item.Outcome x (told.Committed true)) before rest is all =
      and_from (told_served served) true
      (ap (is_told_in outcomes) is ∙ (ap (list_any (says_completed x)) all ∙ any_among (says_completed x) before rest (record { ltxid = x; committed = true; completed = true }) (says_itself x))) refl
  item_told served (item.Outcome x (told.Committed false)) before rest is all = refl
  item_told served (item.Outcome x told.Uncommitted) before rest is all = refl
  item_told served (item.Outcome x (told.ServerAhead next)) before rest is all = refl
  item_told served (item.Outcome x (told.ClientAhead next)) before rest is all = refl
  item_told served (item.Outcome x (told.Forgotten horizon)) before rest is all = refl
  item_told served (item.Call false call answers draws) before rest is all = and_from (told_served served) true (ap (is_told_in outcomes) is) refl
  item_told served (item.Call true call answers draws) before rest is all = refl
  item_told served _ before rest is all = refl

  step_told : (step : StepTold) (taken : Option Served) (before rest : List Outcome) → step.taken ≡ taken → outcomes ≡ before ++ cons_option (outcome_at step) rest → list_all told_served (option_to_list (showing_at step)) ≡ true
  step_told step None before rest is all = ap (λ (o : Option Served). list_all told_served (option_to_list (option_and_then (λ (one : Served). shown_item one one.item) o))) is
  step_told step (Some served) before rest is all =
      ap (λ (o : Option Served). list_all told_served (option_to_list (option_and_then (λ (one : Served). shown_item one one.item) o))) is
      ∙ item_told served served.item before rest refl (all ∙ ap (λ (o : Option Served). before ++ cons_option (option_and_then (λ (one : Served). outcome_told one.item) o) rest) is)

  next_before : (before : List Outcome) (found : Option Outcome) (rest : List Outcome) → before ++ cons_option found rest ≡ (before ++ option_to_list found) ++ rest
  next_before before None rest = sym (append_assoc before [] rest)
  next_before before (Some one) rest = sym (append_assoc before (one ∷ []) rest)

  -- each outcome that showed a call is among those that these steps took
  steps_told_in : (before : List Outcome) (steps : List StepTold) → outcomes ≡ before ++ filter_map outcome_at steps → list_all told_served (showings steps) ≡ true
  steps_told_in before [] all = refl
  steps_told_in before (step ∷ steps) all =
      all_cons told_served (showing_at step) (showings steps) (step_told step step.taken before (filter_map outcome_at steps) refl all)
      (steps_told_in (before ++ option_to_list (outcome_at step)) steps (all ∙ next_before before (outcome_at step) (filter_map outcome_at steps)))

-- EACH CALL ---------------------------------------------------------------------------------------

one_answered : (copy : RequestReport) (call : Call) (tried : List Ltxid) (shown : ShownNow) (served : Served) → ShownBy shown served → is_of_call call served.item ≡ true → is_own copy.sessions served ≡ true → is_told_in copy.outcomes served.item ≡ true
    → is_answered copy (record { call = call; tried = tried; shown = shown_call shown; showing = served }) served.item ≡ true
one_answered copy call tried shown served (ByReply other commits is identified) script own told_so =
    ap (is_answered copy (record { call = call; tried = tried; shown = shown_call shown; showing = served })) is
    ∙ and_from (same_call call other) (list_any (same_session served.session) copy.sessions) (sym (ap (is_of_call call) is) ∙ script) own
one_answered copy call tried shown served (ByOutcome x is answers draws) script own told_so =
    ap (is_answered copy (record { call = call; tried = tried; shown = shown_call shown; showing = served })) is ∙ (sym (ap (is_told_in copy.outcomes) is) ∙ told_so)

all_answered : (copy : RequestReport) (calls : List Call) (tried : List (List Ltxid)) (shown : List ShownNow) (items : List Served) → AreShownBy shown items → are_of calls items ≡ true → list_all (is_own copy.sessions) items ≡ true
    → list_all (told_served copy.outcomes) items ≡ true → list_all (λ one. is_answered copy one one.showing.item) (shown_with calls tried (map shown_call shown) items) ≡ true
all_answered copy [] tried shown items is script own told_so = refl
all_answered copy (call ∷ calls) [] shown items is script own told_so = refl
all_answered copy (call ∷ calls) (ids ∷ tried) _ _ NoneShown script own told_so = refl
all_answered copy (call ∷ calls) (ids ∷ tried) _ _ (OneShown shown served more items is rest) script own told_so =
    let scripts = and_parts (is_of_call call served.item) (are_of calls items) script in
    let owns = and_parts (is_own copy.sessions served) (list_all (is_own copy.sessions) items) own in
    let tolds = and_parts (told_served copy.outcomes served) (list_all (told_served copy.outcomes) items) told_so in
    and_from (is_answered copy (record { call = call; tried = ids; shown = shown_call shown; showing = served }) served.item) (list_all (λ one. is_answered copy one one.showing.item) (shown_with calls tried (map shown_call more) items))
    (one_answered copy call ids shown served is scripts.0 owns.0 tolds.0) (all_answered copy calls tried more items rest scripts.1 owns.1 tolds.1)

answered_right : HoldsOfTold calls_answered
answered_right setting client place one tellings part told =
    subst (λ (calls : List ShownCall). list_all (λ one. is_answered part.submission.copy one one.showing.item) (shown_with part.submission.request.calls (tried_by_call part.submission.copy) calls (showings part.steps)) ≡ true)
    (sym (calls_listed setting client place one tellings part told))
    (all_answered part.submission.copy part.submission.request.calls (tried_by_call part.submission.copy) (account_of setting.terms one.request.calls (dones_of one.steps)).shown (showings part.steps)
    (shown_by_part setting client place one tellings part told)
    (subst (λ (request : Request). are_of request.calls (showings part.steps) ≡ true) (sym (ap (λ (s : Submission). s.request) told.is))
    (ap (are_of one.request.calls) (part_gives showing_at quiet_shows (steps_in_tellings tellings) part told.parts) ∙ request_scripts setting client place one.request tellings one.steps told.tells))
    (own_right setting client place one tellings part told) (steps_told_in part.submission.copy.outcomes [] part.steps (outcomes_listed setting client place one tellings part told)))

pub calls_are_answered : FinishesStand → FinishesTellSteps → CallsAreAnswered
calls_are_answered stands tell = finishes_hold stands tell calls_answered answered_right

-- SERVED ------------------------------------------------------------------------------------------

served_by : (copy : RequestReport) (one : Shown) (it : Item) → is_answered copy one it ≡ true → is_lone one it ≡ true → is_served copy one it ≡ true
served_by copy one (item.Call replay call answers draws) answered lone = answered
served_by copy one (item.Outcome x result) answered lone =
    let both = and_parts (is_lone_commit one.call) (holds one.tried x) lone in
    and_from (is_lone_commit one.call) (holds one.tried x && list_any (says_completed x) copy.outcomes) both.0 (and_from (holds one.tried x) (list_any (says_completed x) copy.outcomes) both.1 answered)
served_by copy one _ answered lone = answered

all_served : (copy : RequestReport) (all : List Shown) → list_all (λ one. is_answered copy one one.showing.item) all ≡ true → list_all (λ one. is_lone one one.showing.item) all ≡ true → list_all (λ one. is_served copy one one.showing.item) all ≡ true
all_served copy [] answered lone = refl
all_served copy (one ∷ all) answered lone =
    let first = and_parts (is_answered copy one one.showing.item) (list_all (λ one. is_answered copy one one.showing.item) all) answered in
    let second = and_parts (is_lone one one.showing.item) (list_all (λ one. is_lone one one.showing.item) all) lone in
    and_from (is_served copy one one.showing.item) (list_all (λ one. is_served copy one one.showing.item) all) (served_by copy one one.showing.item first.0 second.0) (all_served copy all first.1 second.1)

-- A part whose outcomes showed lone commits of their transactions has its calls served.
pub parts_served : (part : Part) → calls_answered part ≡ true → outcomes_lone part ≡ true → calls_served part ≡ true
parts_served part answered lone = all_served part.submission.copy (shown_calls part) answered lone
