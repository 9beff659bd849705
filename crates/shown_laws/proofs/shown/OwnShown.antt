-- The calls of each report were shown by sessions of the report.
use Rattle.std.proofs.Common.{◌≡◌, refl, sym, ap, subst, ◌∙◌, append_assoc, true, ℕ, List, [], ◌∷◌, ◌++◌, Some, None, option_to_list}
use Rattle.std.specs.List.{list_all}
use Rattle.std.proofs.lemmas.Bool.{and_parts, and_from}
use Rattle.std.proofs.lemmas.List.{map-append}
use Rattle.std.proofs.lemmas.List.Elements.{filter_map-append}
use Rattle.std.proofs.lemmas.List.Folds.{list_all-append}
use Rattle.std.proofs.lemmas.List.Sums.{fold-append}
use Rattle.svc_values.specs.declared.call.Call.{Call}
use Rattle.svc_values.specs.declared.entry.Ltxid.{Ltxid}
use Rattle.svc_values.specs.declared.entry.SessionId.{SessionId}
use Rattle.client_model.specs.meaning.Account.{Account, unheard, after_step, account_of}
use Rattle.client_model.specs.meaning.Terms.{Terms}
use Rattle.client_model.specs.declared.input.Input.TheVariants.{Start}
use Rattle.outage_schedule.specs.declared.document.Request.{Request}
use Rattle.outage_schedule.specs.declared.item.Served.{Served}
use Rattle.outage_schedule.specs.declared.request.RequestReport.{RequestReport}
use Rattle.shown_clauses.specs.meaning.Showings.{showing_at, showings}
use Rattle.shown_clauses.specs.meaning.Steps.{Step as StepTold}
use Rattle.shown_clauses.specs.meaning.Submissions.{Submission}
use Rattle.world_model.specs.meaning.Clients.{Step, Doing}
use Rattle.world_model.specs.records.Hold.{goes_by}
use Rattle.world_model.specs.meaning.Links.{Link, link_at}
use Rattle.world_model.specs.meaning.Settings.{Setting}
use Rattle.world_model.specs.Words.{dones_of}
use Rattle.shown_laws.specs.ClientSteps.{now_at}
use Rattle.shown_laws.specs.PartsTold.{shown_by_own, ShownByOwnSessions}
use Rattle.shown_laws.specs.Tellings.{Telling, steps_in_tellings, unbegun, Begins, WasThere, BeginsNow, TellsStep, TellsRequest, NoneYet, OneMore, FinishesTellSteps}
use Rattle.shown_laws.proofs.shown.OwnSessions.{Among, among_more, Reaches, done_reaches}
use Rattle.shown_laws.proofs.shown.PartsHold.{HoldsOfTold, FinishesStand, finishes_hold}
use Rattle.shown_laws.proofs.steps.PartsSplit.{part_gives}
use Rattle.shown_laws.proofs.shown.RequestsAdd.{all_steps}
use Rattle.shown_laws.proofs.steps.SessionsReached.{as_list, sessions_reached, reached_append, as_reported}
use Rattle.shown_laws.proofs.shown.ShownOnSessions.{is_own, other_reached, reply_own, kind_reaches, kind_own}
use Rattle.shown_laws.proofs.shown.ShowingsHold.{quiet_shows}

-- more sessions
own_more : (sessions more : List SessionId) (items : List Served) → list_all (is_own sessions) items ≡ true → list_all (is_own (sessions ++ more)) items ≡ true
own_more sessions more [] is = refl
own_more sessions more (one ∷ items) is =
    let parts = and_parts (is_own sessions one) (list_all (is_own sessions) items) is in
    and_from (is_own (sessions ++ more) one) (list_all (is_own (sessions ++ more)) items) (among_more one.session sessions more parts.0) (own_more sessions more items parts.1)

-- whatever the terms
abbrev ReachesSo : List Call → List Step → Type 0
ReachesSo calls steps = (terms : Terms) → Reaches (account_of terms calls (dones_of steps)) (sessions_reached steps)

none_reached : (calls : List Call) → ReachesSo calls []
none_reached calls terms = record { held = λ x has. absurd (let none : ⊥ = cc in none); session = λ x has. absurd (let none : ⊥ = cc in none) }

-- A STEP ------------------------------------------------------------------------------------------

module _ (setting : Setting) (client place : ℕ) (request : Request) (steps : List Step) (one : Telling) (tells : TellsStep setting client place request steps one) (before : ReachesSo tells.doing.request.calls steps) where
  abbrev calls : List Call
  calls = tells.doing.request.calls

  here_reaches : (steps began : List Step) → Begins tells.t tells.own tells.doing steps began → ReachesSo calls steps → ReachesSo calls tells.doing.steps
  here_reaches _ _ (WasThere now) was = was
  here_reaches _ _ (BeginsNow first now next is) was =
      subst (ReachesSo calls) (sym (ap (λ (doing : Doing). doing.steps) is))
      (λ terms. done_reaches terms calls unheard [] (now_at tells.t (unbegun first) Start).done (other_reached [] Start refl) (none_reached calls terms))

  reaches : ReachesSo calls tells.doing.steps
  reaches = here_reaches steps tells.began tells.begins before

  goes : (connection : ℕ) (link : Link) (x : Ltxid) (session : SessionId) → tells.doing.connection ≡ Some connection → link_at tells.t.machine.links connection ≡ Some link → link.session ≡ Some session → goes_by tells.doing.talk.phase ≡ Some x
      → Among session (sessions_reached tells.doing.steps)
  goes connection link x session has there its by = at steps tells.began tells.begins
    where
      at : (steps began : List Step) → Begins tells.t tells.own tells.doing steps began → Among session (sessions_reached tells.doing.steps)
      at _ _ (WasThere now) = reply_own tells.t tells.inv client tells.own tells.here tells.doing now (reaches tells.t.setting.terms) connection link x session has there its by
      at _ _ (BeginsNow first now next is) =
          let none : None ≡ Some connection = sym (ap (λ (doing : Doing). doing.connection) is) ∙ has in
          absurd (let never : ⊥ = cc in never)

  same : tells.doing.steps ++ tells.acts ≡ steps ++ one.acts
  same = ap (λ (l : List Step). l ++ tells.acts) (all_steps tells.t tells.own tells.doing steps tells.began tells.begins) ∙ (append_assoc steps tells.began tells.acts ∙ ap (λ (l : List Step). steps ++ l) (sym tells.all))

  after_reaches : ReachesSo calls (steps ++ one.acts)
  after_reaches terms =
      subst (λ (l : List Step). Reaches (account_of terms calls (dones_of l)) (sessions_reached l)) same
      (subst (Reaches (account_of terms calls (dones_of (tells.doing.steps ++ tells.acts)))) (sym (reached_append tells.doing.steps tells.acts))
      (subst (λ (a : Account). Reaches a (sessions_reached tells.doing.steps ++ sessions_reached tells.acts))
      (sym (ap (account_of terms calls) (map-append (λ (step : Step). step.done) tells.doing.steps tells.acts) ∙ fold-append (after_step terms calls) unheard (dones_of tells.doing.steps) (dones_of tells.acts)))
      (kind_reaches tells.t client place tells.doing one.step (sessions_reached tells.doing.steps) goes terms calls (account_of terms calls (dones_of tells.doing.steps)) tells.acts tells.kind (reaches terms))))

  after_own : list_all (is_own (sessions_reached (steps ++ one.acts))) (option_to_list (showing_at one.step)) ≡ true
  after_own =
      subst (λ (l : List SessionId). list_all (is_own l) (option_to_list (showing_at one.step)) ≡ true) (sym (reached_append tells.doing.steps tells.acts) ∙ ap sessions_reached same)
      (own_more (sessions_reached tells.doing.steps) (sessions_reached tells.acts) (option_to_list (showing_at one.step)) (kind_own tells.t client place tells.doing one.step (sessions_reached tells.doing.steps) goes tells.acts tells.kind))

-- ALL STEPS ---------------------------------------------------------------------------------------

pub record IsShownByOwn (calls : List Call) (steps : List Step) (told : List StepTold) : Type 0 where
  pub reach : ReachesSo calls steps
  pub own : list_all (is_own (sessions_reached steps)) (showings told) ≡ true

one_more : (setting : Setting) (client place : ℕ) (request : Request) (tellings : List Telling) (steps : List Step) (one : Telling) → TellsStep setting client place request steps one → IsShownByOwn request.calls steps (steps_in_tellings tellings)
    → IsShownByOwn request.calls (steps ++ one.acts) (steps_in_tellings (tellings ++ one ∷ []))
one_more setting client place request tellings steps one tells was = record {
  reach = subst (λ (r : Request). ReachesSo r.calls (steps ++ one.acts)) tells.same (after_reaches setting client place request steps one tells reach);
  own = subst (λ (l : List Served). list_all (is_own (sessions_reached (steps ++ one.acts))) l ≡ true)
      (sym (ap showings (map-append (λ (x : Telling). x.step) tellings (one ∷ [])) ∙ (filter_map-append showing_at (steps_in_tellings tellings) (one.step ∷ []) ∙ ap (λ (l : List Served). showings (steps_in_tellings tellings) ++ l) (as_list (showing_at one.step)))))
      (list_all-append (is_own (sessions_reached (steps ++ one.acts))) (showings (steps_in_tellings tellings)) (option_to_list (showing_at one.step))
      ∙ and_from (list_all (is_own (sessions_reached (steps ++ one.acts))) (showings (steps_in_tellings tellings))) (list_all (is_own (sessions_reached (steps ++ one.acts))) (option_to_list (showing_at one.step)))
      (subst (λ (l : List SessionId). list_all (is_own l) (showings (steps_in_tellings tellings)) ≡ true) (sym (reached_append steps one.acts)) (own_more (sessions_reached steps) (sessions_reached one.acts) (showings (steps_in_tellings tellings)) was.own))
      (after_own setting client place request steps one tells reach));
}
  where
    reach : ReachesSo tells.doing.request.calls steps
    reach = subst (λ (r : Request). ReachesSo r.calls steps) (sym tells.same) was.reach

request_own : (setting : Setting) (client place : ℕ) (request : Request) (tellings : List Telling) (steps : List Step) → TellsRequest setting client place request tellings steps → IsShownByOwn request.calls steps (steps_in_tellings tellings)
request_own setting client place request _ _ NoneYet = record { reach = none_reached request.calls; own = refl }
request_own setting client place request _ _ (OneMore tellings steps one before tells) = one_more setting client place request tellings steps one tells (request_own setting client place request tellings steps before)

-- PARTS -------------------------------------------------------------------------------------------

pub own_right : HoldsOfTold shown_by_own
own_right setting client place one tellings part told =
    subst (λ (l : List SessionId). list_all (is_own l) (showings part.steps) ≡ true)
    (sym (as_reported one.steps) ∙ (ap (λ (copy : RequestReport). copy.sessions) told.through.reported ∙ sym (ap (λ (s : Submission). s.copy.sessions) told.is)))
    (subst (λ (l : List Served). list_all (is_own (sessions_reached one.steps)) l ≡ true) (sym (part_gives showing_at quiet_shows (steps_in_tellings tellings) part told.parts))
    (request_own setting client place one.request tellings one.steps told.tells).own)

pub own_shown : FinishesStand → FinishesTellSteps → ShownByOwnSessions
own_shown stands tell = finishes_hold stands tell shown_by_own own_right
