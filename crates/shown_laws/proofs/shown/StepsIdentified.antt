-- What a step shows is shown under the identifier of the item that it takes, with the number that
-- the report tells.
use Rattle.std.proofs.Common.{◌≡◌, refl, sym, ap, subst, ◌∙◌, true, ℕ, List, [], ◌∷◌, ◌++◌, Option, Some, None}
use Rattle.std.specs.List.{list_all}
use Rattle.std.specs.Option.{option_map_or}
use Rattle.std.proofs.lemmas.Bool.{and_from}
use Rattle.std.proofs.lemmas.List.Folds.{list_all-append}
use Rattle.svc_values.specs.declared.entry.Ltxid.{Ltxid}
use Rattle.svc_values.specs.declared.frame.Down.{Down}
use Rattle.svc_values.specs.declared.frame.Down.TheVariants as down
use Rattle.client_model.specs.declared.input.Input.TheVariants.{Took}
use Rattle.client_model.specs.meaning.Terms.{Phase, Asked}
use Rattle.outage_schedule.specs.declared.document.Document.{Document}
use Rattle.outage_schedule.specs.declared.document.Request.{Request}
use Rattle.outage_schedule.specs.declared.item.Served.{Served}
use Rattle.outage_schedule.specs.declared.report.Report.{Report}
use Rattle.world_model.specs.meaning.Clients.{Step, Doing, Client}
use Rattle.run_laws.specs.EntryCounts.{stored_by, are_counted}
use Rattle.world_model.specs.meaning.Links.{Link, link_at}
use Rattle.world_model.specs.meaning.Settings.{Setting}
use Rattle.world_model.specs.Traced.{Traced}
use Rattle.world_model.specs.records.Wire.{counted_with}
use Rattle.world_model.proofs.Offered.{commits_behind}
use Rattle.shown_laws.specs.ClientSteps.{TellsReply, now_at, GoneBehind, GoesOn, IsOver, IsGone, TellsKind, Rested, FoundNone, Waited, WasLent, HasOpened, HasFailed, HasTaken, HasLost}
use Rattle.shown_laws.specs.Identified.{identifier_by, shows_under, is_identified}
use Rattle.shown_laws.specs.Tellings.{Telling, Begins, WasThere, BeginsNow, TellsStep}
use Rattle.shown_laws.proofs.shown.CountedReplies.{Says, says, reply_number, outcome_number}
use Rattle.shown_laws.proofs.shown.ShownUnder.{GoesUnder, ByReply, ByOutcome, ByOther, takes_under}

-- a Start shows nothing
began_under : (x : Ltxid) (t : Traced) (own : Client) (doing : Doing) (steps began : List Step) → Begins t own doing steps began → list_all (shows_under x) began ≡ true
began_under x t own doing _ _ (WasThere now) = refl
began_under x t own doing _ _ (BeginsNow request now next is) = refl

-- nor does a loss
gone_under : (x : Ltxid) (t : Traced) (doing : Doing) (link : Link) (frame : Down) (more : List Step) → GoneBehind t doing link frame more → list_all (shows_under x) more ≡ true
gone_under x t doing link frame _ (GoesOn opens) = refl
gone_under x t doing link frame _ (IsOver shut over) = refl
gone_under x t doing link frame _ (IsGone shut keeps) = refl

-- one that has a connection was there before
has_now : (t : Traced) (own : Client) (doing : Doing) (steps began : List Step) (connection : ℕ) → Begins t own doing steps began → doing.connection ≡ Some connection → own.now ≡ Some doing
has_now t own doing _ _ connection (WasThere now) has = now
has_now t own doing _ _ connection (BeginsNow request now next is) has =
    let none : None ≡ Some connection = sym (ap (λ (d : Doing). d.connection) is) ∙ has in
    absurd (let never : ⊥ = cc in never)

module _ (document : Document) (report : Report) (setting : Setting) (client place : ℕ) (request : Request) (steps : List Step) (one : Telling) (tells : TellsStep setting client place request steps one) (counts : are_counted (stored_by document report) tells.t ≡ true) where
  abbrev t : Traced
  t = tells.t

  abbrev doing : Doing
  doing = tells.doing

  nothing_taken : (acts : List Step) → one.step.taken ≡ None → option_map_or (λ served. list_all (shows_under (identifier_by document report served)) acts) one.step.taken true ≡ true
  nothing_taken acts none = ap (λ (taken : Option Served). option_map_or (λ served. list_all (shows_under (identifier_by document report served)) acts) taken true) none

  module _ (connection : ℕ) (link : Link) (frame : Down) (served : Served) (has : tells.doing.connection ≡ Some connection) (there : link_at tells.t.machine.links connection ≡ Some link)
      (reply : TellsReply (record { client = client; place = place }) tells.doing.talk.phase link frame served) where
    goes : (phase : Phase) (found : Down) → tells.doing.talk.phase ≡ phase → frame ≡ found → GoesUnder (identifier_by document report served) phase found
    goes phase (down.Reply answers draws y) stands is =
        let number : ℕ = counted_with (commits_behind 0 reply.before) served.item in
        let so : Says (stored_by document report) served frame number =
        says (stored_by document report) t tells.inv counts client tells.own doing tells.here connection link there frame served (record { client = client; place = place }) reply in
        ByReply phase answers draws y (reply_number (stored_by document report) served number answers draws y (subst (λ (f : Down). Says (stored_by document report) served f number) is so))
    goes (Asked asking) (down.OutcomeIs committed completed) stands is =
        ByOutcome asking committed completed
        (outcome_number (stored_by document report) t tells.inv counts client tells.own doing tells.here connection link there frame served (record { client = client; place = place }) reply
        (has_now t tells.own doing steps tells.began connection tells.begins has) has asking stands committed completed is)
    goes phase found stands is = ByOther phase found (λ answers draws y same. let none : ⊥ = cc in none) (λ asking committed completed at same. let none : ⊥ = cc in none)

    took : shows_under (identifier_by document report served) (now_at tells.t tells.doing (Took frame link.is_open)) ≡ true
    took = takes_under (identifier_by document report served) t.setting.terms doing.talk doing.talk.phase frame link.is_open t.machine.tick (goes doing.talk.phase frame refl refl)

  by_kind : (acts : List Step) → TellsKind tells.t client place tells.doing one.step acts → option_map_or (λ served. list_all (shows_under (identifier_by document report served)) (tells.began ++ acts)) one.step.taken true ≡ true
  by_kind _ (Rested did wants bare) = nothing_taken (tells.began ++ []) bare.taken
  by_kind _ (FoundNone did wants bare) = nothing_taken (tells.began ++ []) bare.taken
  by_kind acts (Waited did begun bare) = nothing_taken (tells.began ++ acts) bare.taken
  by_kind acts (WasLent connection link ltxid did begun there held taken session its lost) = nothing_taken (tells.began ++ acts) taken
  by_kind acts (HasOpened connection did next begun bare) = nothing_taken (tells.began ++ acts) bare.taken
  by_kind acts (HasFailed did begun bare) = nothing_taken (tells.began ++ acts) bare.taken
  by_kind acts (HasLost connection link did has there ended bare) = nothing_taken (tells.began ++ acts) bare.taken
  by_kind _ (HasTaken connection sent link frame served more did sends has there taken reply session lost gone) =
      let x : Ltxid = identifier_by document report served in
      let here : Step = now_at t doing (Took frame link.is_open) in
      ap (λ (found : Option Served). option_map_or (λ s. list_all (shows_under (identifier_by document report s)) (tells.began ++ here ∷ more)) found true) taken
      ∙ (list_all-append (shows_under x) tells.began (here ∷ more)
      ∙ and_from (list_all (shows_under x) tells.began) (list_all (shows_under x) (here ∷ more)) (began_under x t tells.own doing steps tells.began tells.begins)
      (and_from (shows_under x here) (list_all (shows_under x) more) (took connection link frame served has there reply) (gone_under x t doing link frame more gone)))

  -- Each step.
  pub step_identified : is_identified document report one ≡ true
  step_identified = subst (λ (acts : List Step). option_map_or (λ served. list_all (shows_under (identifier_by document report served)) acts) one.step.taken true ≡ true) (sym tells.all) (by_kind tells.acts tells.kind)
