-- Where an outcome showed a call of a request, it was a lone commit of its script, which the
-- request had sent under that identifier.
use Rattle.std.proofs.Common.{◌≡◌, refl, sym, ap, subst, ◌∙◌, append-nil, Bool, true, false, ℕ, ◌&&◌, fold, length, List, [], ◌∷◌, ◌++◌, map, Option, Some, None, option_to_list, ◌⊎◌, inl, inr}
use Rattle.std.specs.Prelude.{◌==◌, is_none, slice_get, option_and_then}
use Rattle.std.specs.List.{list_any}
use Rattle.std.specs.Option.{option_map_or}
use Rattle.std.proofs.lemmas.Bool.{and_parts, and_from, or_cases, or_left, or_right}
use Rattle.std.proofs.lemmas.List.{length-map, map-append}
use Rattle.std.proofs.lemmas.List.Elements.{filter_map-append}
use Rattle.svc_values.specs.declared.call.Call.{Call}
use Rattle.svc_values.specs.declared.entry.Ltxid.{Ltxid}
use Rattle.svc_values.specs.declared.entry.SessionId.{SessionId}
use Rattle.svc_values.specs.declared.frame.Down.{Down}
use Rattle.svc_values.specs.meaning.Calls.{has_commit, is_lone_commit}
use Rattle.svc_values.specs.meaning.Identifiers.{same_ltxid}
use Rattle.svc_values.specs.meaning.Same.{same_bool}
use Rattle.svc_values.specs.SameLaws.{same_ltxid_decides}
use Rattle.client_model.specs.meaning.Account.{Account, account_of}
use Rattle.client_model.specs.meaning.States.{Asking}
use Rattle.client_model.specs.meaning.Terms.{Phase, Asked}
use Rattle.outage_schedule.specs.declared.document.Request.{Request}
use Rattle.outage_schedule.specs.declared.item.Item.{Item}
use Rattle.outage_schedule.specs.declared.item.Item.TheVariants as item
use Rattle.outage_schedule.specs.declared.item.Served.{Served}
use Rattle.outage_schedule.specs.declared.note.AskResult.{AskResult}
use Rattle.outage_schedule.specs.declared.note.AskResult.TheVariants as told
use Rattle.run_clauses.specs.meaning.Outcomes.{completed_of}
use Rattle.run_clauses.specs.meaning.Reports.{shown_call}
use Rattle.shown_clauses.specs.meaning.Showings.{shown_answers, is_showing, showing_of, showing_at, showings}
use Rattle.shown_clauses.specs.meaning.Steps.{Step as StepTold}
use Rattle.invariant_laws.proofs.Offered.{is_unanswered, asked_sent, asked_lone}
use Rattle.world_model.specs.meaning.Clients.{Step, Doing, Client, client_at}
use Rattle.world_model.specs.records.Conversing.{IsTalking}
use Rattle.world_model.specs.meaning.Frames.{Owner}
use Rattle.invariant_laws.specs.Invariant.{Invariant}
use Rattle.world_model.specs.meaning.Links.{Link, link_at}
use Rattle.world_model.specs.Parts.{Scan, Sending, scanned}
use Rattle.world_model.specs.meaning.Settings.{Setting}
use Rattle.world_model.specs.Traced.{Traced}
use Rattle.world_model.specs.Words.{dones_of}
use Rattle.shown_laws.specs.ClientSteps.{TellsReply, TellsKind}
use Rattle.shown_laws.specs.Tellings.{Telling, steps_in_tellings, Begins, WasThere, BeginsNow, TellsStep, TellsRequest, NoneYet, OneMore}
use Rattle.shown_laws.proofs.shown.AnswersStand.{reply_stands}
use Rattle.shown_laws.proofs.steps.BeforeSession.{talks_at}
use Rattle.shown_laws.proofs.events.Places.{get_push}
use Rattle.shown_laws.proofs.shown.RequestsAdd.{heard_known, request_accounted}
use Rattle.shown_laws.proofs.steps.SessionsReached.{as_list}
use Rattle.shown_laws.proofs.shown.ScriptShown.{as_long}
use Rattle.shown_laws.proofs.shown.StepsAdd.{Known, NextCall, may_show}
use Rattle.shown_laws.proofs.steps.TakenAs.{Taken, Greets, Answers, Repeats, Blocks, Tells, taken_as}
use Rattle.shown_laws.proofs.steps.TookTold.{by_taken}
use Rattle.shown_laws.proofs.shown.TriedKept.{is_commit_at, sending_stays}

-- THE CALL ----------------------------------------------------------------------------------------

-- before all steps
abbrev pub nothing_scanned : Owner → Scan
nothing_scanned owner = record { owner = owner; connection = 0; held = None; shown = 0; sendings = [] }

-- The call of this place is a lone commit, and these steps sent it under this identifier.
pub record IsCommitSent (calls : List Call) (owner : Owner) (steps : List Step) (place : ℕ) (x : Ltxid) : Type 0 where
  pub call : Call
  pub there : slice_get calls place ≡ Some call
  pub lone : is_lone_commit call ≡ true
  pub sent : list_any (is_commit_at place x) (fold scanned (nothing_scanned owner) steps).sendings ≡ true

-- each outcome that showed a call did so at such a place
abbrev pub AreSent : List Call → Owner → List Step → List Served → Type 0
AreSent calls owner steps items = (place : ℕ) (served : Served) (x : Ltxid) (result : AskResult) → slice_get items place ≡ Some served → served.item ≡ item.Outcome x result → IsCommitSent calls owner steps place x

sent_later : (calls : List Call) (owner : Owner) (steps more : List Step) (place : ℕ) (x : Ltxid) → IsCommitSent calls owner steps place x → IsCommitSent calls owner (steps ++ more) place x
sent_later calls owner steps more place x is = record { call = is.call; there = is.there; lone = is.lone; sent = sending_stays place x (nothing_scanned owner) steps more is.sent }

-- LISTS -------------------------------------------------------------------------------------------

get_more : {A : Type 0} (all : List A) (found : Option A) (place : ℕ) (one : A) → slice_get (all ++ option_to_list found) place ≡ Some one → (slice_get all place ≡ Some one) ⊎ ((place ≡ length all) × (found ≡ Some one))
get_more {A = A} all None place one is = inl (sym (ap (λ (l : List A). slice_get l place) (append-nil all)) ∙ is)
get_more {A = A} all (Some other) place one is = by (get_push all other one place is)
  where
    by : (slice_get all place ≡ Some one) ⊎ ((place ≡ length all) × (other ≡ one)) → (slice_get all place ≡ Some one) ⊎ ((place ≡ length all) × (Some other ≡ Some one))
    by (inl there) = inl there
    by (inr last) = inr (last.0, ap Some last.1)

commit_here : (count : ℕ) (x : Ltxid) (sending : Sending) → is_unanswered x count sending ≡ true → is_commit_at count x sending ≡ true
commit_here count x sending is =
    let one = and_parts (same_ltxid sending.ltxid x) ((sending.at == count) && (has_commit sending.call && is_none sending.taken)) is in
    let two = and_parts (sending.at == count) (has_commit sending.call && is_none sending.taken) one.1 in
    let three = and_parts (has_commit sending.call) (is_none sending.taken) two.1 in
    and_from (sending.at == count) (same_ltxid x sending.ltxid && has_commit sending.call) two.0
    (and_from (same_ltxid x sending.ltxid) (has_commit sending.call) ((same_ltxid_decides x sending.ltxid).1 (sym ((same_ltxid_decides sending.ltxid x).0 one.0))) three.0)

any_commit : (count : ℕ) (x : Ltxid) (all : List Sending) → list_any (is_unanswered x count) all ≡ true → list_any (is_commit_at count x) all ≡ true
any_commit count x [] any = absurd (let none : ⊥ = cc in none)
any_commit count x (one ∷ all) any = by (or_cases (is_unanswered x count one) (list_any (is_unanswered x count) all) any) (any_commit count x all)
  where
    by : (is_unanswered x count one ≡ true) ⊎ (list_any (is_unanswered x count) all ≡ true) → (list_any (is_unanswered x count) all ≡ true → list_any (is_commit_at count x) all ≡ true) → list_any (is_commit_at count x) (one ∷ all) ≡ true
    by (inl here) rest = or_left (is_commit_at count x one) (list_any (is_commit_at count x) all) (commit_here count x one here)
    by (inr later) rest = or_right (is_commit_at count x one) (list_any (is_commit_at count x) all) (rest later)

-- THE OUTCOME -------------------------------------------------------------------------------------

-- an outcome that was taken is of the identifier that was asked for
pub record WasAskedFor (phase : Phase) (x : Ltxid) : Type 0 where
  pub state : Asking
  pub is : phase ≡ Asked state
  pub same : x ≡ state.ltxid

asked_for : (session : SessionId) (commits : ℕ) (phase : Phase) (one : Item) (frame : Down) → Taken session commits phase one frame → (x : Ltxid) (result : AskResult) → one ≡ item.Outcome x result → WasAskedFor phase x
asked_for session commits _ _ _ (Greets lost) x result is = absurd (let none : ⊥ = cc in none)
asked_for session commits _ _ _ (Answers state call answers draws) x result is = absurd (let none : ⊥ = cc in none)
asked_for session commits _ _ _ (Repeats state call answers draws) x result is = absurd (let none : ⊥ = cc in none)
asked_for session commits _ _ _ (Blocks phase call) x result is = absurd (let none : ⊥ = cc in none)
asked_for session commits _ _ _ (Tells state y said same) x result is = let its : x ≡ y = cc in record { state = state; is = refl; same = its ∙ same }

-- where it shows a call it says committed and completed
shows_completed : (x : Ltxid) (result : AskResult) → option_map_or (λ answers. true) (shown_answers (item.Outcome x result)) false ≡ true → result ≡ told.Committed true
shows_completed x (told.Committed true) shows = refl
shows_completed x (told.Committed false) shows = absurd (let none : ⊥ = cc in none)
shows_completed x _ shows = absurd (let none : ⊥ = cc in none)

shown_is : (test : Bool) (one served : Served) → showing_of test one ≡ Some served → (one ≡ served) × (test ≡ true)
shown_is true one served is = (let same : one ≡ served = cc in same, refl)
shown_is false one served is = absurd (let none : ⊥ = cc in none)

-- BY ITS KIND -------------------------------------------------------------------------------------

-- a step that showed a call took a reply
module _ (t : Traced) (client place : ℕ) (doing : Doing) (step : StepTold) (found : Served) (shows : showing_at step ≡ Some found) (P : Type 0) where
  abbrev FromReply : Type 0
  FromReply =
      (connection : ℕ) (link : Link) (frame : Down) → doing.connection ≡ Some connection → link_at t.machine.links connection ≡ Some link → TellsReply (record { client = client; place = place }) doing.talk.phase link frame found → is_showing found ≡ true → P

  kind_sent : (acts : List Step) → TellsKind t client place doing step acts → FromReply → P
  kind_sent acts kind reply =
      by_taken t client place doing step (λ took. option_and_then (λ one. showing_of (is_showing one) one) took ≡ Some found → P) (λ showing. absurd (let never : ⊥ = cc in never))
      (λ connection link frame served has there its showing.
      let is = shown_is (is_showing served) served found showing in
      reply connection link frame has there (subst (λ (one : Served). TellsReply (record { client = client; place = place }) doing.talk.phase link frame one) is.0 its) (ap is_showing (sym is.0) ∙ is.1))
      acts kind shows

-- A STEP ------------------------------------------------------------------------------------------

-- of a request that was there before
module _ (t : Traced) (inv : Invariant t) (client : ℕ) (own : Client) (here : client_at t.machine.clients client ≡ Some own) (doing : Doing) (now : own.now ≡ Some doing) where
  abbrev heard : Account
  heard = account_of t.setting.terms doing.request.calls (dones_of doing.steps)

  abbrev owner : Owner
  owner = record { client = client; place = length own.past }

  known : Known doing.request.calls heard.shown heard.last doing.talk
  known = heard_known t.setting.terms false doing (subst (IsTalking t.setting.terms) now (talks_at t.setting.terms t.machine.clients client own inv.orderly.script.talks here).1)

  many : length (map shown_call heard.shown) ≡ length heard.shown
  many = length-map heard.shown shown_call

  commit_sent : (state : Asking) → doing.talk.phase ≡ Asked state → option_map_or (same_bool true) (completed_of t.entries state.ltxid) false ≡ true → IsCommitSent doing.request.calls owner doing.steps (length heard.shown) state.ltxid
  commit_sent state asks stands =
      let next : NextCall doing.request.calls heard.shown doing.talk = known.left (ap may_show asks) in
      record {
        call = next.call;
        there = next.there;
        lone = asked_lone t inv client own here doing now state stands asks next.call (ap (slice_get doing.request.calls) many ∙ next.there);
        sent =
            subst (λ (n : ℕ). list_any (is_commit_at n state.ltxid) (fold scanned (nothing_scanned owner) doing.steps).sendings ≡ true) many
            (any_commit (length (map shown_call heard.shown)) state.ltxid (fold scanned (nothing_scanned owner) doing.steps).sendings (asked_sent t inv client own here doing now state true stands asks));
      }

  reply_sent : (connection : ℕ) (link : Link) (frame : Down) (served : Served) → link_at t.machine.links connection ≡ Some link → TellsReply owner doing.talk.phase link frame served → (x : Ltxid) (result : AskResult) → served.item ≡ item.Outcome x result
      → is_showing served ≡ true → IsCommitSent doing.request.calls owner doing.steps (length heard.shown) x
  reply_sent connection link frame served there reply x result is shows =
      subst (IsCommitSent doing.request.calls owner doing.steps (length heard.shown)) (sym asked.same)
      (commit_sent asked.state asked.is
      (subst (λ (y : Ltxid). option_map_or (same_bool true) (completed_of t.entries y) false ≡ true) asked.same
      (reply_stands t inv owner doing.talk.phase connection link frame served there reply x true (is ∙ ap (item.Outcome x) says))))
    where
      asked : WasAskedFor doing.talk.phase x
      asked =
          asked_for served.session reply.commits doing.talk.phase served.item frame
          (taken_as served.session reply.commits doing.talk.phase reply.one.sent reply.sent served.item frame reply.awaited reply.same reply.is_its reply.says) x result is

      says : result ≡ told.Committed true
      says = shows_completed x result (sym (ap (λ (one : Item). option_map_or (λ answers. true) (shown_answers one) false) is) ∙ shows)

step_sent : (setting : Setting) (client place : ℕ) (request : Request) (steps : List Step) (one : Telling) → TellsStep setting client place request steps one → (served : Served) (x : Ltxid) (result : AskResult) → showing_at one.step ≡ Some served
    → served.item ≡ item.Outcome x result → IsCommitSent request.calls (record { client = client; place = place }) steps (length (account_of setting.terms request.calls (dones_of steps)).shown) x
step_sent setting client place request steps one tells served x result shows is =
    subst (λ (r : Request). SentSo setting r steps) tells.same (subst (λ (made : Setting). SentSo made tells.doing.request steps) tells.of_run (at steps tells.began tells.begins))
  where
    SentSo : Setting → Request → List Step → Type 0
    SentSo made r some = IsCommitSent r.calls (record { client = client; place = place }) some (length (account_of made.terms r.calls (dones_of some)).shown) x

    at : (some began : List Step) → Begins tells.t tells.own tells.doing some began → SentSo tells.t.setting tells.doing.request some
    at _ _ (WasThere now) =
        kind_sent tells.t client place tells.doing one.step served shows (SentSo tells.t.setting tells.doing.request tells.doing.steps) tells.acts tells.kind
        (λ connection link frame has there reply showing.
        subst (λ (n : ℕ). IsCommitSent tells.doing.request.calls (record { client = client; place = n }) tells.doing.steps (length (account_of tells.t.setting.terms tells.doing.request.calls (dones_of tells.doing.steps)).shown) x) tells.at
        (reply_sent tells.t tells.inv client tells.own tells.here tells.doing now connection link frame served there
        (subst (λ (n : ℕ). TellsReply (record { client = client; place = n }) tells.doing.talk.phase link frame served) (sym tells.at) reply) x result is showing))
    at _ _ (BeginsNow first now next begins) =
        kind_sent tells.t client place tells.doing one.step served shows (SentSo tells.t.setting tells.doing.request []) tells.acts tells.kind
        (λ connection link frame has there reply showing. (let none : None ≡ Some connection = sym (ap (λ (doing : Doing). doing.connection) begins) ∙ has in absurd (let never : ⊥ = cc in never)))

-- ALL STEPS ---------------------------------------------------------------------------------------

pub request_sent : (setting : Setting) (client place : ℕ) (request : Request) (tellings : List Telling) (steps : List Step) → TellsRequest setting client place request tellings steps
    → AreSent request.calls (record { client = client; place = place }) steps (showings (steps_in_tellings tellings))
request_sent setting client place request _ _ NoneYet at served x result there is = absurd (let none : ⊥ = cc in none)
request_sent setting client place request _ _ (OneMore tellings steps one before tells) at served x result there is =
    by (get_more (showings (steps_in_tellings tellings)) (showing_at one.step) at served (sym (ap (λ (items : List Served). slice_get items at) joined) ∙ there))
    (λ earlier. request_sent setting client place request tellings steps before at served x result earlier is)
  where
    joined : showings (steps_in_tellings (tellings ++ one ∷ [])) ≡ showings (steps_in_tellings tellings) ++ option_to_list (showing_at one.step)
    joined =
        ap showings (map-append (λ (x : Telling). x.step) tellings (one ∷ []))
        ∙ (filter_map-append showing_at (steps_in_tellings tellings) (one.step ∷ []) ∙ ap (λ (l : List Served). showings (steps_in_tellings tellings) ++ l) (as_list (showing_at one.step)))

    many : length (account_of setting.terms request.calls (dones_of steps)).shown ≡ length (showings (steps_in_tellings tellings))
    many = as_long (account_of setting.terms request.calls (dones_of steps)).shown (showings (steps_in_tellings tellings)) (request_accounted setting client place request tellings steps before).shown

    by : (slice_get (showings (steps_in_tellings tellings)) at ≡ Some served) ⊎ ((at ≡ length (showings (steps_in_tellings tellings))) × (showing_at one.step ≡ Some served))
        → (slice_get (showings (steps_in_tellings tellings)) at ≡ Some served → IsCommitSent request.calls (record { client = client; place = place }) steps at x)
        → IsCommitSent request.calls (record { client = client; place = place }) (steps ++ one.acts) at x
    by (inl earlier) rest = sent_later request.calls (record { client = client; place = place }) steps one.acts at x (rest earlier)
    by (inr (same, last)) rest =
        sent_later request.calls (record { client = client; place = place }) steps one.acts at x
        (subst (λ (n : ℕ). IsCommitSent request.calls (record { client = client; place = place }) steps n x) (many ∙ sym same) (step_sent setting client place request steps one tells served x result last is))
