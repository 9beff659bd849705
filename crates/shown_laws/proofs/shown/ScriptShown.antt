-- Each reply that showed a call of a request is of the call of its script at that place.
use Rattle.std.proofs.Common.{◌≡◌, refl, sym, ap, subst, ◌∙◌, append-nil, Bool, true, false, ℕ, suc, ◌&&◌, length, List, [], ◌∷◌, ◌++◌, Option, Some, None, option_to_list}
use Rattle.std.specs.Prelude.{slice_get, option_and_then}
use Rattle.std.specs.List.{list_all}
use Rattle.std.specs.Option.{option_map_or}
use Rattle.std.proofs.lemmas.Bool.{and_parts, and_from}
use Rattle.std.proofs.lemmas.List.{map-append}
use Rattle.std.proofs.lemmas.List.Elements.{filter_map-append}
use Rattle.svc_values.specs.declared.answer.Answer.{Answer}
use Rattle.svc_values.specs.declared.call.Call.{Call}
use Rattle.svc_values.specs.declared.draw.Draw.{Draw}
use Rattle.svc_values.specs.declared.frame.Down.{Down}
use Rattle.svc_values.specs.meaning.Same.{same_call}
use Rattle.svc_values.specs.SameLaws.{same_call_decides}
use Rattle.client_model.proofs.Offered.{Fits}
use Rattle.client_model.specs.meaning.Account.{Account, account_of}
use Rattle.client_model.specs.meaning.States.{Asking, Living}
use Rattle.client_model.specs.meaning.Terms.{Phase, Asked, Running}
use Rattle.client_model.specs.declared.act.Shown.{Shown}
use Rattle.outage_schedule.specs.declared.document.Request.{Request}
use Rattle.outage_schedule.specs.declared.item.Item.{Item}
use Rattle.outage_schedule.specs.declared.item.Item.TheVariants as item
use Rattle.outage_schedule.specs.declared.item.Served.{Served}
use Rattle.shown_clauses.specs.meaning.Showings.{is_showing, showing_of, showing_at, showings}
use Rattle.shown_clauses.specs.meaning.Steps.{Step as StepTold}
use Rattle.world_model.specs.meaning.Clients.{Step, Doing, Client, client_at}
use Rattle.world_model.specs.records.Conversing.{IsTalking, Talks}
use Rattle.invariant_laws.specs.Invariant.{Invariant}
use Rattle.world_model.specs.meaning.Links.{Link, link_at}
use Rattle.world_model.specs.meaning.Settings.{Setting}
use Rattle.world_model.specs.Traced.{Traced}
use Rattle.world_model.specs.Words.{dones_of}
use Rattle.shown_laws.specs.ClientSteps.{TellsReply, TellsKind}
use Rattle.shown_laws.specs.ShowingsTold.{AreShownBy, NoneShown, OneShown}
use Rattle.shown_laws.specs.Tellings.{Telling, steps_in_tellings, Begins, WasThere, BeginsNow, TellsStep, TellsRequest, NoneYet, OneMore}
use Rattle.shown_laws.proofs.steps.BeforeSession.{talks_at}
use Rattle.shown_laws.proofs.shown.RequestsAdd.{fits, heard_known, request_accounted}
use Rattle.shown_laws.proofs.steps.SessionsReached.{as_list}
use Rattle.shown_laws.proofs.shown.ScriptCalls.{shown_script}
use Rattle.shown_laws.proofs.shown.StepsAdd.{Known, may_show, shown_item}
use Rattle.shown_laws.proofs.steps.TakenAs.{Taken, Greets, Answers, Repeats, Blocks, Tells, taken_as}
use Rattle.shown_laws.proofs.steps.TookTold.{by_taken}

-- ITEMS AND CALLS ---------------------------------------------------------------------------------

-- a reply to a call is of this one
abbrev pub is_of_call : Call → Item → Bool
is_of_call call (item.Call replay served answers draws) = same_call call served
is_of_call call _ = true

-- of the one at this place
abbrev at_place : List Call → ℕ → Served → Bool
at_place calls place served = option_map_or (λ call. is_of_call call served.item) (slice_get calls place) false

-- each of these of the call beside it
abbrev pub are_of : List Call → List Served → Bool
are_of calls [] = true
are_of [] (one ∷ items) = false
are_of (call ∷ calls) (one ∷ items) = is_of_call call one.item && are_of calls items

of_one_more : (calls : List Call) (items : List Served) (one : Served) → are_of calls items ≡ true → at_place calls (length items) one ≡ true → are_of calls (items ++ one ∷ []) ≡ true
of_one_more [] [] one are here = absurd (let none : ⊥ = cc in none)
of_one_more (call ∷ calls) [] one are here = and_from (is_of_call call one.item) true here refl
of_one_more [] (first ∷ items) one are here = absurd (let none : ⊥ = cc in none)
of_one_more (call ∷ calls) (first ∷ items) one are here =
    let both = and_parts (is_of_call call first.item) (are_of calls items) are in
    and_from (is_of_call call first.item) (are_of calls (items ++ one ∷ [])) both.0 (of_one_more calls items one both.1 here)

of_more : (calls : List Call) (items : List Served) (found : Option Served) → are_of calls items ≡ true → list_all (at_place calls (length items)) (option_to_list found) ≡ true → are_of calls (items ++ option_to_list found) ≡ true
of_more calls items None are here = ap (are_of calls) (append-nil items) ∙ are
of_more calls items (Some one) are here = of_one_more calls items one are (and_parts (at_place calls (length items) one) true here).0

pub as_long : (shown : List Shown) (items : List Served) → AreShownBy shown items → length shown ≡ length items
as_long _ _ NoneShown = refl
as_long _ _ (OneShown shown served more items is rest) = ap suc (as_long more items rest)

-- A REPLY -----------------------------------------------------------------------------------------

same_swapped : (call : Call) (found : Option Call) → option_map_or (same_call call) found false ≡ true → option_map_or (λ other. same_call other call) found false ≡ true
same_swapped call None is = is
same_swapped call (Some other) is = (same_call_decides other call).1 (sym ((same_call_decides call other).0 is))

some_true : (found : Option Call) (call : Call) → found ≡ Some call → option_map_or (λ (other : Call). true) found false ≡ true
some_true found call is = ap (λ (o : Option Call). option_map_or (λ (other : Call). true) o false) is

-- what is taken in these phases, where so many calls were shown
module _ (calls : List Call) (many : ℕ) (served : Served) (commits : ℕ) where
  abbrev FromReply : Phase → Type 0
  FromReply phase = (state : Living) (call : Call) (answers : List Answer) (draws : List Draw) → phase ≡ Running state → served.item ≡ item.Call false call answers draws → option_map_or (same_call call) (slice_get calls many) false ≡ true

  abbrev FromOutcome : Phase → Type 0
  FromOutcome phase = (state : Asking) → phase ≡ Asked state → option_map_or (λ (other : Call). true) (slice_get calls many) false ≡ true

  place_if : (test : Bool) → at_place calls many served ≡ true → list_all (at_place calls many) (option_to_list (showing_of test served)) ≡ true
  place_if true is = and_from (at_place calls many served) true is refl
  place_if false is = refl

  by_item : (one : Item) → served.item ≡ one → option_map_or (λ call. is_of_call call one) (slice_get calls many) false ≡ true → at_place calls many served ≡ true
  by_item one is there = ap (λ (it : Item). option_map_or (λ call. is_of_call call it) (slice_get calls many) false) is ∙ there

  taken_places : (phase : Phase) (one : Item) (frame : Down) → served.item ≡ one → Taken served.session commits phase one frame → FromReply phase → FromOutcome phase → list_all (at_place calls many) (option_to_list (shown_item served one)) ≡ true
  taken_places _ _ _ is (Greets lost) reply outcome = refl
  taken_places _ _ _ is (Answers state call answers draws) reply outcome =
      place_if true (by_item (item.Call false call answers draws) is (same_swapped call (slice_get calls many) (reply state call answers draws refl is)))
  taken_places _ _ _ is (Repeats state call answers draws) reply outcome = refl
  taken_places _ _ _ is (Blocks phase call) reply outcome = refl
  taken_places _ _ _ is (Tells state asked result same) reply outcome = place_if _ (by_item (item.Outcome asked result) is (outcome state refl))

-- BY ITS KIND -------------------------------------------------------------------------------------

module _ (t : Traced) (client place : ℕ) (doing : Doing) (step : StepTold) (calls : List Call) (many : ℕ) where
  abbrev Replies : Type 0
  Replies =
      (connection : ℕ) (link : Link) (frame : Down) (served : Served) → doing.connection ≡ Some connection → link_at t.machine.links connection ≡ Some link → TellsReply (record { client = client; place = place }) doing.talk.phase link frame served
      → list_all (at_place calls many) (option_to_list (shown_item served served.item)) ≡ true

  kind_places : (acts : List Step) → TellsKind t client place doing step acts → Replies → list_all (at_place calls many) (option_to_list (showing_at step)) ≡ true
  kind_places acts kind replies =
      by_taken t client place doing step (λ took. list_all (at_place calls many) (option_to_list (option_and_then (λ one. showing_of (is_showing one) one) took)) ≡ true) refl replies acts kind

-- A STEP ------------------------------------------------------------------------------------------

-- of a request that was there before
module _ (t : Traced) (inv : Invariant t) (client : ℕ) (own : Client) (here : client_at t.machine.clients client ≡ Some own) (doing : Doing) (now : own.now ≡ Some doing) where
  abbrev heard : Account
  heard = account_of t.setting.terms doing.request.calls (dones_of doing.steps)

  talks : Talks t.setting.terms false doing
  talks = subst (IsTalking t.setting.terms) now (talks_at t.setting.terms t.machine.clients client own inv.orderly.script.talks here).1

  known : Known doing.request.calls heard.shown heard.last doing.talk
  known = heard_known t.setting.terms false doing talks

  reply_places : (connection : ℕ) (link : Link) (frame : Down) (served : Served) → doing.connection ≡ Some connection → link_at t.machine.links connection ≡ Some link → TellsReply (record { client = client; place = length own.past }) doing.talk.phase link frame served
      → list_all (at_place doing.request.calls (length heard.shown)) (option_to_list (shown_item served served.item)) ≡ true
  reply_places connection link frame served has there reply =
      taken_places doing.request.calls (length heard.shown) served reply.commits doing.talk.phase served.item frame refl
      (taken_as served.session reply.commits doing.talk.phase reply.one.sent reply.sent served.item frame reply.awaited reply.same reply.is_its reply.says) from_reply
      (λ state is. (let next = known.left (ap may_show is) in some_true (slice_get doing.request.calls (length heard.shown)) next.call next.there))
    where
      from_reply : (state : Living) (call : Call) (answers : List Answer) (draws : List Draw) → doing.talk.phase ≡ Running state → served.item ≡ item.Call false call answers draws
          → option_map_or (same_call call) (slice_get doing.request.calls (length heard.shown)) false ≡ true
      from_reply state call answers draws runs is =
          let stands = fits t.setting.terms false doing talks in
          let tracked : state.track.call ≡ length heard.shown = (subst (λ (phase : Phase). Fits t.setting.terms doing.request.calls heard stands.0 phase) runs stands.1).0.tracked.call in
          subst (λ (at : ℕ). option_map_or (same_call call) (slice_get doing.request.calls at) false ≡ true) tracked
          (shown_script t inv client own doing here now talks connection link frame served state false call answers draws has there
          (subst (λ (phase : Phase). TellsReply (record { client = client; place = length own.past }) phase link frame served) runs reply) is)

step_places : (setting : Setting) (client place : ℕ) (request : Request) (steps : List Step) (one : Telling) → TellsStep setting client place request steps one
    → list_all (at_place request.calls (length (account_of setting.terms request.calls (dones_of steps)).shown)) (option_to_list (showing_at one.step)) ≡ true
step_places setting client place request steps one tells =
    subst (λ (r : Request). Places setting r steps) tells.same (subst (λ (made : Setting). Places made tells.doing.request steps) tells.of_run (at steps tells.began tells.begins))
  where
    Places : Setting → Request → List Step → Type 0
    Places made r some = list_all (at_place r.calls (length (account_of made.terms r.calls (dones_of some)).shown)) (option_to_list (showing_at one.step)) ≡ true

    at : (some began : List Step) → Begins tells.t tells.own tells.doing some began → Places tells.t.setting tells.doing.request some
    at _ _ (WasThere now) =
        kind_places tells.t client place tells.doing one.step tells.doing.request.calls (length (account_of tells.t.setting.terms tells.doing.request.calls (dones_of tells.doing.steps)).shown) tells.acts tells.kind
        (λ connection link frame served has there reply. reply_places tells.t tells.inv client tells.own tells.here tells.doing now connection link frame served has there
        (subst (λ (n : ℕ). TellsReply (record { client = client; place = n }) tells.doing.talk.phase link frame served) (sym tells.at) reply))
    at _ _ (BeginsNow first now next is) =
        kind_places tells.t client place tells.doing one.step tells.doing.request.calls 0 tells.acts tells.kind
        (λ connection link frame served has there reply. (let none : None ≡ Some connection = sym (ap (λ (doing : Doing). doing.connection) is) ∙ has in absurd (let never : ⊥ = cc in never)))

-- ALL STEPS ---------------------------------------------------------------------------------------

pub request_scripts : (setting : Setting) (client place : ℕ) (request : Request) (tellings : List Telling) (steps : List Step) → TellsRequest setting client place request tellings steps → are_of request.calls (showings (steps_in_tellings tellings)) ≡ true
request_scripts setting client place request _ _ NoneYet = refl
request_scripts setting client place request _ _ (OneMore tellings steps one before tells) =
    ap (are_of request.calls) (ap showings (map-append (λ (x : Telling). x.step) tellings (one ∷ [])) ∙ (filter_map-append showing_at (steps_in_tellings tellings) (one.step ∷ []) ∙ ap (λ (l : List Served). showings (steps_in_tellings tellings) ++ l) (as_list (showing_at one.step))))
    ∙ of_more request.calls (showings (steps_in_tellings tellings)) (showing_at one.step) (request_scripts setting client place request tellings steps before)
    (subst (λ (n : ℕ). list_all (at_place request.calls n) (option_to_list (showing_at one.step)) ≡ true)
    (as_long (account_of setting.terms request.calls (dones_of steps)).shown (showings (steps_in_tellings tellings)) (request_accounted setting client place request tellings steps before).shown)
    (step_places setting client place request steps one tells))
