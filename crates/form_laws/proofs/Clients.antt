-- What holds of each call of the scripts holds of each call that clients may send, event by event.
use Rattle.std.proofs.Common.{◌≡◌, ◌∙◌, ℕ, zero, suc, Bool, true, List, [], ◌∷◌, ◌++◌, map, fold, Option, Some, None, refl, sym, ap, subst}
use Rattle.std.specs.Prelude.{get_or, slice_get, slice_set, option_and_then, option_map, unwrap_or}
use Rattle.std.specs.List.{AllByRecursion, list_all}
use Rattle.std.specs.Option.{option_map_or, option_or}
use Rattle.std.proofs.lemmas.Bool.{and_parts, and_from}
use Rattle.svc_values.specs.declared.call.Call.{Call}
use Rattle.pool_core.specs.declared.answers.Back.{Back}
use Rattle.pool_core.specs.declared.answers.Back.TheVariants as back
use Rattle.pool_core.specs.meaning.Slots.{Slots, give_back_answer}
use Rattle.client_model.specs.declared.act.Act.{Act}
use Rattle.client_model.specs.declared.act.Hold.{Hold}
use Rattle.client_model.specs.declared.act.Hold.TheVariants as hold
use Rattle.client_model.specs.declared.input.Input.TheVariants.{Start, Gone}
use Rattle.client_model.specs.meaning.Terms.{Terms, requested}
use Rattle.outage_schedule.specs.declared.document.Client.{Client as Script}
use Rattle.outage_schedule.specs.declared.document.Request.{Request}
use Rattle.run_clauses.specs.meaning.Copies.{next_place}
use Rattle.world_model.specs.meaning.Acting.{call_in, closing, frames_of, owner_at, sent_by}
use Rattle.world_model.specs.meaning.Clients.{Client, Doing, Past, Step, step_at, after_hold, begun, client_at, doing_of, heard, reports_of, resting, script_at, with_client}
use Rattle.world_model.specs.meaning.Frames.{Owner, Sent}
use Rattle.world_model.specs.meaning.Machines.{Machine}
use Rattle.world_model.specs.meaning.Outside.{closed_by_drain}
use Rattle.world_model.specs.meaning.Settings.{Setting}
use Rattle.world_model.proofs.Offered.{append_all, at_all, map_all, sent_lists, spoken, spoken_at, ClientStepsAsBefore, ClientStepsOneMore, ClientStepsGrows, GoesOn, AtOnce, LostToo, HasStepped, MayStep, Still, Closed, Stepped}
use Rattle.form_laws.proofs.Talks.{frame_passes, TalkPasses, step_passes}

module _ (test : Call → Bool) where
  abbrev pub request_passes : Request → Bool
  request_passes request = list_all test request.calls

  -- the call of a frame that was sent
  abbrev pub sent_passes : Sent → Bool
  sent_passes sent = frame_passes test sent.frame

  -- all that was sent, on each connection
  abbrev pub lists_pass : List (List Sent) → Bool
  lists_pass lists = list_all (list_all sent_passes) lists

  abbrev pub DoingPasses : Option Doing → Type 0
  DoingPasses None = Unit {0}
  DoingPasses (Some doing) = TalkPasses test doing.talk

  pub record ClientPasses (client : Client) : Type 0 where
    pub next : option_map_or request_passes client.next true ≡ true
    pub now : DoingPasses client.now

  abbrev pub scripts_pass_in : Setting → Bool
  scripts_pass_in setting = list_all (list_all request_passes) setting.scripts

  -- ---- clients

  client_here : (clients : List Client) (number : ℕ) (client : Client) → AllByRecursion ClientPasses clients → client_at clients number ≡ Some client → ClientPasses client
  client_here clients zero client all e = absurd (let none : ⊥ = cc in none)
  client_here [] (suc index) client all e = absurd (let none : ⊥ = cc in none)
  client_here (first ∷ clients) (suc zero) client all e = let same : first ≡ client = cc in subst ClientPasses same all.0
  client_here (first ∷ clients) (suc (suc index)) client all e = client_here clients (suc index) client all.1 e

  client_set_to : (clients : List Client) (index : ℕ) (client : Client) → AllByRecursion ClientPasses clients → ClientPasses client → AllByRecursion ClientPasses (slice_set clients index client)
  client_set_to [] index client all here = tt
  client_set_to (first ∷ clients) zero client all here = (here, all.1)
  client_set_to (first ∷ clients) (suc index) client all here = (all.0, client_set_to clients index client all.1 here)

  client_put : (clients : List Client) (number : ℕ) (client : Client) → AllByRecursion ClientPasses clients → ClientPasses client → AllByRecursion ClientPasses (with_client clients number client)
  client_put clients zero client all here = all
  client_put clients (suc index) client all here = client_set_to clients index client all here

  -- ---- requests

  found_request : (script : List Request) (place : Option ℕ) → list_all request_passes script ≡ true → option_map_or request_passes (option_and_then (slice_get script) place) true ≡ true
  found_request script None all = refl
  found_request script (Some place) all = by (slice_get script place) refl
    where
      by : (found : Option Request) → slice_get script place ≡ found → option_map_or request_passes found true ≡ true
      by None is = refl
      by (Some request) is = at_all request_passes script place request all is

  script_found : (scripts : List (List Request)) (index : ℕ) → list_all (list_all request_passes) scripts ≡ true → list_all request_passes (get_or scripts index []) ≡ true
  script_found [] index all = refl
  script_found (script ∷ scripts) zero all = (and_parts (list_all request_passes script) (list_all (list_all request_passes) scripts) all).0
  script_found (script ∷ scripts) (suc index) all = script_found scripts index (and_parts (list_all request_passes script) (list_all (list_all request_passes) scripts) all).1

  script_passes : (setting : Setting) (number : ℕ) → scripts_pass_in setting ≡ true → list_all request_passes (script_at setting number) ≡ true
  script_passes setting zero all = refl
  script_passes setting (suc index) all = script_found setting.scripts index all

  rests_so : (script : List Request) (past : List Past) → list_all request_passes script ≡ true → ClientPasses (resting script past)
  rests_so script past all = record { next = found_request script (next_place script (reports_of past)) all; now = tt }

  held_so : (setting : Setting) (number : ℕ) (client : Client) (doing : Doing) (held : Hold) → scripts_pass_in setting ≡ true → ClientPasses client → TalkPasses test doing.talk
      → ClientPasses (after_hold setting number client doing held)
  held_so setting number client doing hold.Keep scripts was here = record { next = was.next; now = here }
  held_so setting number client doing hold.GiveBack scripts was here = rests_so (script_at setting number) _ (script_passes setting number scripts)
  held_so setting number client doing hold.Drop scripts was here = rests_so (script_at setting number) _ (script_passes setting number scripts)

  begun_so : (terms : Terms) (event tick : ℕ) (request : Request) → request_passes request ≡ true → TalkPasses test (begun terms event tick request).talk
  begun_so terms event tick request here = (step_passes test terms tick (requested request.settings request.calls) Start (record { left = here; recorded = refl })).talk

  does_so : (terms : Terms) (event tick : ℕ) (client : Client) (doing : Doing) → ClientPasses client → doing_of terms event tick client ≡ Some doing → TalkPasses test doing.talk
  does_so terms event tick client doing was does = by client.now client.next was.now was.next does
    where
      by : (now : Option Doing) (next : Option Request) → DoingPasses now → option_map_or request_passes next true ≡ true → option_or now (option_map (begun terms event tick) next) ≡ Some doing
          → TalkPasses test doing.talk
      by (Some one) next here follows e = let same : one ≡ doing = cc in subst (λ (d : Doing). TalkPasses test d.talk) same here
      by None None here follows e = absurd (let none : ⊥ = cc in none)
      by None (Some request) here follows e =
          let same : begun terms event tick request ≡ doing = cc in subst (λ (d : Doing). TalkPasses test d.talk) {x = begun terms event tick request} same (begun_so terms event tick request follows)

  -- ---- frames

  closing_passes : (held : Hold) (how : Back) → list_all (frame_passes test) (closing held how) ≡ true
  closing_passes hold.Keep how = refl
  closing_passes hold.Drop how = refl
  closing_passes hold.GiveBack back.Closed = refl
  closing_passes hold.GiveBack back.Idle = refl

  frames_pass : (pool : Slots) (connection : ℕ) (act : Act) (owner : Owner) (call : ℕ) → list_all (frame_passes test) act.send ≡ true
      → list_all sent_passes (map (sent_by owner call) (frames_of pool connection act)) ≡ true
  frames_pass pool connection act owner call sends =
      map_all (frame_passes test) sent_passes (sent_by owner call) (frames_of pool connection act) (λ frame here. here)
      (append_all (frame_passes test) act.send (closing act.hold (give_back_answer pool connection)) sends (closing_passes act.hold (give_back_answer pool connection)))

  spoken_there : (lists : List (List Sent)) (index : ℕ) (frames : List Sent) → lists_pass lists ≡ true → list_all sent_passes frames ≡ true → lists_pass (spoken_at lists index frames) ≡ true
  spoken_there [] index frames all here = refl
  spoken_there (first ∷ lists) zero frames all here =
      let parts = and_parts (list_all sent_passes first) (lists_pass lists) all in
      and_from (list_all sent_passes (first ++ frames)) (lists_pass lists) (append_all sent_passes first frames parts.0 here) parts.1
  spoken_there (first ∷ lists) (suc index) frames all here =
      let parts = and_parts (list_all sent_passes first) (lists_pass lists) all in
      and_from (list_all sent_passes first) (lists_pass (spoken_at lists index frames)) parts.0 (spoken_there lists index frames parts.1 here)

  spoken_so : (lists : List (List Sent)) (number : ℕ) (frames : List Sent) → lists_pass lists ≡ true → list_all sent_passes frames ≡ true → lists_pass (spoken lists number frames) ≡ true
  spoken_so lists zero frames all here = all
  spoken_so lists (suc index) frames all here = spoken_there lists index frames all here

  each_spoken : (lists : List (List Sent)) (numbers : List ℕ) (frames : List Sent) → lists_pass lists ≡ true → list_all sent_passes frames ≡ true
      → lists_pass (fold (λ (all : List (List Sent)) (number : ℕ). spoken all number frames) lists numbers) ≡ true
  each_spoken lists [] frames all here = all
  each_spoken lists (number ∷ numbers) frames all here = each_spoken (spoken lists number frames) numbers frames (spoken_so lists number frames all here) here

  grown_so : (lists later : List (List Sent)) → ClientStepsGrows lists later → lists_pass lists ≡ true → lists_pass later ≡ true
  grown_so lists _ ClientStepsAsBefore all = all
  grown_so lists _ ClientStepsOneMore all = append_all (list_all sent_passes) lists ([] ∷ []) all refl

  -- ---- one event

  -- clients, and all that was sent
  pub record SaysOn (m : Machine) : Type 0 where
    pub clients : AllByRecursion ClientPasses m.clients
    pub sent : lists_pass (sent_lists m.links) ≡ true

  after_so : (setting : Setting) (first after : Doing) (held kept : Hold) → GoesOn setting first held after kept → TalkPasses test first.talk → TalkPasses test after.talk
  after_so setting first _ held _ AtOnce here = here
  after_so setting first _ held _ (LostToo event tick ended is) here = (step_passes test setting.terms tick first.talk (Gone ended) here).talk

  stepped_so : (setting : Setting) (m n : Machine) (number : ℕ) → scripts_pass_in setting ≡ true → SaysOn m → HasStepped setting m number n → SaysOn n
  stepped_so setting m n number scripts was step =
      let client : ClientPasses step.client = client_here m.clients number step.client was.clients step.here in
      let talk : TalkPasses test step.before.talk = does_so setting.terms m.event m.tick step.client step.before client step.does in
      let does = step_passes test setting.terms m.tick step.before.talk step.input talk in
      let doing : Doing = record step.before { connection = step.connection } in
      let did : Step = step_at setting.terms m.event m.tick doing step.input in
      record {
        clients = subst (AllByRecursion ClientPasses) (sym step.clients_are)
            (client_put m.clients number (after_hold setting number step.client step.after step.held) was.clients
            (held_so setting number step.client step.after step.held scripts client (after_so setting _ step.after _ step.held step.goes_on does.talk)));
        sent = ap lists_pass step.sent_are
            ∙ spoken_so step.lists (unwrap_or step.connection 0) _ (grown_so (sent_lists m.links) step.lists step.grows was.sent) (frames_pass step.pool (unwrap_or step.connection 0) did.done.act (owner_at m number) (call_in (heard setting.terms m.event m.tick doing step.input).talk.phase) does.sends);
      }

  pub may_step_so : (setting : Setting) (m n : Machine) → scripts_pass_in setting ≡ true → SaysOn m → MayStep setting m n → SaysOn n
  may_step_so setting m n scripts was (Still clients sent) = record { clients = subst (AllByRecursion ClientPasses) (sym clients) was.clients; sent = ap lists_pass sent ∙ was.sent }
  may_step_so setting m n scripts was (Closed clients sent) =
      record { clients = subst (AllByRecursion ClientPasses) (sym clients) was.clients; sent = ap lists_pass sent ∙ each_spoken (sent_lists m.links) m.pool.idle (closed_by_drain ∷ []) was.sent refl }
  may_step_so setting m n scripts was (Stepped number step) = stepped_so setting m n number scripts was step

  -- ---- the start

  pub starts_so : (scripts : List Script) → list_all (λ client. list_all request_passes client.requests) scripts ≡ true → AllByRecursion ClientPasses (map (λ client. resting client.requests []) scripts)
  starts_so [] all = tt
  starts_so (script ∷ scripts) all =
      let parts = and_parts (list_all request_passes script.requests) (list_all (λ client. list_all request_passes client.requests) scripts) all in
      (rests_so script.requests [] parts.0, starts_so scripts parts.1)
