-- Each request in course stays ready in each event of a run.
use Rattle.std.proofs.Common.{◌≡◌, refl, sym, ap, subst, ◌∙◌, Bool, true, false, ℕ, suc, zero, ◌+◌, ◌-◌, ◌&&◌, length, List, [], ◌∷◌, ◌++◌, filter_map, Option, Some, None, if◌then◌else◌}
use Rattle.std.specs.Prelude.{◌==◌, not, nat_le, get_or, slice_get, unwrap_or, option_and_then}
use Rattle.std.specs.List.{list_all, cons_option}
use Rattle.std.specs.Option.{option_map_or}
use Rattle.std.proofs.lemmas.Bool.{and_parts, and_from}
use Rattle.std.proofs.lemmas.List.Elements.{filter_map-append}
use Rattle.svc_values.specs.declared.entry.Ltxid.{Ltxid}
use Rattle.svc_values.specs.declared.frame.Down.{Down}
use Rattle.pool_core.specs.meaning.Slots.{Slots}
use Rattle.outage_schedule.specs.declared.document.Request.{Request}
use Rattle.outage_schedule.specs.declared.request.RequestReport.{RequestReport}
use Rattle.outage_schedule.specs.declared.item.Served.{Served}
use Rattle.run_clauses.specs.meaning.Copies.{next_place, next_of}
use Rattle.client_model.specs.declared.act.Hold.{Hold}
use Rattle.client_model.specs.declared.act.Hold.TheVariants as hold
use Rattle.client_model.specs.declared.act.Failed.TheVariants.{Retries, PoolWait}
use Rattle.client_model.specs.declared.input.Input.TheVariants.{Waiting, Lent, Opened, TryFailed, Took, Gone}
use Rattle.client_model.specs.declared.input.Wants.{Wants}
use Rattle.client_model.specs.declared.input.Wants.TheVariants as wants
use Rattle.client_model.specs.meaning.Terms.{Terms, Talk, Phase, Idle, Unbegun, Queued, Seeking, Greeting, Asked, Running, Replaying}
use Rattle.client_model.specs.meaning.Talk.{Step, stands, quiet, fails, on_hello, on_waiting, waits_from, with_tried, lost_of, on_try_failed, loses as lost_to, takes as taken_by, wants_in}
use Rattle.client_model.specs.Released.{has_slot}
use Rattle.world_model.specs.meaning.Settings.{Setting}
use Rattle.world_model.specs.meaning.Clients.{Step as Stepped, Doing, Client, client_at, with_client, script_at, reports_of, doing_at, heard, after_hold, after_step, past_of, step_at}
use Rattle.world_model.specs.meaning.Machines.{Machine}
use Rattle.world_model.specs.meaning.Matching.{Noted}
use Rattle.world_model.specs.meaning.Going.{lost_at_once}
use Rattle.world_model.specs.Words.{brought, held_in}
use Rattle.world_model.specs.Parts.{implies}
use Rattle.world_model.specs.records.Ready.{has_calls, is_waiting, is_unbegun, records_rightly, is_ready, is_ready_client}
use Rattle.world_model.proofs.events.AllLists.{at_all}
use Rattle.world_model.proofs.events.AllClients.{at_client, with_client_all, stepped_client, client_set, client_twice}
use Rattle.world_model.proofs.basic.LinkLives.{implied}
use Rattle.world_model.proofs.events.Moves.{IsDoing, next_number, Tries, FromQueue, Again, takes_one, Goes, Rests, Waits, Lends, Opens, Fails, Takes, Loses, ServesLast, LastNone, LastStopped, LastServed, Happens, Nothing, IsStep, Serves, Cuts, Reaps, Crashes, OpensUp, StopsOpening, Ticks, RunsOutside, Asks, Drains}
use Rattle.world_model.proofs.wire.Saying.{has_next, said, said_lent, stays_out, is_hushed}
use Rattle.world_model.proofs.wire.SentLinks.{slot_waits}
use Rattle.world_model.proofs.script.Strangers.{doing_ready, waiting_none}
use Rattle.world_model.proofs.script.TalkReady.{AreRight, records_in, talk_ready, records_same, hello_ready, weaker, takes_ready, gone_ready}

-- SCRIPTS -----------------------------------------------------------------------------------------

placed_calls : (script : List Request) (place : Option ℕ) → list_all has_calls script ≡ true → option_map_or has_calls (option_and_then (slice_get script) place) true ≡ true
placed_calls script None all = refl
placed_calls script (Some place) all = by (slice_get script place) refl
  where
    by : (found : Option Request) → slice_get script place ≡ found → option_map_or has_calls found true ≡ true
    by None is = refl
    by (Some request) is = at_all has_calls script place request all is

pub next_calls : (script : List Request) (reports : List RequestReport) → list_all has_calls script ≡ true → option_map_or has_calls (next_of script reports) true ≡ true
next_calls script reports all = placed_calls script (next_place script reports) all

got_all : (test : Request → Bool) (scripts : List (List Request)) (index : ℕ) → list_all (list_all test) scripts ≡ true → list_all test (get_or scripts index []) ≡ true
got_all test [] index all = refl
got_all test (script ∷ scripts) zero all = (and_parts (list_all test script) (list_all (list_all test) scripts) all).0
got_all test (script ∷ scripts) (suc index) all = got_all test scripts index (and_parts (list_all test script) (list_all (list_all test) scripts) all).1

pub script_all : (test : Request → Bool) (setting : Setting) (number : ℕ) → list_all (list_all test) setting.scripts ≡ true → list_all test (script_at setting number) ≡ true
script_all test setting zero all = refl
script_all test setting (suc index) all = got_all test setting.scripts index all

-- PHASES ------------------------------------------------------------------------------------------

-- it has no connection and may open one
abbrev is_slotless : Phase → Bool
is_slotless (Queued from) = true
is_slotless (Seeking lost) = true
is_slotless _ = false

try_slotless : (terms : Terms) (talk : Talk) (phase : Phase) (now : ℕ) → wants_in terms talk phase now ≡ wants.Try → is_slotless phase ≡ true
try_slotless terms talk (Queued from) now is = refl
try_slotless terms talk (Seeking lost) now is = refl
try_slotless terms talk Idle now is = absurd (let none : ⊥ = cc in none)
try_slotless terms talk Unbegun now is = absurd (let none : ⊥ = cc in none)
try_slotless terms talk phase now is = absurd (let none : ⊥ = cc in none)

queue_slotless : (terms : Terms) (talk : Talk) (phase : Phase) (now : ℕ) → wants_in terms talk phase now ≡ wants.Slot → is_slotless phase ≡ true
queue_slotless terms talk (Queued from) now is = refl
queue_slotless terms talk (Seeking lost) now is = refl
queue_slotless terms talk Idle now is = absurd (let none : ⊥ = cc in none)
queue_slotless terms talk Unbegun now is = absurd (let none : ⊥ = cc in none)
queue_slotless terms talk phase now is = absurd (let none : ⊥ = cc in none)

tries_slotless : (setting : Setting) (m : Machine) (number : ℕ) (doing : Doing) (wanted : Wants) (pool : Slots) → IsDoing setting m number doing wanted → Tries m number wanted pool → is_slotless doing.talk.phase ≡ true
tries_slotless setting m number doing _ _ is (FromQueue answer) = queue_slotless setting.terms doing.talk doing.talk.phase m.tick is.wants
tries_slotless setting m number doing _ _ is Again = try_slotless setting.terms doing.talk doing.talk.phase m.tick is.wants

frame_out : (terms : Terms) (talk : Talk) (phase : Phase) (now : ℕ) → wants_in terms talk phase now ≡ wants.Frame → is_waiting phase ≡ false
frame_out terms talk (Queued from) now is = absurd (let none : ⊥ = cc in none)
frame_out terms talk Unbegun now is = absurd (let none : ⊥ = cc in none)
frame_out terms talk phase now is = refl

pub frame_slot : (terms : Terms) (talk : Talk) (phase : Phase) (now : ℕ) → wants_in terms talk phase now ≡ wants.Frame → has_slot phase ≡ true
frame_slot terms talk Idle now is = absurd (let none : ⊥ = cc in none)
frame_slot terms talk Unbegun now is = absurd (let none : ⊥ = cc in none)
frame_slot terms talk (Queued from) now is = absurd (let none : ⊥ = cc in none)
frame_slot terms talk phase now is = refl

gone_out : (phase : Phase) (event : ℕ) → is_waiting phase ≡ false → is_waiting (lost_to phase event) ≡ false
gone_out Unbegun event out = absurd (let none : ⊥ = cc in none)
gone_out (Queued from) event out = absurd (let none : ⊥ = cc in none)
gone_out (Greeting lost) event out = refl
gone_out (Asked asking) event out = refl
gone_out (Running state) event out = refl
gone_out (Replaying state) event out = refl
gone_out phase event out = out

pub waits_unbegun : (phase : Phase) → is_waiting phase ≡ true → is_unbegun phase ≡ true
waits_unbegun Unbegun is = refl
waits_unbegun (Queued from) is = refl
waits_unbegun phase is = absurd (let none : ⊥ = cc in none)

-- REQUESTS ----------------------------------------------------------------------------------------

-- of a request that is ready, and of one that has a slot
doing_left : (terms : Terms) (doing : Doing) → is_ready terms doing ≡ true → implies (is_unbegun doing.talk.phase) (not (length doing.talk.left == 0)) ≡ true
doing_left terms doing ready = (and_parts (implies (is_unbegun doing.talk.phase) (not (length doing.talk.left == 0))) _ ready).0

doing_records : (terms : Terms) (doing : Doing) → is_ready terms doing ≡ true → records_in true terms doing.talk doing.talk.phase ≡ true
doing_records terms doing ready =
    let one = and_parts (implies (is_unbegun doing.talk.phase) (not (length doing.talk.left == 0))) (implies (is_waiting doing.talk.phase) (length (held_in doing.steps) == 0) && records_rightly terms doing.talk doing.talk.phase) ready in
    records_same terms doing.talk doing.talk.phase ∙ (and_parts (implies (is_waiting doing.talk.phase) (length (held_in doing.steps) == 0)) (records_rightly terms doing.talk doing.talk.phase) one.1).1

doing_whole : (terms : Terms) (doing : Doing) → is_ready terms doing ≡ true → talk_ready true terms doing.talk ≡ true
doing_whole terms doing ready =
    and_from (implies (is_unbegun doing.talk.phase) (not (length doing.talk.left == 0))) (records_in true terms doing.talk doing.talk.phase) (doing_left terms doing ready) (doing_records terms doing ready)

whole_doing : (terms : Terms) (doing : Doing) → talk_ready true terms doing.talk ≡ true → implies (is_waiting doing.talk.phase) (length (held_in doing.steps) == 0) ≡ true → is_ready terms doing ≡ true
whole_doing terms doing whole held =
    let parts = and_parts (implies (is_unbegun doing.talk.phase) (not (length doing.talk.left == 0))) (records_in true terms doing.talk doing.talk.phase) whole in
    and_from (implies (is_unbegun doing.talk.phase) (not (length doing.talk.left == 0))) (implies (is_waiting doing.talk.phase) (length (held_in doing.steps) == 0) && records_rightly terms doing.talk doing.talk.phase) parts.0
    (and_from (implies (is_waiting doing.talk.phase) (length (held_in doing.steps) == 0)) (records_rightly terms doing.talk doing.talk.phase) held (sym (records_same terms doing.talk doing.talk.phase) ∙ parts.1))

out_doing : (terms : Terms) (doing : Doing) → talk_ready true terms doing.talk ≡ true → is_waiting doing.talk.phase ≡ false → is_ready terms doing ≡ true
out_doing terms doing whole out = whole_doing terms doing whole (ap (λ (test : Bool). implies test (length (held_in doing.steps) == 0)) out)

-- a step that brings no connection
held_same : (done : List Stepped) (one : Stepped) → brought one.done.input ≡ None → held_in done ≡ [] → (length (held_in (done ++ one ∷ [])) == 0) ≡ true
held_same done one none held =
    ap (λ (numbers : List ℕ). length numbers == 0)
    (filter_map-append (λ (step : Stepped). brought step.done.input) done (one ∷ [])
    ∙ (ap (λ (numbers : List ℕ). numbers ++ filter_map (λ (step : Stepped). brought step.done.input) (one ∷ [])) held ∙ brings none))
  where
    brings : brought one.done.input ≡ None → filter_map (λ (step : Stepped). brought step.done.input) (one ∷ []) ≡ []
    brings none = by (brought one.done.input) none
      where
        by : (found : Option ℕ) → found ≡ None → cons_option found [] ≡ []
        by None is = refl
        by (Some number) is = absurd (let never : ⊥ = cc in never)

-- STEPS -------------------------------------------------------------------------------------------

module _ (terms : Terms) (right : AreRight terms.rules) where
  waited : (event tick from : ℕ) (doing : Doing) (step : Stepped) → is_ready terms doing ≡ true → is_waiting doing.talk.phase ≡ true → brought step.done.input ≡ None → (on_waiting terms doing.talk from tick).1.hold ≡ hold.Keep
      → is_ready terms (record doing { talk = (on_waiting terms doing.talk from tick).0; steps = doing.steps ++ step ∷ [] }) ≡ true
  waited event tick from doing step ready waits none kept = by (nat_le terms.limits.wait (tick - from)) kept
    where
      after : Bool → Step
      after long = if long then fails doing.talk false None (PoolWait from tick) else (stands doing.talk (Queued (Some from)), quiet)

      by : (long : Bool) → (if long then fails doing.talk false None (PoolWait from tick) else (stands doing.talk (Queued (Some from)), quiet)).1.hold ≡ hold.Keep
          → is_ready terms (record doing { talk = (if long then fails doing.talk false None (PoolWait from tick) else (stands doing.talk (Queued (Some from)), quiet)).0; steps = doing.steps ++ step ∷ [] }) ≡ true
      by true kept = absurd (let never : ⊥ = cc in never)
      by false kept =
          let left : not (length doing.talk.left == 0) ≡ true = implied (is_unbegun doing.talk.phase) (not (length doing.talk.left == 0)) (waits_unbegun doing.talk.phase waits) (doing_left terms doing ready) in
          and_from (not (length doing.talk.left == 0)) ((length (held_in (doing.steps ++ step ∷ [])) == 0) && true) left
          (and_from (length (held_in (doing.steps ++ step ∷ [])) == 0) true (held_same doing.steps step none (waiting_none terms doing ready waits)) refl)

  lent_whole : (doing : Doing) (ltxid : Ltxid) (tick : ℕ) → is_ready terms doing ≡ true → is_waiting doing.talk.phase ≡ true → talk_ready true terms (on_hello terms doing.talk None ltxid true tick).0 ≡ true
  lent_whole doing ltxid tick ready waits = hello_ready terms right doing.talk None ltxid true tick refl (implied (is_unbegun doing.talk.phase) (not (length doing.talk.left == 0)) (waits_unbegun doing.talk.phase waits) (doing_left terms doing ready))

  lent_out : (talk : Talk) (ltxid : Ltxid) (tick : ℕ) → is_waiting (on_hello terms talk None ltxid true tick).0.phase ≡ false
  lent_out talk ltxid tick =
      let step : Step = on_hello terms talk None ltxid true tick in stays_out (Greeting None) (has_next talk) true false step.0.phase step.1.send step.1.hold (said_lent terms talk ltxid tick) refl

  opened_whole : (talk : Talk) (phase : Phase) → is_slotless phase ≡ true → implies (is_unbegun phase) (not (length talk.left == 0)) ≡ true → records_in true terms talk phase ≡ true
      → talk_ready true terms (record talk { tries = 0; phase = Greeting (lost_of phase) }) ≡ true
  opened_whole talk (Queued from) slotless left here = and_from (not (length talk.left == 0)) true left refl
  opened_whole talk (Seeking None) slotless left here = and_from (not (length talk.left == 0)) true left refl
  opened_whole talk (Seeking (Some lost)) slotless left here = here
  opened_whole talk phase slotless left here = absurd (let never : ⊥ = cc in never)

  sought_whole : (talk : Talk) (phase : Phase) (now : ℕ) → is_slotless phase ≡ true → implies (is_unbegun phase) (not (length talk.left == 0)) ≡ true → records_in true terms talk phase ≡ true
      → talk_ready true terms (stands (with_tried talk now) (Seeking (lost_of phase))) ≡ true
  sought_whole talk (Queued from) now slotless left here = and_from (not (length talk.left == 0)) true left refl
  sought_whole talk (Seeking None) now slotless left here = and_from (not (length talk.left == 0)) true left refl
  sought_whole talk (Seeking (Some lost)) now slotless left here = here
  sought_whole talk phase now slotless left here = absurd (let never : ⊥ = cc in never)

  failed : (tick : ℕ) (doing : Doing) (done : List Stepped) → is_ready terms doing ≡ true → is_slotless doing.talk.phase ≡ true → (on_try_failed terms doing.talk tick).1.hold ≡ hold.Keep
      → is_ready terms (record doing { talk = (on_try_failed terms doing.talk tick).0; steps = done }) ≡ true
  failed tick doing done ready slotless kept = by (nat_le terms.limits.retries (doing.talk.tries + 1)) kept
    where
      by : (many : Bool) → (if many then fails (with_tried doing.talk tick) false None (Retries (doing.talk.tries + 1)) else (stands (with_tried doing.talk tick) (Seeking (lost_of doing.talk.phase)), quiet)).1.hold ≡ hold.Keep
          → is_ready terms (record doing { talk = (if many then fails (with_tried doing.talk tick) false None (Retries (doing.talk.tries + 1)) else (stands (with_tried doing.talk tick) (Seeking (lost_of doing.talk.phase)), quiet)).0; steps = done }) ≡ true
      by true kept = absurd (let never : ⊥ = cc in never)
      by false kept =
          out_doing terms (record doing { talk = stands (with_tried doing.talk tick) (Seeking (lost_of doing.talk.phase)); steps = done })
          (sought_whole doing.talk doing.talk.phase tick slotless (doing_left terms doing ready) (doing_records terms doing ready)) refl

  taken_whole : (doing : Doing) (frame : Down) (alive : Bool) (tick : ℕ) → is_ready terms doing ≡ true → talk_ready alive terms (taken_by terms doing.talk doing.talk.phase frame alive tick).0 ≡ true
  taken_whole doing frame alive tick ready = takes_ready terms right doing.talk doing.talk.phase frame alive tick (doing_whole terms doing ready) (doing_records terms doing ready) (doing_left terms doing ready)

  taken_out : (talk : Talk) (frame : Down) (alive : Bool) (tick : ℕ) → has_slot talk.phase ≡ true → is_waiting (taken_by terms talk talk.phase frame alive tick).0.phase ≡ false
  taken_out talk frame alive tick out =
      let step : Step = taken_by terms talk talk.phase frame alive tick in
      stays_out talk.phase (has_next talk) alive (is_hushed frame) step.0.phase step.1.send step.1.hold (said terms talk talk.phase frame alive tick refl) out

-- CLIENTS -----------------------------------------------------------------------------------------

module _ (setting : Setting) (right : AreRight setting.terms.rules) (scripts : list_all (list_all has_calls) setting.scripts ≡ true) where
  abbrev all_ready : List Client → Bool
  all_ready clients = list_all (is_ready_client setting.terms) clients

  held_ready : (number : ℕ) (client : Client) (doing : Doing) (held : Hold) → is_ready_client setting.terms client ≡ true → (held ≡ hold.Keep → is_ready setting.terms doing ≡ true)
      → is_ready_client setting.terms (after_hold setting number client doing held) ≡ true
  held_ready number client doing hold.Keep here ready =
      and_from (is_ready setting.terms doing) (option_map_or has_calls client.next true) (ready refl) (and_parts (option_map_or (is_ready setting.terms) client.now true) (option_map_or has_calls client.next true) here).1
  held_ready number client doing hold.GiveBack here ready = next_calls (script_at setting number) (reports_of (client.past ++ past_of setting.terms doing ∷ [])) (script_all has_calls setting number scripts)
  held_ready number client doing hold.Drop here ready = next_calls (script_at setting number) (reports_of (client.past ++ past_of setting.terms doing ∷ [])) (script_all has_calls setting number scripts)

  step_ready : (clients : List Client) (number : ℕ) (client : Client) (doing : Doing) (held : Hold) → client_at clients number ≡ Some client → all_ready clients ≡ true → (held ≡ hold.Keep → is_ready setting.terms doing ≡ true)
      → all_ready (after_step setting clients number doing held) ≡ true
  step_ready clients number client doing held here all ready =
      subst (λ (now : List Client). all_ready now ≡ true) (sym (stepped_client setting clients number client doing held here))
      (with_client_all (is_ready_client setting.terms) clients number (after_hold setting number client doing held) all
      (held_ready number client doing held (at_client (is_ready_client setting.terms) clients number client all here) ready))

  -- the connection of the request is gone in the same event
  lost_ready : (a : Machine) (clients : List Client) (number : ℕ) (ended : Option ℕ) (client : Client) (doing : Doing) (held : Hold) → a.clients ≡ after_step setting clients number doing held → client_at clients number ≡ Some client
      → all_ready clients ≡ true → talk_ready false setting.terms doing.talk ≡ true → is_waiting doing.talk.phase ≡ false → all_ready (lost_at_once setting a number ended (doing_at a.clients number)).clients ≡ true
  lost_ready a clients number ended client doing held now here all weak out = by held now
    where
      set : (held : Hold) → a.clients ≡ after_step setting clients number doing held → a.clients ≡ with_client clients number (after_hold setting number client doing held)
      set held now = now ∙ stepped_client setting clients number client doing held here

      found : (held : Hold) → a.clients ≡ after_step setting clients number doing held → client_at a.clients number ≡ Some (after_hold setting number client doing held)
      found held now = ap (λ (all : List Client). client_at all number) (set held now) ∙ client_set clients number client (after_hold setting number client doing held) here

      doing_now : (held : Hold) → a.clients ≡ after_step setting clients number doing held → doing_at a.clients number ≡ (after_hold setting number client doing held).now
      doing_now held now = ap (λ (one : Option Client). option_and_then (λ (c : Client). c.now) one) (found held now)

      over : (held : Hold) → a.clients ≡ after_step setting clients number doing held → (held ≡ hold.Keep → is_ready setting.terms doing ≡ true) → (after_hold setting number client doing held).now ≡ None
          → all_ready (lost_at_once setting a number ended (doing_at a.clients number)).clients ≡ true
      over held now ready none =
          subst (λ (one : Option Doing). all_ready (lost_at_once setting a number ended one).clients ≡ true) (sym (doing_now held now ∙ none))
          (subst (λ (c : List Client). all_ready c ≡ true) (sym now) (step_ready clients number client doing held here all ready))

      gone : Doing
      gone = heard setting.terms a.event a.tick (record doing { connection = None }) (Gone (unwrap_or ended 0))

      gone_is : is_ready setting.terms gone ≡ true
      gone_is = out_doing setting.terms gone (gone_ready setting.terms right doing.talk (unwrap_or ended 0) a.tick weak) (gone_out doing.talk.phase (unwrap_or ended 0) out)

      kept : a.clients ≡ after_step setting clients number doing hold.Keep → all_ready (lost_at_once setting a number ended (doing_at a.clients number)).clients ≡ true
      kept now =
          let one : Client = record client { now = Some doing } in
          let next : Client = record client { now = Some gone } in
          let ready : is_ready_client setting.terms next ≡ true = held_ready number client gone hold.Keep (at_client (is_ready_client setting.terms) clients number client all here) (λ keep. gone_is) in
          let last : after_step setting a.clients number gone hold.Keep ≡ with_client clients number next =
          stepped_client setting a.clients number one gone hold.Keep (found hold.Keep now) ∙ (ap (λ (c : List Client). with_client c number next) (set hold.Keep now) ∙ client_twice clients number one next) in
          subst (λ (lost : Option Doing). all_ready (lost_at_once setting a number ended lost).clients ≡ true) (sym (doing_now hold.Keep now))
          (subst (λ (c : List Client). all_ready c ≡ true) (sym last) (with_client_all (is_ready_client setting.terms) clients number next all ready))

      by : (held : Hold) → a.clients ≡ after_step setting clients number doing held → all_ready (lost_at_once setting a number ended (doing_at a.clients number)).clients ≡ true
      by hold.Keep now = kept now
      by hold.GiveBack now = over hold.GiveBack now (λ is. absurd (let never : ⊥ = cc in never)) refl
      by hold.Drop now = over hold.Drop now (λ is. absurd (let never : ⊥ = cc in never)) refl

  unless_ready : (a : Machine) (clients : List Client) (number : ℕ) (ended : Option ℕ) (client : Client) (doing : Doing) (held : Hold) (alive : Bool) → a.clients ≡ after_step setting clients number doing held
      → client_at clients number ≡ Some client → all_ready clients ≡ true → talk_ready alive setting.terms doing.talk ≡ true → is_waiting doing.talk.phase ≡ false
      → all_ready (if alive then a else lost_at_once setting a number ended (doing_at a.clients number)).clients ≡ true
  unless_ready a clients number ended client doing held true now here all whole out =
      subst (λ (c : List Client). all_ready c ≡ true) (sym now) (step_ready clients number client doing held here all (λ keep. out_doing setting.terms doing whole out))
  unless_ready a clients number ended client doing held false now here all whole out = lost_ready a clients number ended client doing held now here all whole out

  module _ (m : Machine) (all : all_ready m.clients ≡ true) where
    -- EVENTS
    -- ----------------------------------------------------------------------------------------

    is_now : (number : ℕ) (doing : Doing) (wanted : Wants) → IsDoing setting m number doing wanted → is_ready setting.terms doing ≡ true
    is_now number doing wanted is = doing_ready setting m number doing wanted all is

    goes_ready : (number : ℕ) (a : Machine) → Goes setting m number a → all_ready a.clients ≡ true
    goes_ready number _ Rests = all
    goes_ready number _ (Waits doing is answer) =
        let next : Doing = heard setting.terms m.event m.tick doing Waiting in
        step_ready m.clients number is.client next (on_waiting setting.terms doing.talk (waits_from doing.talk.phase m.tick) m.tick).1.hold is.here all
        (λ keep. waited setting.terms right m.event m.tick (waits_from doing.talk.phase m.tick) doing (step_at setting.terms m.event m.tick doing Waiting) (is_now number doing wants.Slot is)
        (slot_waits setting.terms doing.talk doing.talk.phase m.tick is.wants) refl keep)
    goes_ready number _ (Lends doing connection link ltxid is answer there held) =
        let next : Doing = heard setting.terms m.event m.tick (record doing { connection = Some connection }) (Lent connection ltxid) in
        step_ready m.clients number is.client next (on_hello setting.terms doing.talk None ltxid true m.tick).1.hold is.here all
        (λ keep. out_doing setting.terms next
        (lent_whole setting.terms right doing ltxid m.tick (is_now number doing wants.Slot is) (slot_waits setting.terms doing.talk doing.talk.phase m.tick is.wants)) (lent_out setting.terms right doing.talk ltxid m.tick))
    goes_ready number _ (Opens doing wanted pool is tries runs) =
        let ready = is_now number doing wanted is in
        let next : Doing = heard setting.terms m.event m.tick (record doing { connection = Some (next_number m) }) (Opened (next_number m)) in
        step_ready m.clients number is.client next hold.Keep is.here all
        (λ keep. out_doing setting.terms next
        (opened_whole setting.terms right doing.talk doing.talk.phase (tries_slotless setting m number doing wanted pool is tries) (doing_left setting.terms doing ready) (doing_records setting.terms doing ready)) refl)
    goes_ready number _ (Fails doing wanted pool is tries down) =
        let next : Doing = heard setting.terms m.event m.tick doing TryFailed in
        step_ready m.clients number is.client next (on_try_failed setting.terms doing.talk m.tick).1.hold is.here all
        (λ keep. failed setting.terms right m.tick doing next.steps (is_now number doing wanted is) (tries_slotless setting m number doing wanted pool is tries) keep)
    goes_ready number _ (Takes doing connection link reply left is on down) =
        let ready = is_now number doing wants.Frame is in
        let a : Machine = takes_one setting m number doing connection link reply left in
        let next : Doing = heard setting.terms m.event m.tick doing (Took reply.frame link.is_open) in
        unless_ready a m.clients number link.ended is.client next (taken_by setting.terms doing.talk doing.talk.phase reply.frame link.is_open m.tick).1.hold link.is_open refl is.here all
        (taken_whole setting.terms right doing reply.frame link.is_open m.tick ready)
        (taken_out setting.terms right doing.talk reply.frame link.is_open m.tick (frame_slot setting.terms doing.talk doing.talk.phase m.tick is.wants))
    goes_ready number _ (Loses doing connection link is on none closed) =
        let ready = is_now number doing wants.Frame is in
        let next : Doing = heard setting.terms m.event m.tick (record doing { connection = None }) (Gone (unwrap_or link.ended 0)) in
        step_ready m.clients number is.client next hold.Keep is.here all
        (λ keep. out_doing setting.terms next (gone_ready setting.terms right doing.talk (unwrap_or link.ended 0) m.tick (weaker setting.terms right false doing.talk (doing_whole setting.terms doing ready)))
        (gone_out doing.talk.phase (unwrap_or link.ended 0) (frame_out setting.terms doing.talk doing.talk.phase m.tick is.wants)))

    last_ready : (number after : ℕ) (items left : List Served) (a : Machine) → ServesLast m number after items left a → all_ready a.clients ≡ true
    last_ready number after items left _ (LastNone same) = all
    last_ready number after items left _ (LastStopped front served is stopped same) = all
    last_ready number after items left _ (LastServed front served is over same) = all

    pub clients_ready : (items left : List Served) (happened : Noted) (n : Machine) → Happens setting m items left happened n → all_ready n.clients ≡ true
    clients_ready items left happened _ (Nothing kind other) = all
    clients_ready items left happened _ (IsStep number did n moves) = goes_ready number n moves
    clients_ready items left happened _ (Serves number frame front served is ordinary same) = all
    clients_ready items left happened _ (Cuts number up down reached link is) = all
    clients_ready items left happened _ (Reaps number reaped orphan) = all
    clients_ready items left happened _ (Crashes number after failover down a runs last) = last_ready number after items left a last
    clients_ready items left happened _ (OpensUp incarnation down may) = all
    clients_ready items left happened _ (StopsOpening made down) = all
    clients_ready items left happened _ Ticks = all
    clients_ready items left happened _ (RunsOutside ran runs) = all
    clients_ready items left happened _ (Asks ltxid result runs) = all
    clients_ready items left happened _ (Drains closed) = all
