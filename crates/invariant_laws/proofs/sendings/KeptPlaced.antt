-- Of Once: each sending is of its script's call, on a connection that its request held, at the
-- start and behind each event.
use Rattle.std.proofs.Common.{◌≡◌, refl, sym, ap, subst, ◌∙◌, Bool, true, false, ℕ, fold, length, List, [], ◌∷◌, ◌++◌, Option, Some}
use Rattle.std.specs.Prelude.{◌==◌, slice_get}
use Rattle.std.specs.List.{list_all, list_any, cons_option}
use Rattle.std.specs.Option.{option_map_or}
use Rattle.std.proofs.lemmas.Bool.{and_parts, and_from, or_left}
use Rattle.std.proofs.lemmas.List.Folds.{list_any-append}
use Rattle.std.proofs.lemmas.List.Elements.{filter_map-append}
use Rattle.svc_values.specs.declared.call.Call.{Call}
use Rattle.svc_values.specs.declared.entry.Ltxid.{Ltxid}
use Rattle.svc_values.specs.declared.frame.Up.{Up}
use Rattle.svc_values.specs.declared.frame.Up.TheVariants as up
use Rattle.svc_values.specs.declared.value.Value.{Value}
use Rattle.svc_values.specs.meaning.Same.{same_call}
use Rattle.svc_values.specs.SameLaws.{same_call_decides}
use Rattle.outage_schedule.specs.declared.document.Request.{Request}
use Rattle.world_model.specs.meaning.Acting.{call_in}
use Rattle.world_model.specs.meaning.Clients.{Step, Doing}
use Rattle.world_model.specs.meaning.Frames.{Owner}
use Rattle.world_model.specs.Orderly.{Orderly}
use Rattle.invariant_laws.specs.KeptLaws.{IsKeptOfAll}
use Rattle.world_model.specs.meaning.Machines.{Machine}
use Rattle.invariant_laws.specs.Once.{is_placed, are_placed, all_placed, are_apart}
use Rattle.world_model.specs.Parts.{Sending, Scan, sent_on}
use Rattle.world_model.specs.meaning.Settings.{Setting, setting_of}
use Rattle.world_model.specs.Traced.{Traced, course_now, courses_of_clients}
use Rattle.world_model.specs.Words.{brought, held_in}
use Rattle.world_model.proofs.Offered.{weaker_all, HasStepped, all_step, Followed, follow_happens, at_event, resting_none, opening, scan_by, heard_scan, after_sendings, after_held, places, leads, sends_at, account_now, first_step, first_doing, first_talks_on, request_after, eq_from}
use Rattle.invariant_laws.proofs.sendings.ApartSteps.{PushedAs, NoMore, OneMade, pushed_as, made_calls}
use Rattle.invariant_laws.proofs.sendings.FateSteps.{called_at}
use Rattle.invariant_laws.proofs.sendings.FateTops.{last_any}
use Rattle.invariant_laws.proofs.losses.LostLists.{has_last_held}
use Rattle.invariant_laws.proofs.losses.LostSteps.{before_so}
use Rattle.invariant_laws.proofs.talks.Placing.{Moving, Quietly, Stepping, moving}
use Rattle.invariant_laws.proofs.rows.RowSteps.{sent_scripts, unmarked_at}
use Rattle.invariant_laws.proofs.sendings.SendingsMade.{made, answered_all, Speaks, speaks}

-- it is so of a request that held more connections
placed_further : (calls : List Call) (held more : List ℕ) (sending : Sending) → is_placed calls held sending ≡ true → is_placed calls (held ++ more) sending ≡ true
placed_further calls held more sending here =
    let script : Bool = option_map_or (same_call sending.call) (slice_get calls sending.at) false in
    let parts = and_parts script (list_any (λ number. number == sending.connection) held) here in
    and_from script (list_any (λ number. number == sending.connection) (held ++ more)) parts.0
    (list_any-append (λ number. number == sending.connection) held more ∙ or_left (list_any (λ number. number == sending.connection) held) (list_any (λ number. number == sending.connection) more) parts.1)

module _ (t : Traced) (inv : Orderly t) (apart : are_apart t ≡ true) (new : Traced) (who : ℕ) (step : HasStepped t.setting (at_event t.machine) who new.machine) where
  abbrev m : Machine
  m = at_event t.machine

  abbrev mine : Owner
  mine = record { client = who; place = length step.client.past }

  abbrev one : Step
  one = first_step t.setting m inv.script.talks who new.machine step

  abbrev first : Doing
  first = first_doing t.setting m inv.script.talks who new.machine step

  abbrev calls : List Call
  calls = step.before.request.calls

  abbrev held_before : List ℕ
  held_before = held_in step.before.steps

  abbrev held_behind : List ℕ
  held_behind = held_before ++ cons_option (brought step.input) []

  abbrev scan_now : Scan
  scan_now = heard_scan t.setting m inv.script.talks who new.machine step

  heard_so : list_all (is_placed calls held_before) (scan_by mine step.before.steps).sendings ≡ true → list_all (is_placed calls held_behind) scan_now.sendings ≡ true
  heard_so all =
      answered_all (is_placed calls held_behind) (λ sending answers here. here) step.input one.done.act.shown (scan_by mine step.before.steps).sendings
      (weaker_all (is_placed calls held_before) (is_placed calls held_behind) (scan_by mine step.before.steps).sendings (placed_further calls held_before (cons_option (brought step.input) [])) all)

  -- the call that is sent is the next one of the script, on the connection that was held last
  module _ (begun : Bool) (settings : List (List ℕ × Value)) (call : Call) (sends : one.done.act.send ≡ opening begun settings ++ up.Call false [] call ∷ []) where
    pub place_now : scan_now.shown ≡ length (account_now t.setting.terms first).shown
    place_now =
        sym (eq_from (call_in first.talk.phase) scan_now.shown (called_at scan_now (call_in first.talk.phase) begun settings call
        (subst (λ (send : List Up). list_all (sends_at scan_now (call_in first.talk.phase)) send ≡ true) sends (places t.setting m inv.script.talks who new.machine step))))
        ∙ unmarked_at t.setting m inv.script.talks who new.machine step (opening begun settings) [] call sends

    pub spoke : Speaks t inv who new.machine step
    spoke = speaks t inv who new.machine step (made_calls t inv apart new who step begun settings call sends)

    pub speaks_on : scan_now.connection ≡ spoke.connection
    speaks_on = leads t.setting m inv.script.talks who new.machine step spoke.connection spoke.has

    held_on : list_any (λ number. number == scan_now.connection) held_behind ≡ true
    held_on =
        ap (λ (connection : ℕ). list_any (λ number. number == connection) held_behind) speaks_on
        ∙ (ap (list_any (λ number. number == spoke.connection)) (sym (filter_map-append (λ (s : Step). brought s.done.input) step.before.steps (one ∷ [])))
        ∙ last_any (held_in first.steps) spoke.connection (has_last_held first.steps spoke.connection ((first_talks_on t.setting m inv.script.talks who new.machine step).has ∙ spoke.has)))

    made_placed : (x : Ltxid) → is_placed calls held_behind (made scan_now call x) ≡ true
    made_placed x =
        let at : slice_get calls scan_now.shown ≡ Some call = ap (slice_get calls) place_now ∙ sent_scripts t.setting m inv.script.talks who new.machine step (opening begun settings) [] call sends in
        and_from (option_map_or (same_call call) (slice_get calls scan_now.shown) false) (list_any (λ number. number == scan_now.connection) held_behind)
        (ap (λ (found : Option Call). option_map_or (same_call call) found false) at ∙ (same_call_decides call call).1 refl) held_on

  pushed_so : (list pushed : List Sending) → PushedAs t inv apart new who step list pushed → list_all (is_placed calls held_behind) list ≡ true → list_all (is_placed calls held_behind) pushed ≡ true
  pushed_so list _ NoMore all = all
  pushed_so list _ (OneMade begun settings call x sends keeps under) all = and_from (is_placed calls held_behind (made scan_now call x)) (list_all (is_placed calls held_behind) list) (made_placed begun settings call sends x) all

  pub step_placed : list_all (is_placed calls held_before) (scan_by mine step.before.steps).sendings ≡ true → list_all (is_placed step.after.request.calls (held_in step.after.steps)) (scan_by mine step.after.steps).sendings ≡ true
  step_placed all =
      ap (λ (request : Request). list_all (is_placed request.calls (held_in step.after.steps)) (scan_by mine step.after.steps).sendings) (request_after t.setting m inv.script.talks who new.machine step)
      ∙ (ap (λ (held : List ℕ). list_all (is_placed calls held) (scan_by mine step.after.steps).sendings) (after_held t.setting m inv.script.talks who new.machine step)
      ∙ (ap (list_all (is_placed calls held_behind)) (after_sendings t.setting m inv.script.talks who new.machine step)
      ∙ pushed_so scan_now.sendings (fold (sent_on scan_now) scan_now.sendings one.done.act.send) (pushed_as t inv apart new who step) (heard_so all)))

-- ALL REQUESTS ------------------------------------------------------------------------------------

by_step : (t : Traced) (inv : Orderly t) (apart : are_apart t ≡ true) (new : Traced) → Moving t.setting (at_event t.machine) new.machine → all_placed t ≡ true → list_all are_placed (courses_of_clients t.setting 1 new.machine.clients) ≡ true
by_step t inv apart new (Quietly same stays) all = subst (λ (clients : List _). list_all are_placed (courses_of_clients t.setting 1 clients) ≡ true) (sym same) all
by_step t inv apart new (Stepping who step) all =
    let here : are_placed (course_now t.setting who (length step.client.past) step.before) ≡ true = before_so t inv who new.machine step are_placed all (λ request. refl) in
    all_step t.setting are_placed are_placed (record { client = who; place = length step.client.past }) (λ course differs so. so) (at_event t.machine) who new.machine step refl
    (λ keep. step_placed t inv apart new who step here) (λ over. step_placed t inv apart new who step here) all

pub placed_law : IsKeptOfAll all_placed
placed_law = record {
  at_start = λ document. resting_none (setting_of document) 1 are_placed document.clients;
  at_event = λ before after old new event note items left one inv.
      let by : Followed old.setting old.machine event note items left new.machine = follow_happens old.setting old.machine event note items left new.machine one.follows in
      subst (λ (setting : Setting). list_all are_placed (courses_of_clients setting 1 new.machine.clients) ≡ true) (sym one.setting)
      (by_step old inv.orderly inv.once.apart new (moving old.setting (at_event old.machine) items left by.kind new.machine by.happens) inv.once.placed);
}
