-- Of Once: one that was answered is of a call that was shown with these answers. One that was not
-- is of the next call, or its identifier is blocked, or its call was shown as committed. At the
-- start and behind each event.
use Rattle.std.proofs.Common.{◌≡◌, refl, sym, ap, subst, ◌∙◌, Bool, true, false, ℕ, ◌&&◌, ◌||◌, cond, filter, fold, length, List, [], ◌∷◌, ◌++◌, map, Option, Some, None}
use Rattle.std.specs.Prelude.{not, is_none}
use Rattle.std.specs.List.{list_all, list_any, last_or}
use Rattle.std.specs.Option.{option_map_or}
use Rattle.std.proofs.lemmas.Bool.{and_parts, and_from, or_left, not-true}
use Rattle.std.proofs.lemmas.List.{length-map}
use Rattle.svc_values.specs.declared.call.Call.{Call}
use Rattle.svc_values.specs.declared.entry.Ltxid.{Ltxid}
use Rattle.svc_values.specs.declared.frame.Up.TheVariants as up
use Rattle.svc_values.specs.declared.value.Value.{Value}
use Rattle.svc_values.specs.meaning.Calls.{has_commit}
use Rattle.svc_values.specs.meaning.Identifiers.{same_ltxid}
use Rattle.outage_schedule.specs.declared.item.Served.{Served}
use Rattle.outage_schedule.specs.declared.request.Outcome.{Outcome}
use Rattle.outage_schedule.specs.declared.request.ShownCall.{ShownCall}
use Rattle.run_clauses.specs.meaning.Reports.{shown_call}
use Rattle.run_clauses.specs.meaning.Tried.{holds}
use Rattle.client_model.specs.declared.act.Hold.TheVariants as hold
use Rattle.world_model.specs.meaning.Clients.{Step, Doing}
use Rattle.world_model.specs.meaning.Frames.{Owner}
use Rattle.world_model.specs.records.Hold.{are_by_held}
use Rattle.invariant_laws.specs.Invariant.{Invariant}
use Rattle.invariant_laws.specs.KeptLaws.{IsKeptOfAll}
use Rattle.world_model.specs.meaning.Links.{Link, link_at}
use Rattle.invariant_laws.specs.Lost.{go_unasked, goes_unasked, outcome_on}
use Rattle.world_model.specs.meaning.Machines.{Machine}
use Rattle.world_model.specs.meaning.Matching.{Noted}
use Rattle.invariant_laws.specs.Once.{all_but_last, all_known, are_known, are_placed, is_known, tells_completed}
use Rattle.world_model.specs.Parts.{Scan, Sending, commit_sendings, sent_on}
use Rattle.world_model.specs.meaning.Settings.{Setting, setting_of}
use Rattle.world_model.specs.Traced.{Traced, Course, course_now, courses_of}
use Rattle.world_model.specs.Reached.{traced_start}
use Rattle.world_model.proofs.Offered.{weaker_all, HasStepped, happens_step, Followed, follow_happens, at_event, doing_course, by_held_law, resting_none, Happens, opening, scan_by, heard_scan, after_sendings, account_now, first_step, first_doing}
use Rattle.invariant_laws.proofs.sendings.ApartSteps.{PushedAs, NoMore, OneMade, commits, pushed_as}
use Rattle.invariant_laws.proofs.sendings.CompletedSendings.{none_passes}
use Rattle.invariant_laws.proofs.entries.KeptNoted.{after_is, stepped, there}
use Rattle.invariant_laws.proofs.sendings.KeptPlaced.{place_now, spoke}
use Rattle.invariant_laws.proofs.losses.KeptUnasked.{unasked_law}
use Rattle.invariant_laws.proofs.sendings.KnownLists.{IsLast, known_to, known_blocks}
use Rattle.invariant_laws.proofs.sendings.KnownSteps.{heard_known}
use Rattle.invariant_laws.proofs.losses.LostKept.{course_before, course_kept, KeepsLost, lost_kept}
use Rattle.invariant_laws.proofs.losses.LostSteps.{before_so, over_lets}
use Rattle.invariant_laws.proofs.losses.OutcomesTold.{told_more, outcomes_are}
use Rattle.invariant_laws.proofs.rows.RowSteps.{shown_after}
use Rattle.invariant_laws.proofs.sendings.SendingsMade.{Speaks, made}
use Rattle.invariant_laws.proofs.sendings.SettledLists.{all_but_more}
use Rattle.invariant_laws.proofs.entries.TriedApart.{holds_append}

-- where none passes the one, none passes both
none_both : {A : Type 0} (test more : A → Bool) (xs : List A) → list_all (λ x. not (test x)) xs ≡ true → list_any (λ x. test x && more x) xs ≡ false
none_both test more [] none = refl
none_both test more (x ∷ xs) none =
    let parts = and_parts (not (test x)) (list_all (λ y. not (test y)) xs) none in
    ap (λ (here : Bool). (here && more x) || list_any (λ y. test y && more y) xs) (not-true (test x) parts.0) ∙ none_both test more xs parts.1

-- identifiers that were blocked are
pub blocked_stay : (old new : Traced) (more : List Ltxid) → new.blocked ≡ old.blocked ++ more → (x : Ltxid) → holds old.blocked x ≡ true → holds new.blocked x ≡ true
blocked_stay old new more same x here = ap (λ (ids : List Ltxid). holds ids x) same ∙ (holds_append old.blocked more x ∙ or_left (holds old.blocked x) (holds more x) here)

module _ (t : Traced) (whole : Invariant t) (new : Traced) (setting : new.setting ≡ t.setting) (items left : List Served) (kind : Noted) (happens : Happens t.setting (at_event t.machine) items left kind new.machine)
    (by_held : are_by_held new ≡ true) (unasked : go_unasked new ≡ true) (blocks : (x : Ltxid) → holds t.blocked x ≡ true → holds new.blocked x ≡ true) where
  abbrev m : Machine
  m = at_event t.machine

  abbrev known_test : List Link → Course → Bool
  known_test links course = are_known new course

  module _ (who : ℕ) (step : HasStepped t.setting m who new.machine) where
    abbrev mine : Owner
    mine = record { client = who; place = length step.client.past }

    abbrev before : Course
    before = course_before t whole.orderly new setting items left kind happens who step

    abbrev one : Step
    one = first_step t.setting m whole.orderly.script.talks who new.machine step

    abbrev first : Doing
    first = first_doing t.setting m whole.orderly.script.talks who new.machine step

    abbrev scan_now : Scan
    scan_now = heard_scan t.setting m whole.orderly.script.talks who new.machine step

    abbrev outcomes : List Outcome
    outcomes = before.report.outcomes ++ told_more step.input step.before.talk.phase

    abbrev shown : List ShownCall
    shown = map shown_call (account_now t.setting.terms first).shown

    abbrev known_so : List Sending → Bool
    known_so list = list_all (is_known new.blocked shown outcomes) (filter commits list)

    pub settled_before : all_but_last new before.report.calls (commit_sendings before) ≡ true
    settled_before =
        all_but_more t new blocks before.report.calls (commit_sendings before)
        (before_so t whole.orderly who new.machine step (λ course. all_but_last t course.report.calls (commit_sendings course)) whole.once.settled (λ request. refl))

    heard_so : are_known new before ≡ true → known_so scan_now.sendings ≡ true
    heard_so known =
        heard_known t whole new setting items left kind happens by_held who step
        (before_so t whole.orderly who new.machine step are_placed whole.once.placed (λ request. refl)) settled_before known

    -- the sending that is made is of the next call
    made_known : (begun : Bool) (settings : List (List ℕ × Value)) (call : Call) (x : Ltxid) → one.done.act.send ≡ opening begun settings ++ up.Call false [] call ∷ [] → not (list_any (tells_completed x) outcomes) ≡ true
        → is_known new.blocked shown outcomes (made scan_now call x) ≡ true
    made_known begun settings call x sends untold =
        known_to new.blocked shown outcomes (made scan_now call x)
        (IsLast refl (record { place = place_now t whole.orderly whole.once.apart new who step begun settings call sends ∙ sym (length-map (account_now t.setting.terms first).shown shown_call); untold = untold }))

    pushed_so : ((begun : Bool) (settings : List (List ℕ × Value)) (call : Call) (x : Ltxid) → one.done.act.send ≡ opening begun settings ++ up.Call false [] call ∷ [] → one.done.act.hold ≡ hold.Keep → scan_now.held ≡ Some x → not (list_any (tells_completed x) outcomes) ≡ true)
        → (list pushed : List Sending) → PushedAs t whole.orderly whole.once.apart new who step list pushed → known_so list ≡ true → known_so pushed ≡ true
    pushed_so untold list _ NoMore known = known
    pushed_so untold list _ (OneMade begun settings call x sends keeps under) known = by (has_commit call)
      where
        by : (test : Bool) → list_all (is_known new.blocked shown outcomes) (cond test (made scan_now call x ∷ filter commits list) (filter commits list)) ≡ true
        by false = known
        by true = and_from (is_known new.blocked shown outcomes (made scan_now call x)) (list_all (is_known new.blocked shown outcomes) (filter commits list)) (made_known begun settings call x sends (untold begun settings call x sends keeps under)) known

    step_known : ((begun : Bool) (settings : List (List ℕ × Value)) (call : Call) (x : Ltxid) → one.done.act.send ≡ opening begun settings ++ up.Call false [] call ∷ [] → one.done.act.hold ≡ hold.Keep → scan_now.held ≡ Some x → not (list_any (tells_completed x) outcomes) ≡ true)
        → are_known new before ≡ true
        → list_all (is_known new.blocked (map shown_call (account_now t.setting.terms step.after).shown) (course_kept t whole.orderly new setting items left kind happens who step).report.outcomes) (filter commits (scan_by mine step.after.steps).sendings) ≡ true
    step_known untold known =
        ap (λ (calls : List ShownCall). list_all (is_known new.blocked calls (course_kept t whole.orderly new setting items left kind happens who step).report.outcomes) (filter commits (scan_by mine step.after.steps).sendings)) (ap (map shown_call) (shown_after t.setting m whole.orderly.script.talks who new.machine step))
        ∙ (ap (λ (all : List Outcome). list_all (is_known new.blocked shown all) (filter commits (scan_by mine step.after.steps).sendings)) (outcomes_are t whole.orderly who new.machine step)
        ∙ (ap known_so (after_sendings t.setting m whole.orderly.script.talks who new.machine step)
        ∙ pushed_so untold scan_now.sendings (fold (sent_on scan_now) scan_now.sendings one.done.act.send) (pushed_as t whole.orderly whole.once.apart new who step) (heard_so known)))

    -- no outcome was taken of what the request goes by
    none_told : (begun : Bool) (settings : List (List ℕ × Value)) (call : Call) (x : Ltxid) → one.done.act.send ≡ opening begun settings ++ up.Call false [] call ∷ [] → one.done.act.hold ≡ hold.Keep → scan_now.held ≡ Some x → not (list_any (tells_completed x) outcomes) ≡ true
    none_told begun settings call x sends keeps under =
        ap not (none_both (λ (o : Outcome). same_ltxid o.ltxid x) (λ o. o.committed && o.completed) outcomes (none_passes (λ (o : Outcome). same_ltxid o.ltxid x) outcomes
        (subst (λ (all : List Outcome). is_none (last_or None (filter (λ (o : Outcome). same_ltxid o.ltxid x) all)) ≡ true) (outcomes_are t whole.orderly who new.machine step) unasked_one)))
      where
        spoken : Speaks t whole.orderly who new.machine step
        spoken = spoke t whole.orderly whole.once.apart new who step begun settings call sends

        kept : Setting → Course
        kept one_setting = course_now one_setting who (length step.client.past) step.after

        goes : goes_unasked new (kept t.setting) ≡ true
        goes =
            subst (λ (one_setting : Setting). goes_unasked new (kept one_setting) ≡ true) setting
            (doing_course (goes_unasked new) new who (stepped t whole.orderly new by_held who step begun settings call sends keeps) step.after unasked (there t whole.orderly new by_held who step begun settings call sends keeps) refl)

        on : option_map_or (λ number. option_map_or (λ link. is_none (outcome_on (kept t.setting) link.held)) (link_at new.machine.links number) false) (Some spoken.connection) true ≡ true
        on =
            subst (λ (found : Option ℕ). option_map_or (λ number. option_map_or (λ link. is_none (outcome_on (kept t.setting) link.held)) (link_at new.machine.links number) false) found true ≡ true)
            (ap (λ (d : Doing). d.connection) (after_is t whole.orderly new by_held who step begun settings call sends keeps) ∙ spoken.has) goes

        unasked_one : is_none (outcome_on (kept t.setting) (Some x)) ≡ true
        unasked_one =
            subst (λ (held : Option Ltxid). is_none (outcome_on (kept t.setting) held) ≡ true) (spoken.held ∙ under)
            (subst (λ (found : Option Link). option_map_or (λ link. is_none (outcome_on (kept t.setting) link.held)) found false ≡ true) spoken.there on)

  keeps_known : KeepsLost t whole.orderly new setting items left kind happens known_test
  keeps_known = record {
    others = λ course gone here. here;
    begins = λ who place request. refl;
    goes = λ who step keep gone here. step_known who step (none_told who step) here;
    ends = λ who step over gone here. step_known who step (λ begun settings call x sends keeps under. absurd (over_lets t whole.orderly who new.machine step over keeps)) here;
  }

pub known_law : IsKeptOfAll all_known
known_law = record {
  at_start = λ document. resting_none (setting_of document) 1 (are_known (traced_start document)) document.clients;
  at_event = λ before after old new event note items left one inv.
      let by : Followed old.setting old.machine event note items left new.machine = follow_happens old.setting old.machine event note items left new.machine one.follows in
      let by_held = by_held_law.at_event before after old new event note items left one inv.orderly in
      let unasked = unasked_law.at_event before after old new event note items left one inv in
      let blocks = blocked_stay old new one.more_blocked one.blocked in
      lost_kept old inv.orderly new one.setting items left by.kind by.happens (known_test old inv new one.setting items left by.kind by.happens by_held unasked blocks)
      (keeps_known old inv new one.setting items left by.kind by.happens by_held unasked blocks) inv.lost.gone
      (happens_step old.setting (at_event old.machine) items left by.kind new.machine by.happens)
      (weaker_all (are_known old) (are_known new) (courses_of old)
      (λ course here. weaker_all (is_known old.blocked course.report.calls course.report.outcomes) (is_known new.blocked course.report.calls course.report.outcomes) (commit_sendings course)
      (λ s so. subst (λ (ids : List Ltxid). is_known ids course.report.calls course.report.outcomes s ≡ true) (sym one.blocked) (known_blocks old.blocked one.more_blocked course.report.calls course.report.outcomes s so)) here) inv.once.known);
}
