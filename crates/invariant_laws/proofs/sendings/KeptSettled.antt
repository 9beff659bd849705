-- Of Once: of the sendings with a commit of one transaction of a request all but the last are
-- settled, at the start and behind each event.
use Rattle.std.proofs.Common.{◌≡◌, refl, sym, ap, subst, ◌∙◌, Bool, true, false, ℕ, ◌<◌, ◌&&◌, ◌||◌, cond, filter, fold, length, List, [], ◌∷◌, ◌++◌, map, Option, Some, None, if◌then◌else◌, arith}
use Rattle.std.specs.Prelude.{◌==◌, not, nat_le, is_none, is_some, option_and_then, slice_get}
use Rattle.std.specs.List.{list_all, list_any, last_or}
use Rattle.std.specs.Option.{option_map_or}
use Rattle.std.proofs.lemmas.Bool.{and_parts, and_from, or_left, or_right, not-true}
use Rattle.std.proofs.lemmas.List.{length-map}
use Rattle.commit_log.specs.Keeping.{EachKeeps}
use Rattle.svc_values.specs.declared.answer.Answer.{Answer}
use Rattle.svc_values.specs.declared.call.Call.{Call}
use Rattle.svc_values.specs.declared.entry.Ltxid.{Ltxid}
use Rattle.svc_values.specs.declared.frame.Up.TheVariants as up
use Rattle.svc_values.specs.declared.value.Value.{Value}
use Rattle.svc_values.specs.meaning.Calls.{has_commit}
use Rattle.svc_values.specs.meaning.Endings.{ends_committed, ends_transaction}
use Rattle.svc_values.specs.meaning.Same.{same_call}
use Rattle.outage_schedule.specs.declared.item.Served.{Served}
use Rattle.outage_schedule.specs.declared.request.ShownCall.{ShownCall}
use Rattle.run_clauses.specs.meaning.Reports.{failure_of, failed_in, shown_call}
use Rattle.run_clauses.specs.meaning.Tried.{holds}
use Rattle.server_model.specs.Laws.{EntryNumbers}
use Rattle.client_model.specs.declared.act.Hold.TheVariants as hold
use Rattle.client_model.specs.Conversation.{is_gone_next}
use Rattle.client_model.specs.meaning.States.{Living}
use Rattle.client_model.specs.meaning.Terms.{Running}
use Rattle.world_model.specs.records.Basic.{sessions_differ}
use Rattle.world_model.specs.meaning.Clients.{Step, Doing}
use Rattle.world_model.specs.meaning.Frames.{Owner}
use Rattle.world_model.specs.records.Hold.{are_by_held}
use Rattle.invariant_laws.specs.Invariant.{Invariant}
use Rattle.invariant_laws.specs.KeptLaws.{IsKeptOfAll}
use Rattle.world_model.specs.meaning.Links.{Link}
use Rattle.invariant_laws.specs.Lost.{are_lost, fail_incomplete, fails_incomplete, is_failed_by, is_pending, is_wanted, lost_links, lost_rightly, outcome_on, without_last}
use Rattle.world_model.specs.meaning.Machines.{Machine}
use Rattle.world_model.specs.meaning.Matching.{Noted}
use Rattle.invariant_laws.specs.Once.{all_but_last, all_known, all_placed, all_sendings, are_known, are_placed, earlier_settled, is_known, is_open_or_committed, is_placed, is_settled, later_settled, notes_sendings, shows_at, tells_completed, transaction_at}
use Rattle.world_model.specs.Parts.{Scan, Sending, commit_sendings, sendings_of, sent_on}
use Rattle.world_model.specs.Reached.{traced_start}
use Rattle.world_model.specs.Sames.{same_owner}
use Rattle.world_model.specs.meaning.Settings.{Setting, setting_of}
use Rattle.world_model.specs.Traced.{Traced, Course, course_now, courses_of}
use Rattle.world_model.specs.Wanted.{Wanted, wanted_in}
use Rattle.world_model.specs.Words.{dones_of, held_in}
use Rattle.world_model.proofs.Offered.{filter_all, weaker_all, HasStepped, happens_step, Followed, follow_happens, at_event, doing_course, basic_is_kept, by_held_law, resting_none, Happens, opening, scan_by, heard_scan, after_sendings, account_now, first_step, first_doing, first_talks_on, same_owner_is, eq_from, not_both, or_second, implied_by}
use Rattle.invariant_laws.proofs.sendings.ApartSteps.{PushedAs, NoMore, OneMade, answered_as, commits, made_calls, none_waits, pushed_as}
use Rattle.invariant_laws.proofs.losses.AskedSendings.{each_flat}
use Rattle.invariant_laws.proofs.rows.EndedCalls.{committed_ends, ended_before, shown_same, shows_weaker}
use Rattle.invariant_laws.proofs.sendings.FateSteps.{IsFated, called_fold, fated, fated_from}
use Rattle.invariant_laws.proofs.sendings.FateTaken.{scan_owned}
use Rattle.invariant_laws.proofs.sendings.KeptApart.{answered_old}
use Rattle.invariant_laws.proofs.losses.KeptFailed.{failed_law}
use Rattle.invariant_laws.proofs.sendings.KeptFates.{fates_law}
use Rattle.invariant_laws.proofs.sendings.KeptKnown.{blocked_stay, known_law}
use Rattle.invariant_laws.proofs.losses.KeptLost.{lost_law}
use Rattle.invariant_laws.proofs.entries.KeptNoted.{ShownAs, NoneShown, OneShown, shown_as, after_is, runs, stepped, there}
use Rattle.invariant_laws.proofs.sendings.KeptPlaced.{place_now, placed_law, spoke}
use Rattle.invariant_laws.proofs.sendings.KnownLists.{IsNext, Known, IsAnswered, IsLast, IsBlocked, IsCommitted, known_from}
use Rattle.invariant_laws.proofs.losses.LostBlocked.{Ended, Pends, Blocks, Completes, Fails, lost_ends, not_last}
use Rattle.invariant_laws.proofs.losses.LostKept.{both_all, course_before, course_kept, KeepsLost, lost_kept}
use Rattle.invariant_laws.proofs.losses.LostLists.{has_last_held}
use Rattle.invariant_laws.proofs.losses.LostSteps.{before_so, over_lets}
use Rattle.invariant_laws.proofs.rows.RowSteps.{shown_after}
use Rattle.invariant_laws.proofs.sendings.SendingsMade.{Speaks, made}
use Rattle.invariant_laws.proofs.sendings.SendingsTaken.{taken_among, scan_among}
use Rattle.invariant_laws.proofs.sendings.SettledLists.{all_but_answered, all_but_further, all_but_more, is_later, later_all}
use Rattle.invariant_laws.proofs.talks.TalkRuns.{is_idle, running_unfailed}

-- what holds of all but the first
pub without_first : (test : Sending → Bool) (first : Sending) (list : List Sending) → list_all test (filter commits (first ∷ list)) ≡ true → list_all test (filter commits list) ≡ true
without_first test first list all = by (has_commit first.call) all
  where
    by : (here : Bool) → list_all test (cond here (first ∷ filter commits list) (filter commits list)) ≡ true → list_all test (filter commits list) ≡ true
    by false all = all
    by true all = (and_parts (test first) (list_all test (filter commits list)) all).1

module _ (t : Traced) (whole : Invariant t) (new : Traced) (setting : new.setting ≡ t.setting) (items left : List Served) (kind : Noted) (happens : Happens t.setting (at_event t.machine) items left kind new.machine)
    (by_held : are_by_held new ≡ true) (blocks : (x : Ltxid) → holds t.blocked x ≡ true → holds new.blocked x ≡ true) (differ : sessions_differ new ≡ true)
    (fates : list_all (fated new.machine.links) (all_sendings new) ≡ true) (lost : are_lost new ≡ true) (failed : fail_incomplete new ≡ true) (placed : all_placed new ≡ true) (known : all_known new ≡ true) where
  abbrev m : Machine
  m = at_event t.machine

  abbrev settled_test : List Link → Course → Bool
  settled_test links course = all_but_last new course.report.calls (commit_sendings course)

  module _ (who : ℕ) (step : HasStepped t.setting m who new.machine) where
    abbrev mine : Owner
    mine = record { client = who; place = length step.client.past }

    abbrev before : Course
    before = course_before t whole.orderly new setting items left kind happens who step

    abbrev kept : Course
    kept = course_kept t whole.orderly new setting items left kind happens who step

    abbrev one : Step
    one = first_step t.setting m whole.orderly.script.talks who new.machine step

    abbrev first : Doing
    first = first_doing t.setting m whole.orderly.script.talks who new.machine step

    abbrev sendings : List Sending
    sendings = (scan_by mine step.before.steps).sendings

    abbrev scan_now : Scan
    scan_now = heard_scan t.setting m whole.orderly.script.talks who new.machine step

    abbrev calls : List ShownCall
    calls = map shown_call (account_now t.setting.terms step.before).shown

    abbrev shown : List ShownCall
    shown = map shown_call (account_now t.setting.terms first).shown

    -- BEHIND AN INPUT -----------------------------------------------------------------------------

    within : list_all (λ (s : Sending). nat_le s.at (length calls)) (filter commits sendings) ≡ true
    within =
        let notes : notes_sendings before ≡ true = before_so t whole.orderly who new.machine step notes_sendings whole.once.noted (λ request. refl) in
        let count : (scan_by mine step.before.steps).shown ≡ length calls = eq_from (scan_by mine step.before.steps).shown (length calls) (and_parts ((scan_by mine step.before.steps).shown == length calls) _ notes).0 in
        filter_all (λ (s : Sending). nat_le s.at (length calls)) commits sendings
        (weaker_all (taken_among (length calls)) (λ (s : Sending). nat_le s.at (length calls)) sendings (λ s here. (and_parts (nat_le s.at (length calls)) _ here).0)
        (subst (λ (n : ℕ). list_all (taken_among n) sendings ≡ true) count (scan_among (scan_by mine []) step.before.steps refl)))

    heard_settled : all_but_last new calls (filter commits sendings) ≡ true → all_but_last new shown (filter commits scan_now.sendings) ≡ true
    heard_settled all = all_but_answered new shown sendings scan_now.sendings (answered_as t whole.orderly whole.once.apart new who step) (by shown (shown_as t whole.orderly new by_held who step))
      where
        by : (list : List ShownCall) → ShownAs calls one.done.act.shown list → all_but_last new list (filter commits sendings) ≡ true
        by _ (NoneShown none) = all
        by _ (OneShown one_shown is) = all_but_further new calls (shown_call one_shown ∷ []) (filter commits sendings) within ∙ all

    -- A CALL IS SENT ------------------------------------------------------------------------------

    module _ (begun : Bool) (settings : List (List ℕ × Value)) (call : Call) (x : Ltxid) (sends : one.done.act.send ≡ opening begun settings ++ up.Call false [] call ∷ []) (keeps : one.done.act.hold ≡ hold.Keep) (under : scan_now.held ≡ Some x) where
      spoken : Speaks t whole.orderly who new.machine step
      spoken = spoke t whole.orderly whole.once.apart new who step begun settings call sends

      as_first : step.after ≡ first
      as_first = after_is t whole.orderly new by_held who step begun settings call sends keeps

      running : (state : Living) × (first.talk.phase ≡ Running state)
      running = runs t whole.orderly new by_held who step begun settings call sends keeps

      count : scan_now.shown ≡ length shown
      count = place_now t whole.orderly whole.once.apart new who step begun settings call sends ∙ sym (length-map (account_now t.setting.terms first).shown shown_call)

      -- what holds of each request holds of it
      kept_so : (test : Course → Bool) → list_all test (courses_of new) ≡ true → test kept ≡ true
      kept_so test all =
          subst (λ (one_setting : Setting). test (course_now one_setting who (length step.client.past) step.after) ≡ true) setting
          (doing_course test new who (stepped t whole.orderly new by_held who step begun settings call sends keeps) step.after all (there t whole.orderly new by_held who step begun settings call sends keeps) refl)

      sendings_are : sendings_of kept ≡ made scan_now call x ∷ scan_now.sendings
      sendings_are =
          after_sendings t.setting m whole.orderly.script.talks who new.machine step
          ∙ (ap (fold (sent_on scan_now) scan_now.sendings) sends
          ∙ (called_fold scan_now begun settings call scan_now.sendings ∙ ap (λ (held : Option Ltxid). option_map_or (λ y. made scan_now call y ∷ scan_now.sendings) held scan_now.sendings) under))

      shown_is : kept.report.calls ≡ shown
      shown_is = ap (map shown_call) (shown_after t.setting m whole.orderly.script.talks who new.machine step)

      -- what is known of those before it
      of_those : (test : Sending → Bool) → list_all test (commit_sendings kept) ≡ true → list_all test (filter commits scan_now.sendings) ≡ true
      of_those test all = without_first test (made scan_now call x) scan_now.sendings (subst (λ (list : List Sending). list_all test (filter commits list) ≡ true) sendings_are all)

      -- which call this is of
      ended_never : (s : Sending) → shows_at ends_committed shown s.at ≡ true → (transaction_at shown s.at == transaction_at shown scan_now.shown) ≡ true → ⊥
      ended_never s here same =
          let less : transaction_at shown s.at < transaction_at shown (length shown) = ended_before shown s.at (shows_weaker ends_committed ends_transaction committed_ends shown s.at here) in
          let equal : transaction_at shown s.at ≡ transaction_at shown (length shown) = eq_from (transaction_at shown s.at) (transaction_at shown scan_now.shown) same ∙ ap (transaction_at shown) count in
          let never : ⊥ = omega (arith, less, equal) in
          never

      -- one that waits was lost, and is blocked
      waits_blocked : (s : Sending) → s.taken ≡ None → IsNext kept.report.calls kept.report.outcomes s → (is_some s.taken || fated t.machine.links s) ≡ true → fated new.machine.links s ≡ true → same_owner s.owner mine ≡ true
          → is_placed kept.request.calls (held_in kept.steps) s ≡ true → holds new.blocked s.ltxid ≡ true
      waits_blocked s untaken next old_so now_so own on =
          by (lost_ends new kept s at.link (same_owner_is s.owner mine own) (at.fate.waits untaken) (kept_so (λ course. list_all (is_failed_by course) course.report.outcomes) failed) (kept_so (lost_rightly new) lost) at.there among)
        where
          at : IsFated new.machine.links s
          at = fated_from new.machine.links s now_so

          place : s.at ≡ scan_now.shown
          place = next.place ∙ (ap length shown_is ∙ sym count)

          away : spoken.connection ≡ s.connection → ⊥
          away same =
              none_waits t whole.orderly whole.once.apart new who step (made_calls t whole.orderly whole.once.apart new who step begun settings call sends) s
              (or_second (is_some s.taken) (fated t.machine.links s) (ap is_some untaken) old_so) untaken (spoken.has ∙ ap Some same) place

          last : last_or None (held_in step.after.steps) ≡ Some spoken.connection
          last =
              ap (λ (doing : Doing). last_or None (held_in doing.steps)) as_first ∙ has_last_held first.steps spoken.connection ((first_talks_on t.setting m whole.orderly.script.talks who new.machine step).has ∙ spoken.has)

          links_are : lost_links kept ≡ without_last (held_in step.after.steps)
          links_are = ap (λ (has : Option ℕ). if is_some has then without_last (held_in step.after.steps) else held_in step.after.steps) (ap (λ (doing : Doing). doing.connection) as_first ∙ spoken.has)

          on_held : list_any (λ other. other == s.connection) (held_in step.after.steps) ≡ true
          on_held = (and_parts (option_map_or (same_call s.call) (slice_get kept.request.calls s.at) false) (list_any (λ other. other == s.connection) (held_in step.after.steps)) on).1

          among : list_any (λ other. other == s.connection) (lost_links kept) ≡ true
          among =
              ap (list_any (λ other. other == s.connection)) links_are
              ∙ not_last (held_in step.after.steps) s.connection spoken.connection last away on_held

          unfailed : kept.report.failed ≡ None
          unfailed =
              ap (λ (doing : Doing). option_and_then failure_of (failed_in (dones_of doing.steps))) as_first
              ∙ ap (option_and_then failure_of)
              (running_unfailed t.setting.terms (is_gone_next step.input one.done.act.hold) first (first_talks_on t.setting m whole.orderly.script.talks who new.machine step) (ap is_idle running.1))

          not_pending : is_pending kept at.link ≡ true → ⊥
          not_pending pending =
              let wants : wanted_in step.after.talk.phase ≡ None = ap wanted_in (ap (λ (doing : Doing). doing.talk.phase) as_first ∙ running.1) in
              let never : false ≡ true = sym (ap (λ (wanted : Option Wanted). option_map_or (is_wanted at.link) wanted false) wants) ∙ (and_parts (is_none (outcome_on kept at.link.held)) _ pending).1 in
              let none : ⊥ = cc in
              none

          by : Ended new kept at.link s.ltxid → holds new.blocked s.ltxid ≡ true
          by (Pends pending) = absurd (not_pending pending)
          by (Blocks blocked) = blocked
          by (Completes completed) = absurd (not_both (list_any (tells_completed s.ltxid) kept.report.outcomes) completed (not-true (list_any (tells_completed s.ltxid) kept.report.outcomes) next.untold))
          by (Fails incomplete) = absurd (let never : false ≡ true = sym (ap (fails_incomplete s.ltxid) unfailed) ∙ incomplete in let none : ⊥ = cc in none)

      -- each that is of its transaction is settled
      abbrev lies_so : Sending → Bool
      lies_so s = (is_some s.taken || fated t.machine.links s) && (fated new.machine.links s && (same_owner s.owner mine && is_placed kept.request.calls (held_in kept.steps) s))

      abbrev told_of : Sending → Bool
      told_of s = is_known new.blocked kept.report.calls kept.report.outcomes s && lies_so s

      one_settled : (s : Sending) → told_of s ≡ true → is_later new shown (transaction_at shown scan_now.shown) s ≡ true
      one_settled s here = implied_by (transaction_at shown s.at == transaction_at shown scan_now.shown) (is_settled new s) (λ same. by same (known_from new.blocked kept.report.calls kept.report.outcomes s parts.0))
        where
          parts : (is_known new.blocked kept.report.calls kept.report.outcomes s ≡ true) × (lies_so s ≡ true)
          parts = and_parts (is_known new.blocked kept.report.calls kept.report.outcomes s) (lies_so s) here

          shut : (answers : List Answer) → s.taken ≡ Some answers → ends_committed answers ≡ false → is_settled new s ≡ true
          shut answers is other = or_left (not (is_open_or_committed s)) (holds new.blocked s.ltxid) (ap (λ (taken : Option (List Answer)). not (option_map_or ends_committed taken true)) is ∙ ap not other)

          held : holds new.blocked s.ltxid ≡ true → is_settled new s ≡ true
          held is = or_right (not (is_open_or_committed s)) (holds new.blocked s.ltxid) is

          by : (transaction_at shown s.at == transaction_at shown scan_now.shown) ≡ true → Known new.blocked kept.report.calls kept.report.outcomes s → is_settled new s ≡ true
          by same (IsAnswered answers is shows) = cases (ends_committed answers) refl
            where
              cases : (commits_so : Bool) → ends_committed answers ≡ commits_so → is_settled new s ≡ true
              cases false other = shut answers is other
              cases true ends = absurd (ended_never s (subst (λ (list : List ShownCall). shows_at ends_committed list s.at ≡ true) shown_is (shown_same answers ends_committed kept.report.calls s.at ends shows)) same)
          by same (IsLast none next) =
              let two = and_parts (is_some s.taken || fated t.machine.links s) _ parts.1 in
              let three = and_parts (fated new.machine.links s) _ two.1 in
              let four = and_parts (same_owner s.owner mine) (is_placed kept.request.calls (held_in kept.steps) s) three.1 in
              held (waits_blocked s none next two.0 three.0 four.0 four.1)
          by same (IsBlocked none blocked) = held blocked
          by same (IsCommitted none shows) = absurd (ended_never s (subst (λ (list : List ShownCall). shows_at ends_committed list s.at ≡ true) shown_is shows) same)

      old_fated : list_all (λ s. is_some s.taken || fated t.machine.links s) (filter commits scan_now.sendings) ≡ true
      old_fated =
          answered_old t whole.orderly whole.once.apart new differ who step sendings scan_now.sendings (answered_as t whole.orderly whole.once.apart new who step)
          (before_so t whole.orderly who new.machine step (λ course. list_all (fated t.machine.links) (commit_sendings course)) (each_flat (fated t.machine.links) commit_sendings (courses_of t) whole.once.fates) (λ request. refl))

      new_fated : list_all (fated new.machine.links) (filter commits scan_now.sendings) ≡ true
      new_fated = of_those (fated new.machine.links) (kept_so (λ course. list_all (fated new.machine.links) (commit_sendings course)) (each_flat (fated new.machine.links) commit_sendings (courses_of new) fates))

      all_known_so : list_all (is_known new.blocked kept.report.calls kept.report.outcomes) (filter commits scan_now.sendings) ≡ true
      all_known_so = of_those (is_known new.blocked kept.report.calls kept.report.outcomes) (kept_so (are_known new) known)

      all_placed_so : list_all (is_placed kept.request.calls (held_in kept.steps)) (filter commits scan_now.sendings) ≡ true
      all_placed_so =
          of_those (is_placed kept.request.calls (held_in kept.steps)) (filter_all (is_placed kept.request.calls (held_in kept.steps)) commits (sendings_of kept) (kept_so are_placed placed))

      all_owned : list_all (λ s. same_owner s.owner mine) (filter commits scan_now.sendings) ≡ true
      all_owned = of_those (λ s. same_owner s.owner mine) (filter_all (λ s. same_owner s.owner mine) commits (sendings_of kept) (scan_owned mine (scan_by mine []) step.after.steps refl refl))

      pub those_settled : later_settled new shown (transaction_at shown scan_now.shown) (filter commits scan_now.sendings) ≡ true
      those_settled =
          later_all new shown (transaction_at shown scan_now.shown) (filter commits scan_now.sendings)
          ∙ weaker_all told_of (is_later new shown (transaction_at shown scan_now.shown)) (filter commits scan_now.sendings) one_settled
          (both_all (is_known new.blocked kept.report.calls kept.report.outcomes) lies_so (filter commits scan_now.sendings) all_known_so
          (both_all (λ s. is_some s.taken || fated t.machine.links s) (λ s. fated new.machine.links s && (same_owner s.owner mine && is_placed kept.request.calls (held_in kept.steps) s)) (filter commits scan_now.sendings) old_fated
          (both_all (fated new.machine.links) (λ s. same_owner s.owner mine && is_placed kept.request.calls (held_in kept.steps) s) (filter commits scan_now.sendings) new_fated
          (both_all (λ s. same_owner s.owner mine) (is_placed kept.request.calls (held_in kept.steps)) (filter commits scan_now.sendings) all_owned all_placed_so))))

    -- THE STEP ------------------------------------------------------------------------------------

    abbrev Settles : Type 0
    Settles =
        (begun : Bool) (settings : List (List ℕ × Value)) (call : Call) (x : Ltxid) → one.done.act.send ≡ opening begun settings ++ up.Call false [] call ∷ [] → one.done.act.hold ≡ hold.Keep → scan_now.held ≡ Some x
        → later_settled new shown (transaction_at shown scan_now.shown) (filter commits scan_now.sendings) ≡ true

    pushed_settled : Settles → (pushed : List Sending) → PushedAs t whole.orderly whole.once.apart new who step scan_now.sendings pushed → all_but_last new shown (filter commits scan_now.sendings) ≡ true → all_but_last new shown (filter commits pushed) ≡ true
    pushed_settled settles _ NoMore all = all
    pushed_settled settles _ (OneMade begun settings call x sends keeps under) all = by (has_commit call)
      where
        by : (test : Bool) → all_but_last new shown (cond test (made scan_now call x ∷ filter commits scan_now.sendings) (filter commits scan_now.sendings)) ≡ true
        by false = all
        by true =
            and_from (later_settled new shown (transaction_at shown scan_now.shown) (filter commits scan_now.sendings)) (all_but_last new shown (filter commits scan_now.sendings)) (settles begun settings call x sends keeps under) all

    step_settled : Settles → all_but_last new before.report.calls (commit_sendings before) ≡ true → all_but_last new (map shown_call (account_now t.setting.terms step.after).shown) (filter commits (scan_by mine step.after.steps).sendings) ≡ true
    step_settled settles all =
        ap (λ (list : List ShownCall). all_but_last new list (filter commits (scan_by mine step.after.steps).sendings)) (ap (map shown_call) (shown_after t.setting m whole.orderly.script.talks who new.machine step))
        ∙ (ap (λ (list : List Sending). all_but_last new shown (filter commits list)) (after_sendings t.setting m whole.orderly.script.talks who new.machine step)
        ∙ pushed_settled settles (fold (sent_on scan_now) scan_now.sendings one.done.act.send) (pushed_as t whole.orderly whole.once.apart new who step) (heard_settled all))

  keeps_settled : KeepsLost t whole.orderly new setting items left kind happens settled_test
  keeps_settled = record {
    others = λ course gone here. here;
    begins = λ who place request. refl;
    goes = λ who step keep gone here. step_settled who step (those_settled who step) here;
    ends = λ who step over gone here. step_settled who step (λ begun settings call x sends keeps under. absurd (over_lets t whole.orderly who new.machine step over keeps)) here;
  }

pub settled_law : EachKeeps → EntryNumbers → IsKeptOfAll earlier_settled
settled_law keeps numbers = record {
  at_start = λ document. resting_none (setting_of document) 1 (λ course. all_but_last (traced_start document) course.report.calls (commit_sendings course)) document.clients;
  at_event = λ before after old new event note items left one inv.
      let by : Followed old.setting old.machine event note items left new.machine = follow_happens old.setting old.machine event note items left new.machine one.follows in
      let by_held = by_held_law.at_event before after old new event note items left one inv.orderly in
      let blocks = blocked_stay old new one.more_blocked one.blocked in
      let differ = (basic_is_kept before after old new event note items left one inv.orderly).apart in
      let fates = fates_law.at_event before after old new event note items left one inv in
      let lost = (lost_law keeps numbers).at_event before after old new event note items left one inv in
      let failed = failed_law.at_event before after old new event note items left one inv in
      let placed = placed_law.at_event before after old new event note items left one inv in
      let known = known_law.at_event before after old new event note items left one inv in
      lost_kept old inv.orderly new one.setting items left by.kind by.happens (settled_test old inv new one.setting items left by.kind by.happens by_held blocks differ fates lost failed placed known)
      (keeps_settled old inv new one.setting items left by.kind by.happens by_held blocks differ fates lost failed placed known) inv.lost.gone
      (happens_step old.setting (at_event old.machine) items left by.kind new.machine by.happens)
      (weaker_all (λ course. all_but_last old course.report.calls (commit_sendings course)) (λ course. all_but_last new course.report.calls (commit_sendings course)) (courses_of old)
      (λ course here. all_but_more old new blocks course.report.calls (commit_sendings course) here) inv.once.settled);
}
