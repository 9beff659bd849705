-- Of Once: how a request that is over ended. At the start and behind each event.
use Rattle.std.proofs.Common.{◌≡◌, refl, sym, ap, subst, ◌∙◌, Bool, true, false, ℕ, ◌+◌, ◌&&◌, ◌||◌, cond, filter, fold, length, List, [], ◌∷◌, ◌++◌, map, Option, Some, None, if◌then◌else◌, length-append, arith}
use Rattle.std.specs.Prelude.{◌==◌, not, slice_get, is_none, is_some, find, option_and_then, option_map}
use Rattle.std.specs.List.{list_all, list_any, last_or}
use Rattle.std.specs.Option.{option_map_or}
use Rattle.std.proofs.lemmas.Bool.{and_parts, and_from, or_left, or_right}
use Rattle.std.proofs.lemmas.List.{length-map}
use Rattle.std.proofs.lemmas.List.Folds.{list_any-append}
use Rattle.svc_values.specs.declared.answer.Answer.{Answer}
use Rattle.svc_values.specs.declared.call.Call.{Call}
use Rattle.svc_values.specs.declared.entry.Entry.{Entry}
use Rattle.svc_values.specs.declared.entry.Ltxid.{Ltxid}
use Rattle.svc_values.specs.declared.frame.Down.{Down}
use Rattle.svc_values.specs.declared.frame.Down.TheVariants as down
use Rattle.svc_values.specs.meaning.Calls.{has_commit}
use Rattle.svc_values.specs.meaning.Identifiers.{same_ltxid}
use Rattle.svc_values.specs.meaning.Same.{same_bool, same_call}
use Rattle.svc_values.specs.SameLaws.{same_ltxid_decides}
use Rattle.outage_schedule.specs.declared.document.Request.{Request}
use Rattle.outage_schedule.specs.declared.failure.Failure.{Failure}
use Rattle.outage_schedule.specs.declared.failure.Failure.TheVariants as failure
use Rattle.outage_schedule.specs.declared.item.Served.{Served}
use Rattle.outage_schedule.specs.declared.request.ShownCall.{ShownCall}
use Rattle.run_clauses.specs.meaning.Outcomes.{completed_of}
use Rattle.run_clauses.specs.meaning.Reports.{failure_of, shown_call}
use Rattle.client_model.specs.declared.act.Failed.{Failed}
use Rattle.client_model.specs.declared.act.Failed.TheVariants as failed
use Rattle.client_model.specs.declared.act.Hold.TheVariants as hold
use Rattle.client_model.specs.declared.act.Shown.{Shown}
use Rattle.client_model.specs.declared.input.Input.{Input}
use Rattle.client_model.specs.declared.input.Input.TheVariants.{Start, Waiting, Lent, Opened, TryFailed, Took, Gone}
use Rattle.client_model.specs.meaning.Account.{Account}
use Rattle.client_model.specs.meaning.Talk.{takes, talk_step}
use Rattle.client_model.specs.meaning.Terms.{Phase, Idle, Unbegun, Queued, Seeking, Greeting, Asked, Running, Replaying}
use Rattle.client_model.proofs.Offered.{Fits}
use Rattle.world_model.specs.meaning.Clients.{Step, Doing}
use Rattle.world_model.specs.meaning.Frames.{Owner}
use Rattle.world_model.specs.records.Hold.{are_by_held}
use Rattle.invariant_laws.specs.Invariant.{Invariant}
use Rattle.invariant_laws.specs.KeptLaws.{IsKeptOfAll}
use Rattle.world_model.specs.meaning.Links.{Link, link_at}
use Rattle.invariant_laws.specs.Lost.{lost_all, lost_links, without_last}
use Rattle.world_model.specs.meaning.Machines.{Machine}
use Rattle.world_model.specs.meaning.Matching.{Noted}
use Rattle.invariant_laws.specs.Once.{all_end, are_placed, ends_rightly, ends_so, is_left_lost, is_open_at, is_placed, notes_sendings}
use Rattle.world_model.specs.Parts.{Scan, Sending, answered, commit_sendings, has_entry, implies, sent_on}
use Rattle.world_model.specs.Reached.{traced_start}
use Rattle.world_model.specs.meaning.Settings.{setting_of}
use Rattle.world_model.specs.Traced.{Traced, Course, courses_of}
use Rattle.world_model.specs.Words.{brought, held_in}
use Rattle.world_model.proofs.Offered.{filter_all, weaker_all, HasStepped, happens_step, is_frame, get_behind, Followed, follow_happens, at_event, basic_is_kept, by_held_law, resting_none, any_goes, Happens, scan_by, heard_scan, after_sendings, account_now, first_step, first_doing, before_talks, request_after, eq_from, or_second, some_same}
use Rattle.invariant_laws.proofs.sendings.ApartSteps.{PushedAs, NoMore, OneMade, answered_as, commits, pushed_as}
use Rattle.invariant_laws.proofs.losses.AskedAnswers.{never_ahead, told_now}
use Rattle.invariant_laws.proofs.losses.AskedSendings.{each_flat, sent_one}
use Rattle.invariant_laws.proofs.rows.CallLeft.{call_left}
use Rattle.invariant_laws.proofs.sendings.CommittedSendings.{filter_any, is_unanswered}
use Rattle.invariant_laws.proofs.sendings.FateSteps.{IsFated, Taking, fated, fated_from}
use Rattle.invariant_laws.proofs.sendings.FateTaken.{shown_ending, waits_at}
use Rattle.invariant_laws.proofs.sendings.Fates.{Fate}
use Rattle.invariant_laws.proofs.sendings.KeptApart.{answered_old}
use Rattle.invariant_laws.proofs.losses.KeptFailed.{idle_wants}
use Rattle.invariant_laws.proofs.entries.KeptNoted.{ShownAs, NoneShown, OneShown, shown_as}
use Rattle.invariant_laws.proofs.sendings.KeptPlaced.{step_placed}
use Rattle.invariant_laws.proofs.losses.KeptTold.{talk_is}
use Rattle.invariant_laws.proofs.sendings.KnownSteps.{taking_at}
use Rattle.invariant_laws.proofs.losses.LostBlocked.{not_last}
use Rattle.invariant_laws.proofs.losses.LostKept.{both_all, course_before, course_ended, KeepsLost, lost_kept}
use Rattle.invariant_laws.proofs.losses.LostSteps.{act_on, before_so, has_one, held_none, last_is, lent_keeps, over_failed, over_first, over_lets, same_held, tried_has, wanted}
use Rattle.invariant_laws.proofs.rows.RowSteps.{before_fits}
use Rattle.invariant_laws.proofs.losses.OutcomesTold.{input_fits}
use Rattle.invariant_laws.proofs.talks.TalkEnds.{ToldSo, has_left, incomplete_told, never_bad, none_left, some_left}
use Rattle.world_model.specs.records.Basic.{sessions_differ}

-- ENTRIES -----------------------------------------------------------------------------------------

-- one that is told completed, or not, is there
pub completed_there : (entries : List Entry) (x : Ltxid) (completed : Bool) → option_map_or (same_bool completed) (completed_of entries x) false ≡ true → has_entry entries x ≡ true
completed_there [] x completed here = absurd (let none : ⊥ = cc in none)
completed_there (entry ∷ entries) x completed here = by (same_ltxid entry.ltxid x) refl here (completed_there entries x completed)
  where
    by : (same : Bool) → same_ltxid entry.ltxid x ≡ same → option_map_or (same_bool completed) (option_map (λ (one : Entry). one.completed) (cond same (Some entry) (find (λ one. same_ltxid one.ltxid x) entries))) false ≡ true
        → (option_map_or (same_bool completed) (completed_of entries x) false ≡ true → has_entry entries x ≡ true) → has_entry (entry ∷ entries) x ≡ true
    by true is here again = or_left (same_ltxid x entry.ltxid) (has_entry entries x) ((same_ltxid_decides x entry.ltxid).1 (sym ((same_ltxid_decides entry.ltxid x).0 is)))
    by false is here again = or_right (same_ltxid x entry.ltxid) (has_entry entries x) (again here)

pub more_entries : (entries more : List Entry) (x : Ltxid) → has_entry entries x ≡ true → has_entry (entries ++ more) x ≡ true
more_entries entries more x here = list_any-append (λ entry. same_ltxid x entry.ltxid) entries more ∙ or_left (has_entry entries x) (has_entry more x) here

-- what stands of how a request ended where more entries are
ends_more : (entries more : List Entry) (course : Course) → ends_rightly entries course ≡ true → ends_rightly (entries ++ more) course ≡ true
ends_more entries more course here = by course.is_over here
  where
    so : (fault : Option Failure) → ends_so entries course fault ≡ true → ends_so (entries ++ more) course fault ≡ true
    so None here = here
    so (Some (failure.Incomplete x)) here =
        let parts = and_parts (has_entry entries x) (list_any (is_open_at x (length course.report.calls)) (commit_sendings course)) here in
        and_from (has_entry (entries ++ more) x) (list_any (is_open_at x (length course.report.calls)) (commit_sendings course)) (more_entries entries more x parts.0) parts.1
    so (Some other) here = here

    by : (over : Bool) → implies over (ends_so entries course course.report.failed && list_all (is_left_lost (length course.report.calls) (lost_links course)) (commit_sendings course)) ≡ true
        → implies over (ends_so (entries ++ more) course course.report.failed && list_all (is_left_lost (length course.report.calls) (lost_links course)) (commit_sendings course)) ≡ true
    by false here = refl
    by true here =
        let parts = and_parts (ends_so entries course course.report.failed) (list_all (is_left_lost (length course.report.calls) (lost_links course)) (commit_sendings course)) here in
        and_from (ends_so (entries ++ more) course course.report.failed) (list_all (is_left_lost (length course.report.calls) (lost_links course)) (commit_sendings course)) (so course.report.failed parts.0) parts.1

-- EVENTS ------------------------------------------------------------------------------------------

module _ (t : Traced) (whole : Invariant t) (new : Traced) (setting : new.setting ≡ t.setting) (items left : List Served) (kind : Noted) (happens : Happens t.setting (at_event t.machine) items left kind new.machine)
    (by_held : are_by_held new ≡ true) (differ : sessions_differ new ≡ true) (more : List Entry) (entries : new.entries ≡ t.entries ++ more) where
  abbrev m : Machine
  m = at_event t.machine

  abbrev end_test : List Link → Course → Bool
  end_test links course = ends_rightly new.entries course

  module _ (who : ℕ) (step : HasStepped t.setting m who new.machine) (over : step.held ≡ hold.Keep → ⊥) where
    abbrev mine : Owner
    mine = record { client = who; place = length step.client.past }

    abbrev before : Course
    before = course_before t whole.orderly new setting items left kind happens who step

    abbrev ended : Course
    ended = course_ended t whole.orderly new setting items left kind happens who step

    abbrev one : Step
    one = first_step t.setting m whole.orderly.script.talks who new.machine step

    abbrev first : Doing
    first = first_doing t.setting m whole.orderly.script.talks who new.machine step

    abbrev sendings : List Sending
    sendings = (scan_by mine step.before.steps).sendings

    abbrev scan_now : Scan
    scan_now = heard_scan t.setting m whole.orderly.script.talks who new.machine step

    abbrev account_before : Account
    account_before = account_now t.setting.terms step.before

    abbrev calls : List ShownCall
    calls = map shown_call account_before.shown

    abbrev shown : List ShownCall
    shown = map shown_call (account_now t.setting.terms first).shown

    lets : one.done.act.hold ≡ hold.Keep → ⊥
    lets = over_lets t whole.orderly who new.machine step over

    calls_are : ended.report.calls ≡ shown
    calls_are = ap (λ (doing : Doing). map shown_call (account_now t.setting.terms doing).shown) (over_first t whole.orderly who new.machine step over)

    failed_is : ended.report.failed ≡ option_and_then failure_of one.done.act.failed
    failed_is = ap (option_and_then failure_of) (over_failed t whole.orderly who new.machine step over)

    -- no call is sent
    sendings_are : (scan_by mine step.after.steps).sendings ≡ scan_now.sendings
    sendings_are = after_sendings t.setting m whole.orderly.script.talks who new.machine step ∙ by (fold (sent_on scan_now) scan_now.sendings one.done.act.send) (pushed_as t whole.orderly whole.once.apart new who step)
      where
        by : (pushed : List Sending) → PushedAs t whole.orderly whole.once.apart new who step scan_now.sendings pushed → pushed ≡ scan_now.sendings
        by _ NoMore = refl
        by _ (OneMade begun settings call x sends keeps under) = absurd (lets keeps)

    -- so many calls were shown
    length_is : length shown ≡ length calls + cond (is_some one.done.act.shown) 1 0
    length_is = by shown (shown_as t whole.orderly new by_held who step)
      where
        by : (list : List ShownCall) → ShownAs calls one.done.act.shown list → length list ≡ length calls + cond (is_some one.done.act.shown) 1 0
        by _ (NoneShown none) =
            let zero_more : ◌≡◌ {A = ℕ} (cond (is_some one.done.act.shown) 1 0) 0 = ap (λ (s : Option Shown). cond (is_some s) 1 0) none in omega (arith, zero_more)
        by _ (OneShown one_shown is) =
            let one_more : ◌≡◌ {A = ℕ} (cond (is_some one.done.act.shown) 1 0) 1 = ap (λ (s : Option Shown). cond (is_some s) 1 0) is in
            let long : length (calls ++ shown_call one_shown ∷ []) ≡ length calls + 1 = length-append calls (shown_call one_shown ∷ []) in
            omega (arith, one_more, long)

    -- WITHOUT AN ERROR ----------------------------------------------------------------------------

    -- what is left of its script is what was left of it before, but for the call that was shown
    left_is : slice_get ended.request.calls (length ended.report.calls) ≡ slice_get step.before.talk.left (cond (is_some one.done.act.shown) 1 0)
    left_is =
        let busy = idle_wants t.setting.terms step.before.talk step.before.talk.phase m.tick step.input (wanted t whole.orderly who new.machine step) in
        let talk = talk_is t.setting.terms step.before (before_talks t.setting m whole.orderly.script.talks who new.machine step) busy in
        let count : length ended.report.calls ≡ length account_before.shown + cond (is_some one.done.act.shown) 1 0 =
        ap length calls_are ∙ (length_is ∙ ap (λ (n : ℕ). n + cond (is_some one.done.act.shown) 1 0) (length-map account_before.shown shown_call)) in
        ap (λ (all : List Call). slice_get all (length ended.report.calls)) (ap (λ (request : Request). request.calls) (request_after t.setting m whole.orderly.script.talks who new.machine step))
        ∙ (ap (slice_get step.before.request.calls) count
        ∙ (sym (get_behind (length account_before.shown) step.before.request.calls (cond (is_some one.done.act.shown) 1 0)) ∙ ap (λ (all : List Call). slice_get all (cond (is_some one.done.act.shown) 1 0)) (sym talk.left_are)))

    script_done : one.done.act.failed ≡ None → is_none (slice_get ended.request.calls (length ended.report.calls)) ≡ true
    script_done plain = ap is_none left_is ∙ none_left t.setting.terms step.before.talk (call_left t whole.orderly who new.machine step) step.input m.tick lets plain

    -- WITH AN ERROR -------------------------------------------------------------------------------

    call_behind : (fault : Failed) → one.done.act.failed ≡ Some fault → is_some (slice_get ended.request.calls (length ended.report.calls)) ≡ true
    call_behind fault is = ap is_some left_is ∙ some_left t.setting.terms step.before.talk (call_left t whole.orderly who new.machine step) step.input m.tick fault is

    -- WITH INCOMPLETE -----------------------------------------------------------------------------

    sent_under : (x : Ltxid) → one.done.act.failed ≡ Some (failed.Incomplete x) → (has_entry new.entries x && list_any (is_open_at x (length ended.report.calls)) (commit_sendings ended)) ≡ true
    sent_under x is =
        and_from (has_entry new.entries x) (list_any (is_open_at x (length ended.report.calls)) (commit_sendings ended))
        (subst (λ (y : Ltxid). has_entry new.entries y ≡ true) told.names
        (ap (λ (all : List Entry). has_entry all told.asking.ltxid) entries
        ∙ more_entries t.entries more told.asking.ltxid
        (completed_there t.entries told.asking.ltxid false (told_now t whole.orderly whole.shown.answers who new.machine step told.asking true false told.alive told.heard told.phase))))
        (ap (λ (list : List Sending). list_any (is_open_at x (length ended.report.calls)) (filter commits list)) (sendings_are ∙ quiet)
        ∙ filter_any (is_open_at x (length ended.report.calls)) commits sendings
        (any_goes (is_unanswered told.asking.ltxid (length calls)) (λ s. is_open_at x (length ended.report.calls) s && commits s) goes sendings (sent_one t whole who new.machine step told.asking false told.alive told.heard told.phase)))
      where
        told : ToldSo step.before.talk step.input x
        told = incomplete_told t.setting.terms step.before.talk step.input m.tick x is

        quiet : scan_now.sendings ≡ sendings
        quiet = ap (λ (input : Input). answered input one.done.act.shown sendings) told.heard

        none_shown : one.done.act.shown ≡ None
        none_shown =
            ap (λ (input : Input). (talk_step t.setting.terms step.before.talk input m.tick).1.shown) told.heard
            ∙ ap (λ (p : Phase). (takes t.setting.terms step.before.talk p (down.OutcomeIs true false) told.alive m.tick).1.shown) told.phase

        count : length ended.report.calls ≡ length calls
        count =
            let zero_more : ◌≡◌ {A = ℕ} (cond (is_some one.done.act.shown) 1 0) 0 = ap (λ (s : Option Shown). cond (is_some s) 1 0) none_shown in
            let long : length shown ≡ length calls + cond (is_some one.done.act.shown) 1 0 = length_is in
            let equal : length shown ≡ length calls = omega (arith, zero_more, long) in
            ap length calls_are ∙ equal

        goes : (s : Sending) → is_unanswered told.asking.ltxid (length calls) s ≡ true → (is_open_at x (length ended.report.calls) s && commits s) ≡ true
        goes s here =
            let one_so = and_parts (same_ltxid s.ltxid told.asking.ltxid) ((s.at == length calls) && (has_commit s.call && is_none s.taken)) here in
            let two = and_parts (s.at == length calls) (has_commit s.call && is_none s.taken) one_so.1 in
            let three = and_parts (has_commit s.call) (is_none s.taken) two.1 in
            and_from (is_open_at x (length ended.report.calls) s) (commits s)
            (and_from (same_ltxid s.ltxid x) ((s.at == length ended.report.calls) && is_none s.taken) (ap (same_ltxid s.ltxid) (sym told.names) ∙ one_so.0)
            (and_from (s.at == length ended.report.calls) (is_none s.taken) (ap (λ (n : ℕ). s.at == n) count ∙ two.0) three.1)) three.0

    -- a call is left where one is awaited
    some_awaited : has_left step.before.talk step.before.talk.phase ≡ true
    some_awaited = by (before_fits t.setting m whole.orderly.script.talks who new.machine step).gone step.before.talk.phase refl (before_fits t.setting m whole.orderly.script.talks who new.machine step).fits
      where
        by : (gone : Bool) (p : Phase) → step.before.talk.phase ≡ p → Fits t.setting.terms step.before.request.calls account_before gone p → has_left step.before.talk p ≡ true
        by gone (Running state) is fits = call_left t whole.orderly who new.machine step
        by gone (Asked asking) is fits = call_left t whole.orderly who new.machine step
        by gone (Replaying state) is fits = ap is_some fits.2.is
        by gone Idle is fits = refl
        by gone Unbegun is fits = refl
        by gone (Queued from) is fits = refl
        by gone (Seeking lost) is fits = refl
        by gone (Greeting lost) is fits = refl

    ended_so : ends_so new.entries ended ended.report.failed ≡ true
    ended_so = subst (λ (fault : Option Failure). ends_so new.entries ended fault ≡ true) (sym failed_is) (by one.done.act.failed refl)
      where
        by : (fault : Option Failed) → one.done.act.failed ≡ fault → ends_so new.entries ended (option_and_then failure_of fault) ≡ true
        by None is = script_done is
        by (Some (failed.Incomplete x)) is = sent_under x is
        by (Some (failed.Disabled reason event)) is = call_behind (failed.Disabled reason event) is
        by (Some (failed.Replays limit event)) is = call_behind (failed.Replays limit event) is
        by (Some (failed.Retries tries)) is = call_behind (failed.Retries tries) is
        by (Some (failed.PoolWait since until)) is = call_behind (failed.PoolWait since until) is
        by (Some (failed.Mismatch call seen now)) is = call_behind (failed.Mismatch call seen now) is
        by (Some (failed.ReplayTimeout since ready)) is = call_behind (failed.ReplayTimeout since ready) is
        by (Some (failed.Unknown x)) is = call_behind (failed.Unknown x) is
        by (Some (failed.BadPeer tag)) is = absurd (never_bad t.setting.terms step.before.talk m.tick step.input tag (input_fits t whole.orderly who new.machine step) (never_ahead t whole.orderly whole.shown.answers who new.machine step) some_awaited is)

    -- WHERE A CALL IS OPEN ------------------------------------------------------------------------

    -- it is among those that were lost, but for the one where a frame was taken
    lost_among : (s : Sending) → list_any (λ other. other == s.connection) (held_in step.after.steps) ≡ true → (s.taken ≡ None → s.at ≡ length shown → fated t.machine.links s ≡ true) → s.taken ≡ None → s.at ≡ length shown
        → list_any (λ other. other == s.connection) (lost_links ended) ≡ true
    lost_among s on old_so untaken place = by step.input refl
      where
        kept : (input : Input) → step.input ≡ input → (act_on t whole.orderly who new.machine step input).hold ≡ hold.Keep → list_any (λ other. other == s.connection) (lost_links ended) ≡ true
        kept input is keep = absurd (lets (ap (λ (i : Input). (act_on t whole.orderly who new.machine step i).hold) is ∙ keep))

        -- a frame was taken on another one
        elsewhere : (number : ℕ) → step.before.connection ≡ Some number → (frame : Down) (alive : Bool) → step.input ≡ Took frame alive → number ≡ s.connection → ⊥
        elsewhere number has frame alive is same =
            let taking : Taking t whole.orderly whole.once.apart new who step = taking_at t whole new setting items left kind happens by_held who step frame alive is in
            let both : Some taking.connection ≡ Some number = sym taking.has ∙ has in
            let number_is : taking.connection ≡ number = cc in
            let at : IsFated t.machine.links s = fated_from t.machine.links s (old_so untaken place) in
            let link_is : at.link ≡ taking.link =
            some_same (link_at t.machine.links taking.connection) at.link taking.link (subst (λ (k : ℕ). link_at t.machine.links k ≡ Some at.link) (sym (number_is ∙ same)) at.there) taking.there in
            let fate : Fate s taking.link = subst (Fate s) link_is at.fate in
            let shows : is_some one.done.act.shown ≡ true = shown_ending t whole.orderly whole.once.apart new who step taking lets s untaken fate in
            let low : s.at ≡ (scan_by mine step.before.steps).shown = waits_at t whole.orderly whole.once.apart new who step taking s untaken fate in
            let notes : notes_sendings before ≡ true = before_so t whole.orderly who new.machine step notes_sendings whole.once.noted (λ request. refl) in
            let count : (scan_by mine step.before.steps).shown ≡ length calls = eq_from (scan_by mine step.before.steps).shown (length calls) (and_parts ((scan_by mine step.before.steps).shown == length calls) _ notes).0 in
            let one_more : ◌≡◌ {A = ℕ} (cond (is_some one.done.act.shown) 1 0) 1 = ap (λ (b : Bool). cond b 1 0) shows in
            let long : length shown ≡ length calls + cond (is_some one.done.act.shown) 1 0 = length_is in
            let never : ⊥ = omega (arith, place, low, count, one_more, long) in
            never

        taken : (found : Option ℕ) → step.before.connection ≡ found → (frame : Down) (alive : Bool) → step.input ≡ Took frame alive → list_any (λ other. other == s.connection) (lost_links ended) ≡ true
        taken None none frame alive is = absurd (let never : false ≡ true = sym (ap is_some none) ∙ has_one t whole.orderly who new.machine step (ap is_frame is) in let nothing : ⊥ = cc in nothing)
        taken (Some number) has frame alive is = cases (not (lost_all ended.report.failed))
          where
            last : last_or None (held_in step.after.steps) ≡ Some number
            last = ap (last_or None) (same_held t whole.orderly who new.machine step (ap brought is)) ∙ last_is t whole.orderly who new.machine step number has

            cases : (still : Bool) → list_any (λ other. other == s.connection) (if still then without_last (held_in step.after.steps) else held_in step.after.steps) ≡ true
            cases true = not_last (held_in step.after.steps) s.connection number last (elsewhere number has frame alive is) on
            cases false = on

        by : (input : Input) → step.input ≡ input → list_any (λ other. other == s.connection) (lost_links ended) ≡ true
        by Start is = kept Start is refl
        by Waiting is =
            let none : held_in step.after.steps ≡ [] = same_held t whole.orderly who new.machine step (ap brought is) ∙ held_none t whole.orderly who new.machine step is in
            absurd (let never : false ≡ true = sym (ap (list_any (λ other. other == s.connection)) none) ∙ on in let nothing : ⊥ = cc in nothing)
        by (Lent connection x) is = absurd (lets (lent_keeps t whole.orderly who new.machine step connection x is))
        by (Opened connection) is = kept (Opened connection) is refl
        by TryFailed is = ap (λ (has : Bool). list_any (λ other. other == s.connection) (if has then without_last (held_in step.after.steps) else held_in step.after.steps)) (tried_has t whole.orderly who new.machine step is over) ∙ on
        by (Gone event) is = kept (Gone event) is refl
        by (Took frame alive) is = taken step.before.connection refl frame alive is

    left_lost : (s : Sending) → ((is_some s.taken || fated t.machine.links s) && is_placed ended.request.calls (held_in ended.steps) s) ≡ true → is_left_lost (length ended.report.calls) (lost_links ended) s ≡ true
    left_lost s here = by s.taken refl (s.at == length ended.report.calls) refl
      where
        parts : ((is_some s.taken || fated t.machine.links s) ≡ true) × (is_placed ended.request.calls (held_in ended.steps) s ≡ true)
        parts = and_parts (is_some s.taken || fated t.machine.links s) (is_placed ended.request.calls (held_in ended.steps) s) here

        on : list_any (λ other. other == s.connection) (held_in step.after.steps) ≡ true
        on = (and_parts (option_map_or (same_call s.call) (slice_get ended.request.calls s.at) false) (list_any (λ other. other == s.connection) (held_in step.after.steps)) parts.1).1

        by : (taken : Option (List Answer)) → s.taken ≡ taken → (place : Bool) → (s.at == length ended.report.calls) ≡ place → (is_some taken || (not place || list_any (λ number. number == s.connection) (lost_links ended))) ≡ true
        by (Some answers) is place at = refl
        by None is false at = refl
        by None is true at =
            lost_among s on (λ none place. or_second (is_some s.taken) (fated t.machine.links s) (ap is_some none) parts.0) is (eq_from s.at (length ended.report.calls) at ∙ ap length calls_are)

    all_left : list_all (is_left_lost (length ended.report.calls) (lost_links ended)) (commit_sendings ended) ≡ true
    all_left =
        weaker_all (λ s. (is_some s.taken || fated t.machine.links s) && is_placed ended.request.calls (held_in ended.steps) s) (is_left_lost (length ended.report.calls) (lost_links ended)) (commit_sendings ended) left_lost
        (both_all (λ s. is_some s.taken || fated t.machine.links s) (is_placed ended.request.calls (held_in ended.steps)) (commit_sendings ended)
        (ap (λ (list : List Sending). list_all (λ s. is_some s.taken || fated t.machine.links s) (filter commits list)) sendings_are
        ∙ answered_old t whole.orderly whole.once.apart new differ who step sendings scan_now.sendings (answered_as t whole.orderly whole.once.apart new who step)
        (before_so t whole.orderly who new.machine step (λ course. list_all (fated t.machine.links) (commit_sendings course)) (each_flat (fated t.machine.links) commit_sendings (courses_of t) whole.once.fates) (λ request. refl)))
        (filter_all (is_placed ended.request.calls (held_in ended.steps)) commits (scan_by mine step.after.steps).sendings
        (step_placed t whole.orderly whole.once.apart new who step (before_so t whole.orderly who new.machine step are_placed whole.once.placed (λ request. refl)))))

    pub step_ends : ends_rightly new.entries ended ≡ true
    step_ends = and_from (ends_so new.entries ended ended.report.failed) (list_all (is_left_lost (length ended.report.calls) (lost_links ended)) (commit_sendings ended)) ended_so all_left

  keeps_ended : KeepsLost t whole.orderly new setting items left kind happens end_test
  keeps_ended = record {
    others = λ course gone here. here;
    begins = λ who place request. refl;
    goes = λ who step keep gone here. refl;
    ends = λ who step over gone here. step_ends who step over;
  }

pub ended_law : IsKeptOfAll all_end
ended_law = record {
  at_start = λ document. resting_none (setting_of document) 1 (ends_rightly (traced_start document).entries) document.clients;
  at_event = λ before after old new event note items left one inv.
      let by : Followed old.setting old.machine event note items left new.machine = follow_happens old.setting old.machine event note items left new.machine one.follows in
      let by_held = by_held_law.at_event before after old new event note items left one inv.orderly in
      let differ = (basic_is_kept before after old new event note items left one inv.orderly).apart in
      lost_kept old inv.orderly new one.setting items left by.kind by.happens (end_test old inv new one.setting items left by.kind by.happens by_held differ one.more_entries one.entries)
      (keeps_ended old inv new one.setting items left by.kind by.happens by_held differ one.more_entries one.entries) inv.lost.gone
      (happens_step old.setting (at_event old.machine) items left by.kind new.machine by.happens)
      (weaker_all (ends_rightly old.entries) (ends_rightly new.entries) (courses_of old) (λ course here. subst (λ (all : List Entry). ends_rightly all course ≡ true) (sym one.entries) (ends_more old.entries one.more_entries course here)) inv.once.ended);
}
