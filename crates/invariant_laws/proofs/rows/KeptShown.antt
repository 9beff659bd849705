-- Of Shown: each call that was shown is from an item, or from an outcome, at the start and behind
-- each event.
use Rattle.std.proofs.Common.{◌≡◌, refl, sym, ap, subst, ◌∙◌, Bool, true, false, ℕ, ◌+◌, ◌&&◌, ◌||◌, length, List, [], ◌∷◌, ◌++◌, map, Option, Some, None, arith}
use Rattle.std.specs.Prelude.{◌==◌, slice_get, option_map}
use Rattle.std.specs.List.{list_all, list_any, cons_option}
use Rattle.std.specs.Option.{option_or, option_map_or}
use Rattle.std.proofs.lemmas.Bool.{and_parts, and_from, or_right, or_left}
use Rattle.std.proofs.lemmas.List.{append-nil, map-append, length-map}
use Rattle.std.proofs.lemmas.List.Folds.{list_any-append}
use Rattle.svc_values.specs.declared.answer.Answer.TheVariants as answer
use Rattle.svc_values.specs.declared.call.Call.{Call}
use Rattle.svc_values.specs.declared.draw.Draw.{Draw}
use Rattle.svc_values.specs.declared.frame.Down.TheVariants as down
use Rattle.svc_values.specs.meaning.Calls.{is_lone_commit}
use Rattle.svc_values.specs.meaning.Same.{same_answers}
use Rattle.svc_values.specs.SameLaws.{same_answers_decide}
use Rattle.outage_schedule.specs.declared.document.Request.{Request}
use Rattle.outage_schedule.specs.declared.request.Outcome.{Outcome}
use Rattle.outage_schedule.specs.declared.request.ShownCall.{ShownCall}
use Rattle.client_model.specs.declared.act.Shown.{Shown}
use Rattle.client_model.specs.declared.input.Input.{Input}
use Rattle.client_model.specs.meaning.States.{Asking}
use Rattle.client_model.specs.meaning.Talk.{takes, talk_step}
use Rattle.client_model.specs.meaning.Terms.{Phase, Asked}
use Rattle.run_clauses.specs.meaning.Reports.{shown_call, told_outcome}
use Rattle.run_clauses.specs.meaning.Tried.{holds}
use Rattle.world_model.specs.meaning.Clients.{Doing, Client, Step, begun, past_of}
use Rattle.world_model.specs.meaning.Frames.{Owner, Handled}
use Rattle.invariant_laws.specs.Invariant.{Invariant}
use Rattle.world_model.specs.Orderly.{Orderly}
use Rattle.invariant_laws.specs.KeptLaws.{IsKeptOfAll}
use Rattle.world_model.specs.meaning.Links.{Link, link_at}
use Rattle.world_model.specs.meaning.Machines.{Machine}
use Rattle.invariant_laws.specs.Once.{tells_tried}
use Rattle.world_model.specs.Parts.{Sending, sendings_of}
use Rattle.world_model.specs.Reached.{traced_start}
use Rattle.world_model.specs.Sames.{owned_by}
use Rattle.world_model.specs.meaning.Settings.{Setting, setting_of}
use Rattle.invariant_laws.specs.Shown.{is_shown_item, link_shows, has_completed, is_from, all_from, are_from, shows_commit}
use Rattle.world_model.specs.Traced.{Traced, Course, course_now, course_over, courses_of_clients, courses_of}
use Rattle.world_model.specs.Words.{brought, held_in}
use Rattle.world_model.proofs.Offered.{weaker_all, HasStepped, MayStep, Still, Closed, Stepped, happens_step, all_step, Followed, follow_happens, at_event, doing_course, resting_none, known_of, Known, any_goes, after_held, scan_by, account_now, first_step, first_doing, request_after, same_owner_is, eq_from}
use Rattle.invariant_laws.proofs.sendings.CommittedSendings.{filter_any, any_filtered}
use Rattle.invariant_laws.proofs.sendings.CompletedSendings.{completed_new, completed_sent, completed_still, may_be, told_by}
use Rattle.invariant_laws.proofs.rows.GivenMore.{shows_by, all_more, all_push, all_weaker}
use Rattle.invariant_laws.proofs.rows.KeptRows.{course_rows, before_on, held_scripts, was_held}
use Rattle.invariant_laws.proofs.entries.KeptTried.{tried_law}
use Rattle.invariant_laws.proofs.losses.LoneCalls.{lone_now}
use Rattle.invariant_laws.proofs.losses.LostKept.{both_all}
use Rattle.invariant_laws.proofs.losses.OutcomesTold.{told_more, outcomes_are}
use Rattle.invariant_laws.proofs.rows.RowSteps.{ShownStep, NoneMore, OneMore, shown_step, shown_after}
use Rattle.invariant_laws.proofs.history.ServedGrows.{IsLonger, happens_longer}
use Rattle.invariant_laws.proofs.rows.ShownNow.{IsShownOn, Completed, ShownNow, FromItem, FromOutcome, shown_now}
use Rattle.invariant_laws.proofs.talks.TalkShows.{completed_gives}
use Rattle.invariant_laws.proofs.entries.TriedApart.{commits, is_under}
use Rattle.invariant_laws.proofs.entries.TriedSendings.{sent_of_tried, tried_of_sent}

-- LISTS -------------------------------------------------------------------------------------------

any_at : (test : ℕ → Bool) (numbers : List ℕ) (number : ℕ) → list_any (λ other. other == number) numbers ≡ true → test number ≡ true → list_any test numbers ≡ true
any_at test [] number is here = absurd (let none : ⊥ = cc in none)
any_at test (first ∷ numbers) number is here = by (first == number) refl is (λ later. any_at test numbers number later here)
  where
    by : (same : Bool) → (first == number) ≡ same → (same || list_any (λ other. other == number) numbers) ≡ true → (list_any (λ other. other == number) numbers ≡ true → list_any test numbers ≡ true) → list_any test (first ∷ numbers) ≡ true
    by true same is later = or_left (test first) (list_any test numbers) (subst (λ (k : ℕ). test k ≡ true) (sym (eq_from first number same)) here)
    by false same is later = or_right (test first) (list_any test numbers) (later is)

-- THE STEP ----------------------------------------------------------------------------------------

abbrev given_test : Traced → Course → Bool
given_test t course = all_from (completed_sent course) t course 0 course.report.calls

module _ (old new : Traced) (whole : Invariant old) (rows : list_all (course_rows old.machine.links) (courses_of old) ≡ true) (given : list_all (given_test old) (courses_of old) ≡ true)
    (longer : (number : ℕ) (link : Link) → link_at old.machine.links number ≡ Some link → IsLonger new.machine.links number link) where
  abbrev inv : Orderly old
  inv = whole.orderly

  abbrev m : Machine
  m = at_event old.machine

  others_given : (course : Course) → given_test old course ≡ true → given_test new course ≡ true
  others_given course = all_more old new longer course course refl [] (sym (append-nil (held_in course.steps))) (completed_sent course) (completed_sent course) (λ so. so) refl 0 course.report.calls

  known : (number : ℕ) (link : Link) → link_at old.machine.links number ≡ Some link → Known link
  known = known_of old inv

  module _ (number : ℕ) (n : Machine) (step : HasStepped old.setting m number n) where
    abbrev mine : Owner
    mine = record { client = number; place = length step.client.past }

    abbrev before_course : Course
    before_course = course_now old.setting number (length step.client.past) step.before

    abbrev shown_before : List Shown
    shown_before = (account_now old.setting.terms step.before).shown

    before_given : given_test old before_course ≡ true
    before_given = by step.client.now refl step.client.next step.does
      where
        by : (now : Option Doing) → step.client.now ≡ now → (next : Option Request) → option_or now (option_map (begun old.setting.terms m.event m.tick) next) ≡ Some step.before → given_test old before_course ≡ true
        by (Some one) is next does = let same : one ≡ step.before = cc in doing_course (given_test old) old number step.client step.before given step.here (is ∙ ap Some same)
        by None is (Some request) does =
            let same : begun old.setting.terms m.event m.tick request ≡ step.before = cc in
            subst (λ (d : Doing). given_test old (course_now old.setting number (length step.client.past) d) ≡ true) same refl
        by None is None does = absurd (let none : ⊥ = cc in none)

    module _ (d : Course) (owner : d.owner ≡ mine) (steps : d.steps ≡ step.after.steps) (calls : d.report.calls ≡ map shown_call (account_now old.setting.terms step.after).shown)
        (outcomes : d.report.outcomes ≡ map told_outcome (account_now old.setting.terms step.after).outcomes) (request : d.request ≡ step.after.request) where
      request_same : d.request.calls ≡ step.before.request.calls
      request_same = ap (λ (r : Request). r.calls) (request ∙ request_after old.setting m inv.script.talks number n step)

      held_are : held_in d.steps ≡ held_in step.before.steps ++ cons_option (brought step.input) []
      held_are = ap held_in steps ∙ after_held old.setting m inv.script.talks number n step

      sendings_same : sendings_of d ≡ (scan_by mine step.after.steps).sendings
      sendings_same = ap (λ (o : Owner). (scan_by o d.steps).sendings) owner ∙ ap (λ (all : List Step). (scan_by mine all).sendings) steps

      outcomes_more : d.report.outcomes ≡ before_course.report.outcomes ++ told_more step.input step.before.talk.phase
      outcomes_more = outcomes ∙ outcomes_are old inv number n step

      -- what was told before is told still
      completed_more : completed_sent before_course ≡ true → completed_sent d ≡ true
      completed_more here =
          ap (λ (list : List Sending). list_any (told_by list) d.report.outcomes) sendings_same
          ∙ (ap (list_any (told_by (scan_by mine step.after.steps).sendings)) outcomes_more
          ∙ (list_any-append (told_by (scan_by mine step.after.steps).sendings) before_course.report.outcomes (told_more step.input step.before.talk.phase)
          ∙ or_left (list_any (told_by (scan_by mine step.after.steps).sendings) before_course.report.outcomes) (list_any (told_by (scan_by mine step.after.steps).sendings) (told_more step.input step.before.talk.phase))
          (completed_still old whole number n step here)))

      so_far : all_from (completed_sent d) new d 0 before_course.report.calls ≡ true
      so_far =
          all_more old new longer before_course d owner (cons_option (brought step.input) []) held_are (completed_sent before_course) (completed_sent d) completed_more request_same 0 before_course.report.calls before_given

      from_item : (shown : Shown) (at : ℕ) → step.before.connection ≡ Some at → IsShownOn m.links mine step.before.request.calls (length shown_before) shown at → is_from (completed_sent d) new d (length shown_before) (slice_get d.request.calls (length shown_before)) (shown_call shown) ≡ true
      from_item shown at has found =
          let next = longer at found.link found.there in
          let here : shows_by mine new.machine.links (length shown_before) found.call (shown_call shown) at ≡ true =
          subst (λ (l : Option Link). option_map_or (λ link. list_any (λ (one : Handled). owned_by mine one.sent && ((one.sent.call == length shown_before) && is_shown_item found.call (shown_call shown) one.served.item)) link.served) l false ≡ true) (sym next.there)
          (next.all (λ (one : Handled). owned_by mine one.sent && ((one.sent.call == length shown_before) && is_shown_item found.call (shown_call shown) one.served.item)) found.among) in
          let held : list_any (λ other. other == at) (held_in d.steps) ≡ true =
          ap (λ (all : List ℕ). list_any (λ other. other == at) all) held_are
          ∙ (list_any-append (λ other. other == at) (held_in step.before.steps) (cons_option (brought step.input) [])
          ∙ or_left (list_any (λ other. other == at) (held_in step.before.steps)) (list_any (λ other. other == at) (cons_option (brought step.input) [])) (was_held old m number n step step.here inv.script.talks at has)) in
          subst (λ (c : Option Call). is_from (completed_sent d) new d (length shown_before) c (shown_call shown) ≡ true) (sym (ap (λ (all : List Call). slice_get all (length shown_before)) request_same ∙ found.script))
          (or_left (list_any (link_shows new d (length shown_before) found.call (shown_call shown)) (held_in d.steps)) (is_lone_commit found.call && (shows_commit (shown_call shown) && completed_sent d))
          (any_at (link_shows new d (length shown_before) found.call (shown_call shown)) (held_in d.steps) at held
          (subst (λ (o : Owner). shows_by o new.machine.links (length shown_before) found.call (shown_call shown) at ≡ true) (sym owner) here)))

      -- the outcome is among those that were taken
      completed_now : (shown : Shown) (asking : Asking) → step.before.talk.phase ≡ Asked asking → Completed old.setting m inv.script.talks number n step asking shown → completed_sent d ≡ true
      completed_now shown asking phase completed =
          let x : Outcome = record { ltxid = asking.ltxid; committed = true; completed = true } in
          let list : List Sending = (scan_by mine step.after.steps).sendings in
          ap (λ (all : List Sending). list_any (told_by all) d.report.outcomes) sendings_same
          ∙ (ap (list_any (told_by list)) (outcomes_more ∙ ap (λ (o : List Outcome). before_course.report.outcomes ++ o) completed.told)
          ∙ (list_any-append (told_by list) before_course.report.outcomes (x ∷ [])
          ∙ or_right (list_any (told_by list) before_course.report.outcomes) (list_any (told_by list) (x ∷ []))
          (or_left (told_by list x) false (completed_new old whole number n step asking completed.alive completed.input phase))))

      -- an outcome shows a commit without a value
      shown_plainly : (shown : Shown) (asking : Asking) → step.before.talk.phase ≡ Asked asking → (first_step old.setting m inv.script.talks number n step).done.act.shown ≡ Some shown → Completed old.setting m inv.script.talks number n step asking shown
          → shows_commit (shown_call shown) ≡ true
      shown_plainly shown asking phase is completed =
          let told : (takes old.setting.terms step.before.talk step.before.talk.phase (down.OutcomeIs true true) completed.alive m.tick).1.shown ≡ Some shown =
          subst (λ (i : Input). (talk_step old.setting.terms step.before.talk i m.tick).1.shown ≡ Some shown) completed.input is in
          let none : shown.draws ≡ [] =
          completed_gives old.setting.terms step.before.talk asking completed.alive m.tick shown (subst (λ (p : Phase). (takes old.setting.terms step.before.talk p (down.OutcomeIs true true) completed.alive m.tick).1.shown ≡ Some shown) phase told) in
          and_from (same_answers shown.answers (answer.Committed ∷ [])) (length shown.draws == 0) ((same_answers_decide shown.answers (answer.Committed ∷ [])).1 completed.commits) (ap (λ (draws : List Draw). length draws == 0) none)

      is_now : (shown : Shown) → (first_step old.setting m inv.script.talks number n step).done.act.shown ≡ Some shown → ShownNow old.setting m inv.script.talks number n step shown
          → is_from (completed_sent d) new d (length shown_before) (slice_get d.request.calls (length shown_before)) (shown_call shown) ≡ true
      is_now shown is (FromItem at has found) = from_item shown at has found
      is_now shown is (FromOutcome asking phase completed) =
          subst (λ (c : Option Call). is_from (completed_sent d) new d (length shown_before) c (shown_call shown) ≡ true) (sym (ap (λ (all : List Call). slice_get all (length shown_before)) request_same ∙ completed.script))
          (or_right (list_any (link_shows new d (length shown_before) completed.call (shown_call shown)) (held_in d.steps)) (is_lone_commit completed.call && (shows_commit (shown_call shown) && completed_sent d))
          (and_from (is_lone_commit completed.call) (shows_commit (shown_call shown) && completed_sent d)
          (lone_now old whole number n step asking completed.alive completed.input phase completed.call
          (ap (slice_get step.before.request.calls) (length-map shown_before shown_call) ∙ completed.script))
          (and_from (shows_commit (shown_call shown)) (completed_sent d) (shown_plainly shown asking phase is completed) (completed_now shown asking phase completed))))

      steps_given : given_test new d ≡ true
      steps_given = by (shown_step old.setting m inv.script.talks number n step)
        where
          by : ShownStep shown_before (account_now old.setting.terms (first_doing old.setting m inv.script.talks number n step)).shown (first_step old.setting m inv.script.talks number n step).done.act.shown → given_test new d ≡ true
          by (NoneMore same) =
              subst (λ (all : List ShownCall). all_from (completed_sent d) new d 0 all ≡ true) (sym (calls ∙ ap (λ (s : List Shown). map shown_call s) (shown_after old.setting m inv.script.talks number n step ∙ same))) so_far
          by (OneMore shown is more) =
              let long : length (map shown_call shown_before) ≡ length shown_before = length-map shown_before shown_call in
              let place : length shown_before ≡ 0 + length (map shown_call shown_before) = omega arith in
              subst (λ (all : List ShownCall). all_from (completed_sent d) new d 0 all ≡ true)
              (sym (calls ∙ (ap (λ (s : List Shown). map shown_call s) (shown_after old.setting m inv.script.talks number n step ∙ more) ∙ map-append shown_call shown_before (shown ∷ []))))
              (all_push (completed_sent d) new d 0 (length shown_before) before_course.report.calls (shown_call shown) place so_far
              (is_now shown is
              (shown_now old.setting m inv.script.talks number n step same_owner_is (λ at has. before_on old m number n step step.here inv.hold.held inv.wire.grammar at has) (λ at link there. known at link there)
              (held_scripts old m number n step step.here inv.script.talks rows) shown is)))

  may_give : MayStep old.setting m new.machine → list_all (given_test new) (courses_of_clients old.setting 1 new.machine.clients) ≡ true
  may_give (Still same sents) =
      subst (λ (c : List Client). list_all (given_test new) (courses_of_clients old.setting 1 c) ≡ true) (sym same) (weaker_all (given_test old) (given_test new) (courses_of old) others_given given)
  may_give (Closed same sents) =
      subst (λ (c : List Client). list_all (given_test new) (courses_of_clients old.setting 1 c) ≡ true) (sym same) (weaker_all (given_test old) (given_test new) (courses_of old) others_given given)
  may_give (Stepped number step) =
      all_step old.setting (given_test old) (given_test new) (record { client = number; place = length step.client.past }) (λ course differs. others_given course) m number new.machine step refl
      (λ keep. steps_given number new.machine step (course_now old.setting number (length step.client.past) step.after) refl refl refl refl refl)
      (λ over. steps_given number new.machine step (course_over number (length step.client.past) (past_of old.setting.terms step.after)) refl refl refl refl refl) given

-- WHAT IS TOLD AS TRIED
-- ----------------------------------------------------------------------------

-- of a request whose report tells what it tried: the sending of such an outcome, and its identifier
-- among those tried
tried_completed : (course : Course) → tells_tried course ≡ true → has_completed course ≡ true → completed_sent course ≡ true
tried_completed course tells here =
    any_goes (λ (o : Outcome). o.committed && (o.completed && list_any (λ ids. holds ids o.ltxid) course.report.tried)) (told_by (sendings_of course))
    (λ o so.
    let first = and_parts o.committed (o.completed && list_any (λ ids. holds ids o.ltxid) course.report.tried) so in
    let second = and_parts o.completed (list_any (λ ids. holds ids o.ltxid) course.report.tried) first.1 in
    and_from o.committed (o.completed && list_any (may_be o.ltxid) (sendings_of course)) first.0
    (and_from o.completed (list_any (may_be o.ltxid) (sendings_of course)) second.0 (any_filtered (is_under o.ltxid) commits (sendings_of course) (sent_of_tried course tells o.ltxid second.1)))) course.report.outcomes here

completed_tried : (course : Course) → tells_tried course ≡ true → completed_sent course ≡ true → has_completed course ≡ true
completed_tried course tells here =
    any_goes (told_by (sendings_of course)) (λ (o : Outcome). o.committed && (o.completed && list_any (λ ids. holds ids o.ltxid) course.report.tried))
    (λ o so.
    let first = and_parts o.committed (o.completed && list_any (may_be o.ltxid) (sendings_of course)) so in
    let second = and_parts o.completed (list_any (may_be o.ltxid) (sendings_of course)) first.1 in
    and_from o.committed (o.completed && list_any (λ ids. holds ids o.ltxid) course.report.tried) first.0
    (and_from o.completed (list_any (λ ids. holds ids o.ltxid) course.report.tried) second.0 (tried_of_sent course tells o.ltxid (filter_any (is_under o.ltxid) commits (sendings_of course) second.1)))) course.report.outcomes here

abbrev from_test : Traced → Course → Bool
from_test t course = all_from (has_completed course) t course 0 course.report.calls

pub from_law : IsKeptOfAll are_from
from_law = record {
  at_start = λ document. resting_none (setting_of document) 1 (from_test (traced_start document)) document.clients;
  at_event = λ before after old new event note items left one inv.
      let by : Followed old.setting old.machine event note items left new.machine = follow_happens old.setting old.machine event note items left new.machine one.follows in
      let given : list_all (given_test old) (courses_of old) ≡ true =
      weaker_all (λ course. tells_tried course && from_test old course) (given_test old) (courses_of old)
      (λ course both.
      let parts = and_parts (tells_tried course) (from_test old course) both in
      all_weaker (has_completed course) (completed_sent course) old course (tried_completed course parts.0) 0 course.report.calls parts.1) (both_all tells_tried (from_test old) (courses_of old) inv.once.tried inv.shown.shown) in
      let now : list_all (given_test new) (courses_of new) ≡ true =
      subst (λ (setting : Setting). list_all (given_test new) (courses_of_clients setting 1 new.machine.clients) ≡ true) (sym one.setting)
      (may_give old new inv inv.shown.rows given
      (happens_longer old.setting (at_event old.machine) items left by.kind new.machine by.happens) (happens_step old.setting (at_event old.machine) items left by.kind new.machine by.happens)) in
      weaker_all (λ course. tells_tried course && given_test new course) (from_test new) (courses_of new)
      (λ course both.
      let parts = and_parts (tells_tried course) (given_test new course) both in
      all_weaker (completed_sent course) (has_completed course) new course (completed_tried course parts.0) 0 course.report.calls parts.1)
      (both_all tells_tried (given_test new) (courses_of new) (tried_law.at_event before after old new event note items left one inv) now);
}
