-- The values of a call that was shown were given to this call, by an item without the mark.
use Rattle.std.proofs.Common.{◌≡◌, refl, sym, ap, subst, ◌∙◌, Bool, true, false, ℕ, suc, zero, ◌+◌, ◌&&◌, length, List, [], ◌∷◌, ◌++◌, map, Option, Some, None, arith, ◌||◌}
use Rattle.std.specs.Prelude.{◌==◌, slice_get, option_map}
use Rattle.std.specs.List.{list_all, list_any}
use Rattle.std.specs.Option.{option_or}
use Rattle.std.proofs.lemmas.Bool.{and_parts, and_from, or_left, or_right}
use Rattle.std.proofs.lemmas.List.{map-append, length-map}
use Rattle.svc_values.specs.declared.call.Call.{Call}
use Rattle.svc_values.specs.declared.draw.Draw.{Draw}
use Rattle.svc_values.specs.meaning.Same.{same_answers, same_call, same_draws}
use Rattle.outage_schedule.specs.declared.document.Document.{Document}
use Rattle.outage_schedule.specs.declared.document.Request.{Request}
use Rattle.outage_schedule.specs.declared.event.Event.{Event}
use Rattle.outage_schedule.specs.declared.item.Item.{Item}
use Rattle.outage_schedule.specs.declared.item.Item.TheVariants as item
use Rattle.outage_schedule.specs.declared.item.Served.{Served}
use Rattle.outage_schedule.specs.declared.note.Note.{Note}
use Rattle.outage_schedule.specs.declared.request.ShownCall.{ShownCall}
use Rattle.client_model.specs.declared.act.Shown.{Shown}
use Rattle.client_model.specs.declared.input.Input.{Input}
use Rattle.client_model.specs.meaning.Talk.{talk_step, takes}
use Rattle.client_model.specs.meaning.Terms.{Phase}
use Rattle.svc_values.specs.declared.frame.Down.TheVariants as down
use Rattle.run_clauses.specs.meaning.Reports.{shown_call}
use Rattle.server_model.specs.Seen.{Seen}
use Rattle.world_model.specs.meaning.Clients.{Doing, begun, past_of}
use Rattle.world_model.specs.meaning.Frames.{Owner, Handled}
use Rattle.world_model.specs.Orderly.{Orderly}
use Rattle.world_model.specs.meaning.Links.{Link, link_at}
use Rattle.world_model.specs.meaning.Machines.{Machine}
use Rattle.world_model.specs.OneEvent.{OneEvent}
use Rattle.world_model.specs.Reached.{traced_start}
use Rattle.world_model.specs.Sames.{owned_by}
use Rattle.world_model.specs.meaning.Settings.{setting_of}
use Rattle.invariant_laws.specs.Shown.{is_shown_item, in_rows}
use Rattle.world_model.specs.Traced.{Traced, Course, course_now, course_over, courses_of_clients, courses_of}
use Rattle.world_model.proofs.Offered.{weaker_all, HasStepped, MayStep, Still, Closed, Stepped, happens_step, all_step, any_found, Followed, follow_happens, at_event, doing_course, resting_none, known_of, any_goes, at_any, account_now, first_step, first_doing, same_owner_is}
use Rattle.invariant_laws.proofs.Offered.{course_rows, before_on, held_scripts, ShownStep, NoneMore, OneMore, shown_step, shown_after, IsLonger, happens_longer, ShownNow, FromItem, FromOutcome, shown_now, completed_gives}

-- ITEMS OF ALL CONNECTIONS ------------------------------------------------------------------------

abbrev pub gives_draws : List Draw → Item → Bool
gives_draws draws (item.Call false called answers given) = same_draws given draws
gives_draws draws _ = false

-- these values were given to this call without the mark
abbrev pub gives_to : Owner → ℕ → List Draw → Handled → Bool
gives_to owner call draws one = owned_by owner one.sent && ((one.sent.call == call) && gives_draws draws one.served.item)

abbrev pub is_nothing : List Draw → Bool
is_nothing [] = true
is_nothing (draw ∷ draws) = false

abbrev pub any_served : (Handled → Bool) → List Link → Bool
any_served test links = list_any (λ link. list_any test link.served) links

-- what was served is served still
pub still_served : (links later : List Link) → ((number : ℕ) (link : Link) → link_at links number ≡ Some link → IsLonger later number link) → (test : Handled → Bool) → any_served test links ≡ true → any_served test later ≡ true
still_served links later longer test is =
    let found = any_found (λ link. list_any test link.served) links is in
    let next = longer (suc found.0) found.1 found.2.0 in
    at_any (λ link. list_any test link.served) later found.0 next.now next.there (next.all test found.2.1)

pub served_at : (links : List Link) (number : ℕ) (link : Link) (test : Handled → Bool) → link_at links number ≡ Some link → list_any test link.served ≡ true → any_served test links ≡ true
served_at links zero link test there is = absurd (let none : ⊥ = cc in none)
served_at links (suc index) link test there is = at_any (λ l. list_any test l.served) links index link there is

-- CALLS THAT WERE SHOWN ---------------------------------------------------------------------------

abbrev pub is_given : List Link → Owner → ℕ → ShownCall → Bool
is_given links owner index shown = is_nothing shown.draws || any_served (gives_to owner index shown.draws) links

abbrev pub all_given : List Link → Owner → ℕ → List ShownCall → Bool
all_given links owner index [] = true
all_given links owner index (shown ∷ others) = is_given links owner index shown && all_given links owner (index + 1) others

abbrev pub shown_given : Traced → Course → Bool
shown_given t course = all_given t.machine.links course.owner 0 course.report.calls

abbrev pub are_given : Traced → Bool
are_given t = list_all (shown_given t) (courses_of t)

module _ (links later : List Link) (longer : (number : ℕ) (link : Link) → link_at links number ≡ Some link → IsLonger later number link) where
  still_given : (owner : Owner) (index : ℕ) (shown : List ShownCall) → all_given links owner index shown ≡ true → all_given later owner index shown ≡ true
  still_given owner index [] all = refl
  still_given owner index (one ∷ shown) all =
      let parts = and_parts (is_given links owner index one) (all_given links owner (index + 1) shown) all in
      and_from (is_given later owner index one) (all_given later owner (index + 1) shown) (by (is_nothing one.draws) parts.0) (still_given owner (index + 1) shown parts.1)
    where
      by : (nothing : Bool) → (nothing || any_served (gives_to owner index one.draws) links) ≡ true → (nothing || any_served (gives_to owner index one.draws) later) ≡ true
      by true is = refl
      by false is = still_served links later longer (gives_to owner index one.draws) is

given_push : (links : List Link) (owner : Owner) (index place : ℕ) (shown : List ShownCall) (one : ShownCall) → place ≡ index + length shown → all_given links owner index shown ≡ true → is_given links owner place one ≡ true → all_given links owner index (shown ++ one ∷ []) ≡ true
given_push links owner index place [] one same all here =
    let at : place ≡ index = omega (arith, same) in and_from (is_given links owner index one) true (subst (λ (k : ℕ). is_given links owner k one ≡ true) at here) refl
given_push links owner index place (first ∷ shown) one same all here =
    let parts = and_parts (is_given links owner index first) (all_given links owner (index + 1) shown) all in
    let further : place ≡ (index + 1) + length shown = omega (arith, same) in
    and_from (is_given links owner index first) (all_given links owner (index + 1) (shown ++ one ∷ [])) parts.0 (given_push links owner (index + 1) place shown one further parts.1 here)

pub given_at : (links : List Link) (owner : Owner) (index at place : ℕ) (shown : List ShownCall) (one : ShownCall) → place ≡ index + at → all_given links owner index shown ≡ true → slice_get shown at ≡ Some one → is_given links owner place one ≡ true
given_at links owner index at place [] one same all there = absurd (let none : ⊥ = cc in none)
given_at links owner index zero place (first ∷ shown) one same all there =
    let equal : first ≡ one = cc in
    let here : index ≡ place = omega (arith, same) in
    subst (λ (k : ℕ). is_given links owner k one ≡ true) here (subst (λ (s : ShownCall). is_given links owner index s ≡ true) equal (and_parts (is_given links owner index first) (all_given links owner (index + 1) shown) all).0)
given_at links owner index (suc at) place (first ∷ shown) one same all there =
    let further : place ≡ (index + 1) + at = omega (arith, same) in
    given_at links owner (index + 1) at place shown one further (and_parts (is_given links owner index first) (all_given links owner (index + 1) shown) all).1 there

shown_gives : (call : Call) (shown : ShownCall) (one : Item) → is_shown_item call shown one ≡ true → gives_draws shown.draws one ≡ true
shown_gives call shown (item.Call false served answers draws) is = (and_parts (same_answers answers shown.answers) (same_draws draws shown.draws) (and_parts (same_call served call) (same_answers answers shown.answers && same_draws draws shown.draws) is).1).1
shown_gives call shown (item.Call true served answers draws) is = absurd (let none : ⊥ = cc in none)
shown_gives call shown one is = absurd (let none : ⊥ = cc in none)

-- AN EVENT ----------------------------------------------------------------------------------------

module _ (old new : Traced) (inv : Orderly old) (rows : list_all (course_rows old.machine.links) (courses_of old) ≡ true) (given : are_given old ≡ true)
    (longer : (number : ℕ) (link : Link) → link_at old.machine.links number ≡ Some link → IsLonger new.machine.links number link) where
  abbrev m : Machine
  m = at_event old.machine

  others_given : (course : Course) → shown_given old course ≡ true → shown_given new course ≡ true
  others_given course = still_given old.machine.links new.machine.links longer course.owner 0 course.report.calls

  module _ (number : ℕ) (n : Machine) (step : HasStepped old.setting m number n) where
    abbrev mine : Owner
    mine = record { client = number; place = length step.client.past }

    abbrev before_course : Course
    before_course = course_now old.setting number (length step.client.past) step.before

    abbrev shown_before : List Shown
    shown_before = (account_now old.setting.terms step.before).shown

    before_given : shown_given old before_course ≡ true
    before_given = by step.client.now refl step.client.next step.does
      where
        by : (now : Option Doing) → step.client.now ≡ now → (next : Option Request) → option_or now (option_map (begun old.setting.terms m.event m.tick) next) ≡ Some step.before → shown_given old before_course ≡ true
        by (Some one) is next does = let same : one ≡ step.before = cc in doing_course (shown_given old) old number step.client step.before given step.here (is ∙ ap Some same)
        by None is (Some request) does =
            let same : begun old.setting.terms m.event m.tick request ≡ step.before = cc in
            subst (λ (d : Doing). shown_given old (course_now old.setting number (length step.client.past) d) ≡ true) same refl
        by None is None does = absurd (let none : ⊥ = cc in none)

    shown_here : (shown : Shown) → (first_step old.setting m inv.script.talks number n step).done.act.shown ≡ Some shown → is_given new.machine.links mine (length shown_before) (shown_call shown) ≡ true
    shown_here shown is =
        by (shown_now old.setting m inv.script.talks number n step same_owner_is (λ at has. before_on old m number n step step.here inv.hold.held inv.wire.grammar at has) (λ at link there. known_of old inv at link there) (held_scripts old m number n step step.here inv.script.talks rows) shown is)
      where
        by : ShownNow old.setting m inv.script.talks number n step shown → is_given new.machine.links mine (length shown_before) (shown_call shown) ≡ true
        by (FromItem at has found) =
            or_right (is_nothing shown.draws) (any_served (gives_to mine (length shown_before) shown.draws) new.machine.links)
            (still_served old.machine.links new.machine.links longer (gives_to mine (length shown_before) shown.draws)
            (served_at old.machine.links at found.link (gives_to mine (length shown_before) shown.draws) found.there
            (any_goes (λ (one : Handled). owned_by mine one.sent && ((one.sent.call == length shown_before) && is_shown_item found.call (shown_call shown) one.served.item)) (gives_to mine (length shown_before) shown.draws)
            (λ one here.
            let parts = and_parts (owned_by mine one.sent) _ here in
            let both = and_parts (one.sent.call == length shown_before) (is_shown_item found.call (shown_call shown) one.served.item) parts.1 in
            and_from (owned_by mine one.sent) ((one.sent.call == length shown_before) && gives_draws shown.draws one.served.item) parts.0
            (and_from (one.sent.call == length shown_before) (gives_draws shown.draws one.served.item) both.0 (shown_gives found.call (shown_call shown) one.served.item both.1))) found.link.served found.among)))
        by (FromOutcome asking phase completed) =
            let told : (takes old.setting.terms step.before.talk step.before.talk.phase (down.OutcomeIs true true) completed.alive m.tick).1.shown ≡ Some shown =
            subst (λ (i : Input). (talk_step old.setting.terms step.before.talk i m.tick).1.shown ≡ Some shown) completed.input is in
            let none : shown.draws ≡ [] =
            completed_gives old.setting.terms step.before.talk asking completed.alive m.tick shown (subst (λ (p : Phase). (takes old.setting.terms step.before.talk p (down.OutcomeIs true true) completed.alive m.tick).1.shown ≡ Some shown) phase told) in
            or_left (is_nothing shown.draws) (any_served (gives_to mine (length shown_before) shown.draws) new.machine.links) (ap is_nothing none)

    module _ (d : Course) (owner : d.owner ≡ mine) (calls : d.report.calls ≡ map shown_call (account_now old.setting.terms step.after).shown) where
      steps_given : shown_given new d ≡ true
      steps_given =
          subst (λ (o : Owner). all_given new.machine.links o 0 d.report.calls ≡ true) (sym owner)
          (by (shown_step old.setting m inv.script.talks number n step))
        where
          so_far : all_given new.machine.links mine 0 before_course.report.calls ≡ true
          so_far = still_given old.machine.links new.machine.links longer mine 0 before_course.report.calls before_given

          by : ShownStep shown_before (account_now old.setting.terms (first_doing old.setting m inv.script.talks number n step)).shown (first_step old.setting m inv.script.talks number n step).done.act.shown → all_given new.machine.links mine 0 d.report.calls ≡ true
          by (NoneMore same) =
              subst (λ (all : List ShownCall). all_given new.machine.links mine 0 all ≡ true) (sym (calls ∙ ap (λ (s : List Shown). map shown_call s) (shown_after old.setting m inv.script.talks number n step ∙ same))) so_far
          by (OneMore shown is more) =
              let long : length (map shown_call shown_before) ≡ length shown_before = length-map shown_before shown_call in
              let place : length shown_before ≡ 0 + length (map shown_call shown_before) = omega (arith, long) in
              subst (λ (all : List ShownCall). all_given new.machine.links mine 0 all ≡ true)
              (sym (calls ∙ (ap (λ (s : List Shown). map shown_call s) (shown_after old.setting m inv.script.talks number n step ∙ more) ∙ map-append shown_call shown_before (shown ∷ []))))
              (given_push new.machine.links mine 0 (length shown_before) before_course.report.calls (shown_call shown) place so_far (shown_here shown is))

  may_give : MayStep old.setting m new.machine → list_all (shown_given new) (courses_of_clients old.setting 1 new.machine.clients) ≡ true
  may_give (Still same sents) =
      subst (λ (c : List _). list_all (shown_given new) (courses_of_clients old.setting 1 c) ≡ true) (sym same) (weaker_all (shown_given old) (shown_given new) (courses_of old) others_given given)
  may_give (Closed same sents) =
      subst (λ (c : List _). list_all (shown_given new) (courses_of_clients old.setting 1 c) ≡ true) (sym same) (weaker_all (shown_given old) (shown_given new) (courses_of old) others_given given)
  may_give (Stepped number step) =
      all_step old.setting (shown_given old) (shown_given new) (record { client = number; place = length step.client.past }) (λ course differs. others_given course) m number new.machine step refl
      (λ keep. steps_given number new.machine step (course_now old.setting number (length step.client.past) step.after) refl refl)
      (λ over. steps_given number new.machine step (course_over number (length step.client.past) (past_of old.setting.terms step.after)) refl refl) given

pub given_start : (document : Document) → are_given (traced_start document) ≡ true
given_start document = resting_none (setting_of document) 1 (shown_given (traced_start document)) document.clients

pub given_now : (before after : Seen) (old new : Traced) (event : Event) (note : Note) (items left : List Served) → OneEvent before old event note items left after new → Orderly old → in_rows old ≡ true → are_given old ≡ true → are_given new ≡ true
given_now before after old new event note items left one inv rows given =
    let by : Followed old.setting old.machine event note items left new.machine = follow_happens old.setting old.machine event note items left new.machine one.follows in
    subst (λ setting. list_all (shown_given new) (courses_of_clients setting 1 new.machine.clients) ≡ true) (sym one.setting)
    (may_give old new inv rows given (happens_longer old.setting (at_event old.machine) items left by.kind new.machine by.happens) (happens_step old.setting (at_event old.machine) items left by.kind new.machine by.happens))
