-- Before the commit of a transaction that a connection ran, no call of it was shown as its end: one
-- that was sent without the mark was shown as it was answered there, and one of a replay is no
-- rollback.
use Rattle.std.proofs.Common.{◌≡◌, refl, sym, ap, subst, ◌∙◌, arith, Bool, true, false, ℕ, suc, zero, ◌+◌, ◌<◌, ◌≤◌, ◌&&◌, ◌||◌, filter, length, take, List, [], ◌∷◌, Option, Some, None, ◌⊎◌, inl, inr}
use Rattle.std.specs.Prelude.{◌==◌, nat_le, not, slice_get}
use Rattle.std.specs.List.{list_all, list_any}
use Rattle.std.specs.Option.{option_map_or}
use Rattle.std.proofs.lemmas.Bool.{and_parts, and_from, or_cases, or_right}
use Rattle.std.proofs.lemmas.List.Sums.{length-filter}
use Rattle.std.proofs.lemmas.Option.{slice_get_within}
use Rattle.svc_values.specs.declared.answer.Answer.{Answer}
use Rattle.svc_values.specs.declared.call.Call.{Call}
use Rattle.svc_values.specs.declared.draw.Draw.{Draw}
use Rattle.svc_values.specs.declared.frame.Up.{Up}
use Rattle.svc_values.specs.declared.frame.Up.TheVariants as up
use Rattle.svc_values.specs.meaning.Calls.{is_lone_commit}
use Rattle.svc_values.specs.meaning.Endings.{ends_transaction}
use Rattle.svc_values.specs.meaning.Same.{same_answers, same_bool, same_call, same_draws}
use Rattle.svc_values.specs.SameLaws.{same_answers_decide, same_bool_decides, same_call_decides}
use Rattle.outage_schedule.specs.declared.item.Item.{Item}
use Rattle.outage_schedule.specs.declared.item.Item.TheVariants as item
use Rattle.outage_schedule.specs.declared.request.ShownCall.{ShownCall}
use Rattle.server_model.specs.meaning.Walk.{ends}
use Rattle.world_model.specs.records.Basic.{none_behind, lives_rightly}
use Rattle.once_laws.specs.CallEndings.{is_rollback, ends_rolled_back, fit_call, ends_fittingly, all_end_fittingly, end_fittingly}
use Rattle.world_model.specs.meaning.Frames.{Sent, Handled}
use Rattle.invariant_laws.specs.Invariant.{Invariant}
use Rattle.world_model.specs.meaning.Links.{Link, link_at}
use Rattle.world_model.specs.Parts.{implies, is_rep, is_unmarked, is_unmarked_frame, count_reps}
use Rattle.world_model.specs.Sames.{is_of, owned_by, same_up}
use Rattle.world_model.specs.records.Script.{recorded_from}
use Rattle.world_model.specs.meaning.Serving.{is_item_of}
use Rattle.once_laws.specs.Showing.{shows_taken, show_replies}
use Rattle.invariant_laws.specs.Shown.{is_call, is_marked, calls_on, in_row, first_of, is_scripts, is_row, is_current, has_unmarked, first_unmarked, marked_from, unmarked_first, is_shown_item, item_shows, link_shows, has_completed, is_from, all_from, rows_on, shows_commit}
use Rattle.world_model.specs.Traced.{Traced, Course, courses_of}
use Rattle.world_model.specs.records.Wire.{is_right, stage_of, New, handled_from, one_is_out}
use Rattle.world_model.specs.Words.{held_in}
use Rattle.world_model.proofs.Offered.{at_link, at_all, implied, at_any, eq_from, le_from, not_both}
use Rattle.invariant_laws.proofs.Offered.{any_all, any_one, call_answered, calls_same, unmarked_same, unmarked_called}
use Rattle.once_laws.proofs.calls.CallRows.{IsBetween, IsFrom, between, got_before, is_from as is_of_list, less_or, rank, rank_rises, rank_upto, ranked, row_rank}
use Rattle.once_laws.proofs.calls.CallsApart.{WasSent, at_held}
use Rattle.once_laws.proofs.calls.OpenCalls.{OpenCall, call_marked, kept_calls, lives_before, marked_plain, open_call, unmarked_above}
use Rattle.once_laws.proofs.calls.ShownFrom.{commit_ends}
use Rattle.once_laws.proofs.calls.ShownPlaces.{ended_rolled, never_decided, open_goes_on, rolled_ends, rolled_not_committed}
use Rattle.once_laws.proofs.calls.StageCalls.{marks_first}
use Rattle.once_laws.proofs.values.StoredCommits.{leaves_open}
use Rattle.once_laws.proofs.calls.ToldCalls.{ShownAt, handled_is, sent_at, told_call}

-- FRAMES AND ITEMS --------------------------------------------------------------------------------

-- the mark of a frame is that of its item
pub item_mark : (frame : Up) (marked : Bool) (called : Call) (answers : List Answer) (draws : List Draw) → is_item_of frame (item.Call marked called answers draws) ≡ true → is_unmarked_frame frame ≡ not marked
item_mark (up.Call true kept sent) true called answers draws is = refl
item_mark (up.Call false kept sent) false called answers draws is = refl
item_mark (up.Call true kept sent) false called answers draws is = absurd (let none : ⊥ = cc in none)
item_mark (up.Call false kept sent) true called answers draws is = absurd (let none : ⊥ = cc in none)
item_mark frame marked called answers draws is = absurd (let none : ⊥ = cc in none)

-- and so is its call
pub item_call : (frame other : Up) (marked replay : Bool) (called call : Call) (answers : List Answer) (draws kept : List Draw) → is_item_of frame (item.Call marked called answers draws) ≡ true → same_up frame other ≡ true → other ≡ up.Call replay kept call → called ≡ call
item_call (up.Call r k c) (up.Call s l d) marked replay called call answers draws kept is same as_is =
    let one : called ≡ c = (same_call_decides called c).0 (and_parts (same_bool marked r) (same_call called c) is).1 in
    let two : c ≡ d = (same_call_decides c d).0 (and_parts (same_draws k l) (same_call c d) (and_parts (same_bool r s) (same_draws k l && same_call c d) same).1).1 in
    let three : d ≡ call = cc in
    one ∙ (two ∙ three)
item_call (up.Call r k c) other marked replay called call answers draws kept is same as_is = absurd (let none : ⊥ = cc in none)
item_call frame other marked replay called call answers draws kept is same as_is = absurd (let none : ⊥ = cc in none)

rolled_by : (marked : Bool) (called : Call) (answers : List Answer) → fit_call marked called answers ≡ true → ends_rolled_back answers ≡ is_rollback called
rolled_by marked called answers fit = (same_bool_decides (ends_rolled_back answers) (is_rollback called)).0 (and_parts (same_bool (ends_rolled_back answers) (is_rollback called)) _ fit).0

-- SHOWN CALLS -------------------------------------------------------------------------------------

-- a call that was shown is from an item, or from an outcome
from_at : (completed : Bool) (t : Traced) (course : Course) (start : ℕ) (calls : List ShownCall) → all_from completed t course start calls ≡ true → (place : ℕ) (shown : ShownCall) → slice_get calls place ≡ Some shown → (index : ℕ) → index ≡ start + place
    → is_from completed t course index (slice_get course.request.calls index) shown ≡ true
from_at completed t course start [] all place shown at index same = absurd (let none : ⊥ = cc in none)
from_at completed t course start (first ∷ others) all zero shown at index same =
    let here : start ≡ index = omega (arith, same) in
    let equal : first ≡ shown = cc in
    subst (λ (n : ℕ). is_from completed t course n (slice_get course.request.calls n) shown ≡ true) here
    (subst (λ (s : ShownCall). is_from completed t course start (slice_get course.request.calls start) s ≡ true) equal (and_parts (is_from completed t course start (slice_get course.request.calls start) first) (all_from completed t course (start + 1) others) all).0)
from_at completed t course start (first ∷ others) all (suc place) shown at index same =
    from_at completed t course (start + 1) others (and_parts (is_from completed t course start (slice_get course.request.calls start) first) (all_from completed t course (start + 1) others) all).1 place shown at index (omega (arith, same))

rolled_item : (call : Call) (shown : ShownCall) (it : Item) → is_shown_item call shown it ≡ true → ends_fittingly it ≡ true → ends_rolled_back shown.answers ≡ true → is_rollback call ≡ true
rolled_item call shown (item.Call false served answers draws) is fit rolled =
    let one = and_parts (same_call served call) (same_answers answers shown.answers && same_draws draws shown.draws) is in
    let two = and_parts (same_answers answers shown.answers) (same_draws draws shown.draws) one.1 in
    ap is_rollback (sym ((same_call_decides served call).0 one.0)) ∙ (sym (rolled_by false served answers fit) ∙ (ap ends_rolled_back ((same_answers_decide answers shown.answers).0 two.0) ∙ rolled))
rolled_item call shown (item.Call true served answers draws) is fit rolled = absurd (let none : ⊥ = cc in none)
rolled_item call shown it is fit rolled = absurd (let none : ⊥ = cc in none)

-- one that was shown as rolled back is a rollback
rolled_call : (t : Traced) → end_fittingly t ≡ true → (completed : Bool) (course : Course) (index : ℕ) (call : Call) (shown : ShownCall) → is_from completed t course index (Some call) shown ≡ true → ends_rolled_back shown.answers ≡ true → is_rollback call ≡ true
rolled_call t fit completed course index call shown is rolled = by (or_cases (list_any (link_shows t course index call shown) (held_in course.steps)) (is_lone_commit call && (shows_commit shown && completed)) is)
  where
    on : (number : ℕ) (found : Option Link) → link_at t.machine.links number ≡ found → option_map_or (λ link. list_any (item_shows course index call shown) link.served) found false ≡ true → is_rollback call ≡ true
    on number None there any = absurd (let none : ⊥ = cc in none)
    on number (Some link) there any =
        let found = any_all (item_shows course index call shown) (λ (one : Handled). ends_fittingly one.served.item) link.served any (at_link all_end_fittingly t.machine.links number link fit there) in
        let one = and_parts (owned_by course.owner found.0.sent) ((found.0.sent.call == index) && is_shown_item call shown found.0.served.item) found.1.0 in
        let two = and_parts (found.0.sent.call == index) (is_shown_item call shown found.0.served.item) one.1 in
        rolled_item call shown found.0.served.item two.1 found.1.1 rolled

    by : (list_any (link_shows t course index call shown) (held_in course.steps) ≡ true) ⊎ ((is_lone_commit call && (shows_commit shown && completed)) ≡ true) → is_rollback call ≡ true
    by (inl any) = let found = any_one (link_shows t course index call shown) (held_in course.steps) any in on found.0 (link_at t.machine.links found.0) refl found.1
    by (inr lone) =
        let one = and_parts (is_lone_commit call) (shows_commit shown && completed) lone in
        rolled_not_committed shown.answers rolled (commit_ends shown (and_parts (shows_commit shown) completed one.1).0)

-- ROWS --------------------------------------------------------------------------------------------

-- a row that begins with a mark begins where calls are recorded
row_recorded : (course : Course) (calls : List Sent) (start next : ℕ) → in_row start calls ≡ true → marked_from course calls next ≡ true → (first : Sent) → slice_get calls 0 ≡ Some first → is_marked first.frame ≡ true → start ≡ recorded_from (take next course.report.calls)
row_recorded course [] start next row marks first at is = absurd (let none : ⊥ = cc in none)
row_recorded course (head ∷ others) start next row marks first at is =
    let same : head ≡ first = cc in
    let here = eq_from head.call start (and_parts (head.call == start) (in_row (start + 1) others) row).0 in
    let recorded = eq_from head.call (recorded_from (take next course.report.calls)) (implied (is_marked head.frame) (head.call == recorded_from (take next course.report.calls)) (ap (λ (s : Sent). is_marked s.frame) same ∙ is) marks) in
    sym here ∙ recorded

-- its call is the script's
script_call : (course : Course) (sent : Sent) (frame : Up) → is_scripts course sent frame ≡ true → is_marked frame ≡ true → (kept : List Draw) × ((call : Call) × ((frame ≡ up.Call true kept call) × (slice_get course.request.calls sent.call ≡ Some call)))
script_call course sent (up.Call true kept call) is marked = by (slice_get course.request.calls sent.call) refl is
  where
    by : (found : Option Call) → slice_get course.request.calls sent.call ≡ found → option_map_or (same_call call) found false ≡ true → (k : List Draw) × ((c : Call) × ((up.Call true kept call ≡ up.Call true k c) × (slice_get course.request.calls sent.call ≡ Some c)))
    by None at is = absurd (let none : ⊥ = cc in none)
    by (Some one) at is = (kept, (call, (refl, at ∙ ap Some (sym ((same_call_decides call one).0 is)))))
script_call course sent (up.Call false kept call) is marked = absurd (let none : ⊥ = cc in none)
script_call course sent frame is marked = absurd (let none : ⊥ = cc in none)

-- ONE CONNECTION ----------------------------------------------------------------------------------

module _ (t : Traced) (inv : Invariant t) (shows : show_replies t ≡ true) (fit : end_fittingly t ≡ true) (index : ℕ) (link : Link) (there : slice_get t.machine.links index ≡ Some link) (number : ℕ) (course : Course)
    (at_course : slice_get (courses_of t) number ≡ Some course) (had : list_any (λ other. other == suc index) (held_in course.steps) ≡ true) where
  abbrev keep : Sent → Bool
  keep sent = owned_by course.owner sent && is_call sent.frame

  abbrev calls : List Sent
  calls = calls_on course link

  abbrev pub start : ℕ
  start = option_map_or (λ (sent : Sent). sent.call) (first_of calls) 0

  row : is_row course (is_current course (suc index)) calls ≡ true
  row = at_held t.machine.links (suc index) link (λ n l. is_row course (is_current course n) (calls_on course l)) (held_in course.steps) there had (at_all (rows_on t) (courses_of t) number course inv.shown.rows at_course)

  abbrev marks_row : Bool
  marks_row = implies (is_current course (suc index) || has_unmarked calls) (marked_from course calls (first_unmarked course calls)) && unmarked_first course calls

  pub in_a_row : in_row start calls ≡ true
  in_a_row = (and_parts (in_row start calls) (list_all (λ sent. is_scripts course sent sent.frame) calls && marks_row) row).0

  behind_row : (list_all (λ sent. is_scripts course sent sent.frame) calls ≡ true) × (marks_row ≡ true)
  behind_row = and_parts (list_all (λ sent. is_scripts course sent sent.frame) calls) marks_row (and_parts (in_row start calls) (list_all (λ sent. is_scripts course sent sent.frame) calls && marks_row) row).1

  pub right : is_right (stage_of link) ≡ true
  right = at_link (λ l. is_right (stage_of l)) t.machine.links (suc index) link inv.orderly.wire.grammar there

  pub taken_shown : shows_taken course link ≡ true
  taken_shown = at_all (shows_taken course) t.machine.links index link (at_all (λ (c : Course). list_all (shows_taken c) t.machine.links) (courses_of t) number course shows at_course) there

  pub handled : handled_from 0 link.served ≡ true
  handled = at_link (λ l. handled_from 0 l.served) t.machine.links (suc index) link inv.orderly.wire.handled there

  pub alone : none_behind link.served ≡ true
  alone = (and_parts (none_behind link.served) _ (at_link lives_rightly t.machine.links (suc index) link inv.orderly.basic.life there)).0

  pub fits_at : (place : ℕ) (one : Handled) → slice_get link.served place ≡ Some one → ends_fittingly one.served.item ≡ true
  fits_at place one at = at_all (λ (h : Handled). ends_fittingly h.served.item) link.served place one (at_link all_end_fittingly t.machine.links (suc index) link fit there) at

  pub count_taken : count_reps link.sent ≤ length link.taken + 1
  count_taken = le_from (count_reps link.sent) (length link.taken + 1) (and_parts (nat_le (length link.taken) (count_reps link.sent)) (nat_le (count_reps link.sent) (length link.taken + 1)) (at_link one_is_out t.machine.links (suc index) link inv.orderly.wire.out there)).1

  -- the reply to an answered frame was taken where another one was sent behind it
  pub taken_before : (place last : ℕ) (one end : Sent) → place < last → slice_get link.sent place ≡ Some one → slice_get link.sent last ≡ Some end → is_rep one ≡ true → is_rep end ≡ true → rank is_rep link.sent place < length link.taken
  taken_before place last one end less at ends_at rep rep_end =
      let rises = rank_rises is_rep link.sent place last one less at rep in
      let within = slice_get_within (filter is_rep link.sent) (rank is_rep link.sent last) end (ranked is_rep link.sent last end ends_at rep_end) in
      let count : length (filter is_rep link.sent) ≡ count_reps link.sent = length-filter is_rep link.sent in
      let most = count_taken in
      omega (arith, rises, within, count, most)

  module _ (place last : ℕ) (one end : Handled) (at : slice_get link.served place ≡ Some one) (ends_at : slice_get link.served last ≡ Some end) (mine : owned_by course.owner one.sent ≡ true) (call : is_call one.sent.frame ≡ true) (mine_end : owned_by course.owner end.sent ≡ true)
      (plain_end : is_unmarked_frame end.sent.frame ≡ true) (opens : (k : ℕ) (other : Handled) → place ≤ k → k < last → slice_get link.served k ≡ Some other → leaves_open other.served.item ≡ true) where
    was : WasSent link place one
    was = sent_at t inv index link there place one at

    was_end : WasSent link last end
    was_end = sent_at t inv index link there last end ends_at

    kept_was : keep was.sent ≡ true
    kept_was = and_from (owned_by course.owner was.sent) (is_call was.sent.frame) (ap (is_of course.owner) (sym was.owner) ∙ mine) (sym (calls_same one.sent.frame was.sent.frame was.frame) ∙ call)

    plain_was : is_unmarked_frame was_end.sent.frame ≡ true
    plain_was = sym (unmarked_same end.sent.frame was_end.sent.frame was_end.frame) ∙ plain_end

    kept_end : keep was_end.sent ≡ true
    kept_end = and_from (owned_by course.owner was_end.sent) (is_call was_end.sent.frame) (ap (is_of course.owner) (sym was_end.owner) ∙ mine_end) (unmarked_called was_end.sent.frame plain_was)

    -- the call of an index between
    module _ (j : ℕ) (from : one.sent.call ≤ j) (below : j < end.sent.call) (shown : ShownCall) (shown_is : slice_get course.report.calls j ≡ Some shown) where
      found : IsBetween keep start link.sent in_a_row place last j
      found = let first = was.call in let second = was_end.call in between keep start link.sent in_a_row place last was.sent was_end.sent was.at kept_was was_end.at kept_end j (omega (arith, from, first)) (omega (arith, below, second))

      got : (h : Handled) × (slice_get link.served found.at ≡ Some h)
      got = let before = found.before in got_before link.served found.at last end (omega (arith, before)) ends_at

      its : WasSent link found.at got.0
      its = sent_at t inv index link there found.at got.0 got.1

      its_is : its.sent ≡ found.sent
      its_is = let both : Some its.sent ≡ Some found.sent = sym its.at ∙ found.there in let equal : its.sent ≡ found.sent = cc in equal

      kept_its : (owned_by course.owner its.sent ≡ true) × (is_call its.sent.frame ≡ true)
      kept_its = and_parts (owned_by course.owner its.sent) (is_call its.sent.frame) (ap keep its_is ∙ found.kept)

      called_its : is_call got.0.sent.frame ≡ true
      called_its = calls_same got.0.sent.frame its.sent.frame its.frame ∙ kept_its.1

      call_is : got.0.sent.call ≡ j
      call_is = its.call ∙ (ap (λ (s : Sent). s.call) its_is ∙ found.call)

      it : OpenCall got.0
      it =
          let so = handled_is 0 link.served found.at got.0 handled got.1 in
          open_call so.0 got.0 so.1 called_its (opens found.at got.0 found.from found.before got.1) (lives_before link.served found.at last got.0 end alone found.before got.1 ends_at)

      -- without the mark
      plainly : it.marked ≡ false → ends_transaction shown.answers ≡ false
      plainly marked =
          let plain : is_unmarked_frame got.0.sent.frame ≡ true = item_mark got.0.sent.frame it.marked it.called it.answers it.draws it.of ∙ ap not marked in
          let less = taken_before found.at last its.sent was_end.sent found.before its.at was_end.at (call_answered its.sent.frame kept_its.1) (call_answered was_end.sent.frame (unmarked_called was_end.sent.frame plain_was)) in
          let told : ShownAt course.report.calls got.0.sent.call it.answers =
          told_call t inv index link there course start in_a_row taken_shown found.at got.0 it.marked it.called it.answers it.draws got.1 it.is (ap (is_of course.owner) its.owner ∙ kept_its.0) plain called_its less in
          let both : Some told.shown ≡ Some shown = sym told.at ∙ (ap (slice_get course.report.calls) call_is ∙ shown_is) in
          let equal : told.shown ≡ shown = cc in
          ap (λ (s : ShownCall). ends_transaction s.answers) (sym equal) ∙ (ap ends_transaction told.same ∙ open_goes_on it.answers it.goes_on)

      -- with it
      module _ (marked : it.marked ≡ true) where
        is_mark : is_marked found.sent.frame ≡ true
        is_mark =
            let none : is_unmarked_frame found.sent.frame ≡ false =
            ap (λ (s : Sent). is_unmarked_frame s.frame) (sym its_is) ∙ (sym (unmarked_same got.0.sent.frame its.sent.frame its.frame) ∙ (item_mark got.0.sent.frame it.marked it.called it.answers it.draws it.of ∙ ap not marked)) in
            call_marked found.sent.frame (and_parts (owned_by course.owner found.sent) (is_call found.sent.frame) found.kept).1 none

        abbrev place_in : ℕ
        place_in = rank keep link.sent found.at

        in_calls : slice_get calls place_in ≡ Some found.sent
        in_calls = ranked keep link.sent found.at found.sent found.there found.kept

        some : has_unmarked calls ≡ true
        some = at_any is_unmarked calls (rank keep link.sent last) was_end.sent (ranked keep link.sent last was_end.sent was_end.at kept_end) plain_was

        earlier : (other : ℕ) (sent : Sent) → other ≤ place_in → slice_get calls other ≡ Some sent → is_marked sent.frame ≡ true
        earlier other sent most at_other = by (is_unmarked_frame sent.frame) refl
          where
            of : IsFrom keep link.sent other sent
            of = is_of_list keep link.sent other sent at_other

            upto : of.place ≤ found.at
            upto = let ranks = of.ranks in rank_upto keep link.sent of.place found.at found.sent found.there found.kept (omega (arith, ranks, most))

            cases : (of.place < found.at) ⊎ (found.at ≤ of.place) → is_unmarked_frame sent.frame ≡ true → ⊥
            cases (inl less) is = marks_first New link.sent right of.place found.at sent found.sent of.at found.there is is_mark less
            cases (inr back) is =
                let same : of.place ≡ found.at = omega (arith, upto, back) in
                let both : Some sent ≡ Some found.sent = sym of.at ∙ (ap (slice_get link.sent) same ∙ found.there) in
                let equal : sent ≡ found.sent = cc in
                not_both (is_unmarked_frame sent.frame) is (ap (λ (s : Sent). is_unmarked_frame s.frame) equal ∙ marked_plain found.sent.frame is_mark)

            by : (plain : Bool) → is_unmarked_frame sent.frame ≡ plain → is_marked sent.frame ≡ true
            by true is = absurd (cases (less_or of.place found.at) is)
            by false is = call_marked sent.frame (and_parts (owned_by course.owner sent) (is_call sent.frame) of.kept).1 is

        row_place : j ≡ start + place_in
        row_place = sym found.call ∙ row_rank keep start link.sent in_a_row found.at found.sent found.there found.kept

        above : start + place_in < first_unmarked course calls
        above = unmarked_above course start calls in_a_row some (kept_calls keep (λ sent is. (and_parts (owned_by course.owner sent) (is_call sent.frame) is).1) link.sent) place_in found.sent in_calls earlier

        recorded : start ≡ recorded_from (take (first_unmarked course calls) course.report.calls)
        recorded =
            let first = got_before calls 0 place_in found.sent (omega arith) in_calls in
            row_recorded course calls start (first_unmarked course calls) in_a_row
            (implied (is_current course (suc index) || has_unmarked calls) (marked_from course calls (first_unmarked course calls)) (or_right (is_current course (suc index)) (has_unmarked calls) some)
            (and_parts (implies (is_current course (suc index) || has_unmarked calls) (marked_from course calls (first_unmarked course calls))) (unmarked_first course calls) behind_row.1).0) first.0 first.1 (earlier 0 first.0 (omega arith) first.1)

        repeated : ends_transaction shown.answers ≡ false
        repeated = by (ends_transaction shown.answers) refl
          where
            script : (kept : List Draw) × ((c : Call) × ((found.sent.frame ≡ up.Call true kept c) × (slice_get course.request.calls found.sent.call ≡ Some c)))
            script = script_call course found.sent found.sent.frame (at_all (λ (sent : Sent). is_scripts course sent sent.frame) calls place_in found.sent behind_row.0 in_calls) is_mark

            by : (test : Bool) → ends_transaction shown.answers ≡ test → test ≡ false
            by false is = refl
            by true is =
                let place_is = row_place in
                let record_is = recorded in
                let top = above in
                let open_so = never_decided course.report.calls (first_unmarked course calls) j shown (omega (arith, place_is, record_is)) (omega (arith, place_is, top)) shown_is in
                let rolled : ends_rolled_back shown.answers ≡ true = ended_rolled shown.answers is open_so in
                let from_so : is_from (has_completed course) t course j (slice_get course.request.calls j) shown ≡ true =
                from_at (has_completed course) t course 0 course.report.calls (at_all (λ (c : Course). all_from (has_completed c) t c 0 c.report.calls) (courses_of t) number course inv.shown.shown at_course) j shown shown_is j (omega arith) in
                let script_is : slice_get course.request.calls j ≡ Some script.1.0 = ap (slice_get course.request.calls) (sym found.call) ∙ script.1.1.1 in
                let back : is_rollback script.1.0 ≡ true =
                rolled_call t fit (has_completed course) course j script.1.0 shown (subst (λ (c : Option Call). is_from (has_completed course) t course j c shown ≡ true) script_is from_so) rolled in
                let same : it.called ≡ script.1.0 = item_call got.0.sent.frame its.sent.frame it.marked true it.called script.1.0 it.answers it.draws script.0 it.of its.frame (ap (λ (s : Sent). s.frame) its_is ∙ script.1.1.0) in
                let fits : fit_call it.marked it.called it.answers ≡ true = subst (λ (i : Item). ends_fittingly i ≡ true) it.is (fits_at found.at got.0 got.1) in
                let ended : ends_rolled_back it.answers ≡ true = rolled_by it.marked it.called it.answers fits ∙ (ap is_rollback same ∙ back) in
                absurd (not_both (ends it.answers) (rolled_ends it.answers ended) it.goes_on)

    pub none_ended : (j : ℕ) (shown : ShownCall) → one.sent.call ≤ j → j < end.sent.call → slice_get course.report.calls j ≡ Some shown → ends_transaction shown.answers ≡ false
    none_ended j shown from below shown_is = by (it j from below shown shown_is).marked refl
      where
        by : (marked : Bool) → (it j from below shown shown_is).marked ≡ marked → ends_transaction shown.answers ≡ false
        by true is = repeated j from below shown shown_is is
        by false is = plainly j from below shown shown_is is
