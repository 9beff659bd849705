-- A sending that was answered Committed was run as the last call of the transaction of its number
-- on its connection, wherever a run has come to.
use Rattle.std.proofs.Common.{◌≡◌, refl, sym, ap, subst, ◌∙◌, append-nil, Bool, true, false, ℕ, ◌&&◌, filter, fold, length, List, [], ◌∷◌, ◌++◌, Option, Some, None}
use Rattle.std.specs.Prelude.{◌==◌, slice_get}
use Rattle.std.specs.List.{list_all, list_any, last_or}
use Rattle.std.specs.Option.{option_map_or}
use Rattle.std.proofs.lemmas.Bool.{and_from}
use Rattle.std.proofs.lemmas.List.Sums.{fold-append}
use Rattle.svc_values.specs.declared.answer.Answer.{Answer}
use Rattle.svc_values.specs.declared.entry.Ltxid.{Ltxid}
use Rattle.svc_values.specs.meaning.Endings.{ends_committed}
use Rattle.svc_values.specs.meaning.Identifiers.{same_ltxid}
use Rattle.svc_values.specs.SameLaws.{same_ltxid_decides}
use Rattle.outage_schedule.specs.declared.document.Document.{Document}
use Rattle.outage_schedule.specs.declared.event.Event.{Event}
use Rattle.outage_schedule.specs.declared.item.Item.{Item}
use Rattle.outage_schedule.specs.declared.item.Item.TheVariants as item
use Rattle.outage_schedule.specs.declared.item.Served.{Served}
use Rattle.outage_schedule.specs.declared.note.Note.{Note}
use Rattle.server_model.specs.Seen.{Seen}
use Rattle.world_model.specs.meaning.Frames.{Owner, Sent, Handled}
use Rattle.invariant_laws.specs.Invariant.{Invariant}
use Rattle.invariant_laws.specs.KeptLaws.{RunsKeepInvariant}
use Rattle.world_model.specs.meaning.Links.{Link, link_at}
use Rattle.world_model.specs.meaning.Machines.{Machine}
use Rattle.world_model.specs.meaning.Matching.{Noted}
use Rattle.world_model.specs.OneEvent.{OneEvent}
use Rattle.world_model.specs.Parts.{Sending, commit_sendings, has_entry, implies}
use Rattle.world_model.specs.Reached.{traced_start, Begins, GoesOn}
use Rattle.invariant_laws.specs.Same.{Ran, ServedCall, did_all, ends_on_server, ran_by, ran_item, runs_script_calls, test_at, with_call}
use Rattle.invariant_laws.specs.SameLaws.{RunsRanLast, WholeRunsRanLast}
use Rattle.world_model.specs.Sames.{owned_by}
use Rattle.world_model.specs.meaning.Settings.{setting_of}
use Rattle.world_model.specs.Traced.{Traced, Course, course_now, courses_of}
use Rattle.invariant_laws.specs.Verified.{commits_ran, is_committed_ran, ran_last}
use Rattle.world_model.specs.Words.{held_in}
use Rattle.world_model.proofs.Offered.{weaker_all, HasStepped, happens_step, last_pushed, Followed, follow_happens, at_event, held_now, resting_none, Happens, get_further, finishing_reached, scan_by, eq_to, all_turn, some_same}
use Rattle.invariant_laws.proofs.Offered.{AnsweringIsAnswered as IsAnswered, apart_steps_commits as commits, any_all, KeepsLost, lost_kept, before_so, over_same, IsLonger, happens_longer}
use Rattle.same_laws.proofs.CommittedStay.{after_so}
use Rattle.once_laws.proofs.Offered.{HasRun, all_its, all_there, open_entries_entry_ran as entry_ran, is_its, is_there, scripts_ran}
use Rattle.same_laws.proofs.ServingTurns.{Serving, NothingYet, AsMuch, OneMore, comes_serving}

-- TRANSACTIONS STAY -------------------------------------------------------------------------------

-- those that are over, and more
record OverMore (before later : Ran) : Type 0 where
  more : List (List ServedCall)
  are : later.over ≡ before.over ++ more

no_more : (before later : Ran) → later.over ≡ before.over → OverMore before later
no_more before later same = record { more = []; are = same ∙ sym (append-nil before.over) }

did_more : (ran : Ran) (committed ended : Bool) (dids : List ServedCall) → OverMore ran (did_all ran committed ended dids)
did_more ran true ended dids = record { more = dids ∷ []; are = refl }
did_more ran false true dids = no_more ran (did_all ran false true dids) refl
did_more ran false false dids = no_more ran (did_all ran false false dids) refl

item_more : (ran : Ran) (sent : Sent) (one : Item) → OverMore ran (ran_item ran sent one)
item_more ran sent (item.Begin settings) = no_more ran (ran_item ran sent (item.Begin settings)) refl
item_more ran sent item.End = no_more ran (ran_item ran sent item.End) refl
item_more ran sent (item.Call mark called answers draws) =
    let dids : List ServedCall = ran.pieces ++ record { sent = sent; mark = mark; piece = record { call = called; answers = answers; draws = draws } } ∷ [] in
    let so = did_more (with_call ran called) (ends_committed answers) (ends_on_server answers) dids in
    record { more = so.more; are = so.are ∙ ap (λ (over : List (List ServedCall)). over ++ so.more) (over_same ran called) }
item_more ran sent (item.CrashedCall mark called) = record { more = (ran.pieces ++ record { sent = sent; mark = mark; piece = record { call = called; answers = []; draws = [] } } ∷ []) ∷ []; are = refl }
item_more ran sent one = no_more ran (ran_item ran sent one) refl

abbrev ran_of : List Handled → Ran
ran_of served = fold (λ ran one. ran_item ran one.sent one.served.item) (record { settings = []; at_start = []; pieces = []; over = []; starts = [] }) served

found_more : (test : List ServedCall → Bool) (over more : List (List ServedCall)) (number : ℕ) → option_map_or test (slice_get over number) false ≡ true → option_map_or test (slice_get (over ++ more) number) false ≡ true
found_more test over more number here = by (slice_get over number) refl here
  where
    by : (found : Option (List ServedCall)) → slice_get over number ≡ found → option_map_or test found false ≡ true → option_map_or test (slice_get (over ++ more) number) false ≡ true
    by None is here = absurd (let none : ⊥ = cc in none)
    by (Some dids) is here = ap (λ (found : Option (List ServedCall)). option_map_or test found false) (get_further over more number dids is) ∙ here

more_last : (course : Course) (sending : Sending) (was now : Link) (it : Handled) → now.served ≡ was.served ++ it ∷ [] → ran_last course sending was ≡ true → ran_last course sending now ≡ true
more_last course sending was now it served here =
    let so = item_more (ran_of was.served) it.sent it.served.item in
    let over : (ran_by now).over ≡ (ran_by was).over ++ so.more =
    ap (λ (all : List Handled). (ran_of all).over) served
    ∙ (ap (λ (ran : Ran). ran.over) (fold-append (λ (ran : Ran) (one : Handled). ran_item ran one.sent one.served.item) (record { settings = []; at_start = []; pieces = []; over = []; starts = [] }) was.served (it ∷ [])) ∙ so.are) in
    ap (λ (all : List (List ServedCall)). option_map_or last_is (slice_get all sending.ltxid.number) false) over ∙ found_more last_is (ran_by was).over so.more sending.ltxid.number here
  where
    last_is : List ServedCall → Bool
    last_is dids = option_map_or (λ did. owned_by course.owner did.sent && (did.sent.call == sending.at)) (last_or None dids) false

-- AN EVENT ----------------------------------------------------------------------------------------

module _ (t : Traced) (whole : Invariant t) (new : Traced) (setting : new.setting ≡ t.setting) (items left : List Served) (kind : Noted) (happens : Happens t.setting (at_event t.machine) items left kind new.machine) where
  abbrev m : Machine
  m = at_event t.machine

  -- on a connection that was there
  last_still : (course : Course) (sending : Sending) (link : Link) → link_at t.machine.links sending.connection ≡ Some link → ran_last course sending link ≡ true → option_map_or (ran_last course sending) (link_at new.machine.links sending.connection) false ≡ true
  last_still course sending link there here =
      ap (λ (found : Option Link). option_map_or (ran_last course sending) found false) longer.there
      ∙ by (comes_serving m items left kind sending.connection longer.now (all_turn t.setting m (held_now t whole.orderly) items left kind new.machine happens sending.connection longer.now longer.there))
    where
      longer : IsLonger new.machine.links sending.connection link
      longer = happens_longer t.setting m items left kind new.machine happens sending.connection link there

      served_some : (served : List Handled) → link.served ≡ served → longer.now.served ≡ [] → ran_last course sending longer.now ≡ true
      served_some [] is none = absurd (let gone : option_map_or (λ (dids : List ServedCall). option_map_or (λ did. owned_by course.owner did.sent && (did.sent.call == sending.at)) (last_or None dids) false) (slice_get (ran_of []).over sending.ltxid.number) false ≡ true = subst (λ (all : List Handled). option_map_or (λ (dids : List ServedCall). option_map_or (λ did. owned_by course.owner did.sent && (did.sent.call == sending.at)) (last_or None dids) false) (slice_get (ran_of all).over sending.ltxid.number) false ≡ true) is here in let never : ⊥ = cc in never)
      served_some (one ∷ others) is none =
          absurd (let some : list_any (λ (h : Handled). true) longer.now.served ≡ true = longer.all (λ h. true) (ap (list_any (λ (h : Handled). true)) is) in
          let gone : list_any (λ (h : Handled). true) [] ≡ true = sym (ap (list_any (λ (h : Handled). true)) none) ∙ some in let never : ⊥ = cc in never)

      by : Serving m.links items left sending.connection longer.now → ran_last course sending longer.now ≡ true
      by (NothingYet none) = served_some link.served refl none
      by (AsMuch was at served) =
          let same : was ≡ link = some_same (link_at m.links sending.connection) was link at there in
          ap (λ (all : List Handled). option_map_or (λ (dids : List ServedCall). option_map_or (λ did. owned_by course.owner did.sent && (did.sent.call == sending.at)) (last_or None dids) false) (slice_get (ran_of all).over sending.ltxid.number) false)
          (served ∙ ap (λ (l : Link). l.served) same) ∙ here
      by (OneMore was at it item served sent) =
          let same : was ≡ link = some_same (link_at m.links sending.connection) was link at there in
          more_last course sending link longer.now it (served ∙ ap (λ (l : Link). l.served ++ it ∷ []) same) here

  committed_still : (course : Course) (sending : Sending) → is_committed_ran t.machine.links course sending ≡ true → is_committed_ran new.machine.links course sending ≡ true
  committed_still course sending here = by (option_map_or ends_committed sending.taken false) here
    where
      found : (link : Option Link) → link_at t.machine.links sending.connection ≡ link → option_map_or (ran_last course sending) link false ≡ true → option_map_or (ran_last course sending) (link_at new.machine.links sending.connection) false ≡ true
      found None there so = absurd (let none : ⊥ = cc in none)
      found (Some link) there so = last_still course sending link there so

      by : (test : Bool) → implies test (option_map_or (ran_last course sending) (link_at t.machine.links sending.connection) false) ≡ true → implies test (option_map_or (ran_last course sending) (link_at new.machine.links sending.connection) false) ≡ true
      by false so = refl
      by true so = found (link_at t.machine.links sending.connection) refl so

  abbrev stored_test : List Link → Course → Bool
  stored_test links course = list_all (is_committed_ran new.machine.links course) (commit_sendings course)

  module _ (who : ℕ) (step : HasStepped t.setting m who new.machine) where
    abbrev mine : Owner
    mine = record { client = who; place = length step.client.past }

    abbrev before : Course
    before = course_now t.setting who (length step.client.past) step.before

    abbrev sendings : List Sending
    sendings = (scan_by mine step.before.steps).sendings

    abbrev stored : Sending → Bool
    stored = is_committed_ran new.machine.links before

    old_runs : list_all (test_at t (runs_script_calls before)) (held_in before.steps) ≡ true
    old_runs = before_so t whole.orderly who new.machine step (λ course. list_all (test_at t (runs_script_calls course)) (held_in course.steps)) (scripts_ran t whole) (λ request. refl)

    old_its : list_all (is_its t before) (filter commits sendings) ≡ true
    old_its = before_so t whole.orderly who new.machine step (λ course. list_all (is_its t course) (commit_sendings course)) (all_its t whole) (λ request. refl)

    -- the entry that is there was run, and ends with it
    ran_there : (top : Sending) (answers : List Answer) → IsAnswered t whole.orderly whole.once.apart new who step top answers → is_its t before top ≡ true → has_entry t.entries top.ltxid ≡ true
        → option_map_or (ran_last before top) (link_at new.machine.links top.connection) false ≡ true
    ran_there top answers is its some =
        let found = any_all (λ entry. same_ltxid top.ltxid entry.ltxid) (is_there t whole) t.entries some (all_there t whole) in
        let equal : top.ltxid ≡ found.0.ltxid = (same_ltxid_decides top.ltxid found.0.ltxid).0 found.1.0 in
        let so : HasRun t whole before old_runs top its is.untaken found.0 = entry_ran t whole before old_runs top its is.untaken found.0 found.1.1 ((same_ltxid_decides found.0.ltxid top.ltxid).1 (sym equal)) in
        let over : slice_get (ran_by so.link).over top.ltxid.number ≡ Some (so.before ++ so.did ∷ []) = ap (λ (y : Ltxid). slice_get (ran_by so.link).over y.number) equal ∙ so.over in
        last_still before top so.link so.there
        (ap (λ (some_dids : Option (List ServedCall)). option_map_or (λ (dids : List ServedCall). option_map_or (λ did. owned_by before.owner did.sent && (did.sent.call == top.at)) (last_or None dids) false) some_dids false) over
        ∙ (ap (λ (last : Option ServedCall). option_map_or (λ did. owned_by before.owner did.sent && (did.sent.call == top.at)) last false) (last_pushed None so.before so.did)
        ∙ and_from (owned_by before.owner so.did.sent) (so.did.sent.call == top.at) so.own (eq_to so.did.sent.call top.at so.index)))

    ran_so : list_all stored (filter commits sendings) ≡ true → list_all stored (filter commits (scan_by mine step.after.steps).sendings) ≡ true
    ran_so all = after_so t whole new who step (λ sending. option_map_or (ran_last before sending) (link_at new.machine.links sending.connection) false) (is_its t before) old_its ran_there all

  keeps_stored : KeepsLost t whole.orderly new setting items left kind happens stored_test
  keeps_stored = record {
    others = λ course gone here. here;
    begins = λ who place request. refl;
    goes = λ who step keep gone here. ran_so who step here;
    ends = λ who step over gone here. ran_so who step here;
  }

ran_start : (document : Document) → commits_ran (traced_start document) ≡ true
ran_start document = resting_none (setting_of document) 1 (λ course. list_all (is_committed_ran [] course) (commit_sendings course)) document.clients

ran_event : (earlier after : Seen) (old new : Traced) (event : Event) (note : Note) (items left : List Served) → OneEvent earlier old event note items left after new → Invariant old → commits_ran old ≡ true → commits_ran new ≡ true
ran_event earlier after old new event note items left one inv here =
    let by : Followed old.setting old.machine event note items left new.machine = follow_happens old.setting old.machine event note items left new.machine one.follows in
    lost_kept old inv.orderly new one.setting items left by.kind by.happens (stored_test old inv new one.setting items left by.kind by.happens) (keeps_stored old inv new one.setting items left by.kind by.happens) inv.lost.gone
    (happens_step old.setting (at_event old.machine) items left by.kind new.machine by.happens)
    (weaker_all (λ course. list_all (is_committed_ran old.machine.links course) (commit_sendings course)) (λ course. list_all (is_committed_ran new.machine.links course) (commit_sendings course)) (courses_of old)
    (λ course all.
    weaker_all (is_committed_ran old.machine.links course) (is_committed_ran new.machine.links course) (commit_sendings course) (committed_still old inv new one.setting items left by.kind by.happens course) all) here)

pub runs_ran_last : RunsKeepInvariant → RunsRanLast
runs_ran_last keeps document _ _ _ _ _ calls (Begins seen start history horizon coupled) = ran_start document
runs_ran_last keeps document _ _ _ _ _ calls (GoesOn events notes items more earlier after old new event note reached one forgets) =
    ran_event earlier after old new event note more [] one (keeps document events notes items earlier old calls reached) (runs_ran_last keeps document events notes items earlier old calls reached)

pub whole_runs_ran_last : RunsKeepInvariant → WholeRunsRanLast
whole_runs_ran_last keeps document notes items seen t calls run =
    let so = finishing_reached document run.place notes items seen t run.finishing in runs_ran_last keeps document so.0 notes items seen t calls so.1
