-- A sending that was answered Committed has an entry with the calls of the script that end with the
-- one that was sent, wherever a run has come to.
use Rattle.std.proofs.Common.{◌≡◌, refl, sym, ap, subst, ◌∙◌, Bool, true, false, ℕ, ◌&&◌, ◌||◌, filter, length, List, [], ◌++◌, Some}
use Rattle.std.specs.Prelude.{not, is_some}
use Rattle.std.specs.List.{list_all, list_any}
use Rattle.std.specs.Option.{option_map_or}
use Rattle.std.proofs.lemmas.Bool.{and_from, or_left}
use Rattle.std.proofs.lemmas.List.Folds.{list_any-append}
use Rattle.svc_values.specs.declared.answer.Answer.{Answer}
use Rattle.svc_values.specs.declared.entry.Entry.{Entry}
use Rattle.svc_values.specs.meaning.Endings.{ends_committed}
use Rattle.svc_values.specs.meaning.Identifiers.{same_ltxid}
use Rattle.svc_values.specs.SameLaws.{same_ltxid_decides}
use Rattle.outage_schedule.specs.declared.document.Document.{Document}
use Rattle.outage_schedule.specs.declared.document.Request.{Request}
use Rattle.outage_schedule.specs.declared.event.Event.{Event}
use Rattle.outage_schedule.specs.declared.item.Served.{Served}
use Rattle.outage_schedule.specs.declared.note.Note.{Note}
use Rattle.server_model.specs.Seen.{Seen}
use Rattle.world_model.specs.meaning.Frames.{Owner}
use Rattle.invariant_laws.specs.Invariant.{Invariant}
use Rattle.invariant_laws.specs.KeptLaws.{RunsKeepInvariant}
use Rattle.world_model.specs.meaning.Links.{Link}
use Rattle.world_model.specs.meaning.Machines.{Machine}
use Rattle.world_model.specs.meaning.Matching.{Noted}
use Rattle.world_model.specs.OneEvent.{OneEvent}
use Rattle.world_model.specs.Parts.{Sending, commit_sendings, has_entry, implies}
use Rattle.world_model.specs.Reached.{traced_start, Begins, GoesOn}
use Rattle.invariant_laws.specs.Same.{committed_entries_known, ends_with_sent, has_script_entry, is_committed_stored, is_open_stored}
use Rattle.invariant_laws.specs.SameLaws.{RunsStoreScripts, WholeRunsStoreScripts}
use Rattle.world_model.specs.meaning.Settings.{setting_of}
use Rattle.world_model.specs.Traced.{Traced, Course, course_now, courses_of}
use Rattle.world_model.proofs.Offered.{weaker_all, HasStepped, happens_step, Followed, follow_happens, at_event, resting_none, implied, any_with, Happens, finishing_reached, scan_by, request_after, or_second}
use Rattle.invariant_laws.proofs.Offered.{AnsweringIsAnswered as IsAnswered, apart_steps_commits as commits, KeepsLost, lost_kept, before_so}
use Rattle.same_laws.proofs.CommittedStay.{after_so}
use Rattle.once_laws.proofs.Offered.{open_known}

-- more entries
more_stored : (entries more : List Entry) (course : Course) (sending : Sending) → is_committed_stored entries course sending ≡ true → is_committed_stored (entries ++ more) course sending ≡ true
more_stored entries more course sending = by (option_map_or ends_committed sending.taken false)
  where
    by : (test : Bool) → implies test (has_script_entry entries course sending) ≡ true → implies test (has_script_entry (entries ++ more) course sending) ≡ true
    by false is = refl
    by true is =
        let test : Entry → Bool = λ entry. same_ltxid sending.ltxid entry.ltxid && ends_with_sent course sending entry in
        list_any-append test entries more ∙ or_left (has_script_entry entries course sending) (has_script_entry more course sending) is

module _ (t : Traced) (whole : Invariant t) (new : Traced) (setting : new.setting ≡ t.setting) (items left : List Served) (kind : Noted) (happens : Happens t.setting (at_event t.machine) items left kind new.machine) (more : List Entry)
    (entries : new.entries ≡ t.entries ++ more) where
  abbrev m : Machine
  m = at_event t.machine

  abbrev stored_test : List Link → Course → Bool
  stored_test links course = list_all (is_committed_stored new.entries course) (commit_sendings course)

  module _ (who : ℕ) (step : HasStepped t.setting m who new.machine) where
    abbrev mine : Owner
    mine = record { client = who; place = length step.client.past }

    abbrev before : Course
    before = course_now t.setting who (length step.client.past) step.before

    abbrev sendings : List Sending
    sendings = (scan_by mine step.before.steps).sendings

    abbrev stored : Sending → Bool
    stored = is_committed_stored new.entries before

    old_open : list_all (is_open_stored t before) (filter commits sendings) ≡ true
    old_open = before_so t whole.orderly who new.machine step (λ course. list_all (is_open_stored t course) (commit_sendings course)) (open_known t whole) (λ request. refl)

    has_it : (top : Sending) (answers : List Answer) → IsAnswered t whole.orderly whole.once.apart new who step top answers → is_open_stored t before top ≡ true → has_entry t.entries top.ltxid ≡ true → has_script_entry new.entries before (record top { taken = Some answers }) ≡ true
    has_it top answers is opens there =
        ap (λ (all : List Entry). has_script_entry all before (record top { taken = Some answers })) entries
        ∙ (list_any-append found t.entries more
        ∙ or_left (list_any found t.entries) (list_any found more)
        (any_with (λ entry. same_ltxid top.ltxid entry.ltxid) (λ entry. not (same_ltxid entry.ltxid top.ltxid) || ends_with_sent before top entry) found t.entries joins there all_so))
      where
        found : Entry → Bool
        found entry = same_ltxid top.ltxid entry.ltxid && ends_with_sent before (record top { taken = Some answers }) entry

        all_so : list_all (λ entry. not (same_ltxid entry.ltxid top.ltxid) || ends_with_sent before top entry) t.entries ≡ true
        all_so = or_second (is_some top.taken) (list_all (λ entry. not (same_ltxid entry.ltxid top.ltxid) || ends_with_sent before top entry) t.entries) (ap is_some is.untaken) opens

        joins : (entry : Entry) → same_ltxid top.ltxid entry.ltxid ≡ true → (not (same_ltxid entry.ltxid top.ltxid) || ends_with_sent before top entry) ≡ true → found entry ≡ true
        joins entry same known =
            and_from (same_ltxid top.ltxid entry.ltxid) (ends_with_sent before top entry) same
            (implied (same_ltxid entry.ltxid top.ltxid) (ends_with_sent before top entry) ((same_ltxid_decides entry.ltxid top.ltxid).1 (sym ((same_ltxid_decides top.ltxid entry.ltxid).0 same))) known)

    step_stored : list_all stored (filter commits sendings) ≡ true → list_all (is_committed_stored new.entries (course_now t.setting who (length step.client.past) step.after)) (filter commits (scan_by mine step.after.steps).sendings) ≡ true
    step_stored all =
        subst (λ (request : Request). list_all (is_committed_stored new.entries (record before { request = request })) (filter commits (scan_by mine step.after.steps).sendings) ≡ true)
        (sym (request_after t.setting m whole.orderly.script.talks who new.machine step))
        (after_so t whole new who step (has_script_entry new.entries before) (is_open_stored t before) old_open has_it all)

  keeps_stored : KeepsLost t whole.orderly new setting items left kind happens stored_test
  keeps_stored = record {
    others = λ course gone here. here;
    begins = λ who place request. refl;
    goes = λ who step keep gone here. step_stored who step here;
    ends = λ who step over gone here. step_stored who step here;
  }

stored_start : (document : Document) → committed_entries_known (traced_start document) ≡ true
stored_start document = resting_none (setting_of document) 1 (λ course. list_all (is_committed_stored (traced_start document).entries course) (commit_sendings course)) document.clients

stored_event : (earlier after : Seen) (old new : Traced) (event : Event) (note : Note) (items left : List Served) → OneEvent earlier old event note items left after new → Invariant old → committed_entries_known old ≡ true → committed_entries_known new ≡ true
stored_event earlier after old new event note items left one inv here =
    let by : Followed old.setting old.machine event note items left new.machine = follow_happens old.setting old.machine event note items left new.machine one.follows in
    lost_kept old inv.orderly new one.setting items left by.kind by.happens (stored_test old inv new one.setting items left by.kind by.happens one.more_entries one.entries)
    (keeps_stored old inv new one.setting items left by.kind by.happens one.more_entries one.entries) inv.lost.gone (happens_step old.setting (at_event old.machine) items left by.kind new.machine by.happens)
    (weaker_all (λ course. list_all (is_committed_stored old.entries course) (commit_sendings course)) (λ course. list_all (is_committed_stored new.entries course) (commit_sendings course)) (courses_of old)
    (λ course all.
    weaker_all (is_committed_stored old.entries course) (is_committed_stored new.entries course) (commit_sendings course)
    (λ sending so. ap (λ (entries : List Entry). is_committed_stored entries course sending) one.entries ∙ more_stored old.entries one.more_entries course sending so) all) here)

pub runs_store : RunsKeepInvariant → RunsStoreScripts
runs_store keeps document _ _ _ _ _ calls (Begins seen start history horizon coupled) = stored_start document
runs_store keeps document _ _ _ _ _ calls (GoesOn events notes items more earlier after old new event note reached one forgets) =
    stored_event earlier after old new event note more [] one (keeps document events notes items earlier old calls reached) (runs_store keeps document events notes items earlier old calls reached)

pub whole_runs_store : RunsKeepInvariant → WholeRunsStoreScripts
whole_runs_store keeps document notes items seen t calls run =
    let so = finishing_reached document run.place notes items seen t run.finishing in runs_store keeps document so.0 notes items seen t calls so.1
