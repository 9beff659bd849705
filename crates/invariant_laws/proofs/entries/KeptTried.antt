-- Of Once: what a report has as tried is what the sendings of its request tell, and no identifier
-- stands there twice, at the start and behind each event.
use Rattle.std.proofs.Common.{◌≡◌, refl, sym, subst, ◌∙◌, true, ℕ, length, List}
use Rattle.std.specs.Prelude.{◌==◌, ◌&&◌}
use Rattle.std.specs.Cmp.Lexicographic.{pointwise}
use Rattle.std.specs.List.{list_all}
use Rattle.std.proofs.lemmas.Bool.{and_parts}
use Rattle.svc_values.specs.declared.entry.Ltxid.{Ltxid}
use Rattle.svc_values.specs.meaning.Identifiers.{same_ltxid}
use Rattle.client_model.specs.meaning.Tried.{Trying, trying_of, tried_of}
use Rattle.run_clauses.specs.Tried.{tried_of as told_of}
use Rattle.world_model.specs.meaning.Clients.{Client, past_of}
use Rattle.world_model.specs.records.Hold.{are_by_held}
use Rattle.world_model.specs.Orderly.{Orderly}
use Rattle.invariant_laws.specs.KeptLaws.{IsKeptOfAll}
use Rattle.invariant_laws.specs.Once.{is_noted, note_sendings, notes_sendings, tell_tried, tells_tried, transaction_at, tried_apart}
use Rattle.world_model.specs.Parts.{Scan, scan_of}
use Rattle.world_model.specs.Reached.{traced_start}
use Rattle.world_model.specs.meaning.Settings.{Setting, setting_of}
use Rattle.world_model.specs.Traced.{Traced, Course, course_now, course_over, courses_of, courses_of_clients}
use Rattle.world_model.specs.Words.{dones_of}
use Rattle.world_model.proofs.Offered.{all_step, Followed, follow_happens, at_event, by_held_law, resting_none, ltxid_self, each_self, eq_from}
use Rattle.invariant_laws.proofs.sendings.KeptApart.{apart_law}
use Rattle.invariant_laws.proofs.entries.KeptNoted.{mine_noted}
use Rattle.invariant_laws.proofs.losses.LostSteps.{before_so}
use Rattle.invariant_laws.proofs.entries.NotedLists.{told}
use Rattle.invariant_laws.proofs.entries.NotedParts.{lists_told}
use Rattle.invariant_laws.proofs.talks.Placing.{Moving, Quietly, Stepping, moving}
use Rattle.invariant_laws.proofs.entries.TriedApart.{lists_apart}

-- of a request that notes its sendings as they are
tells_so : (course : Course) → course.report.tried ≡ tried_of (dones_of course.steps) → notes_sendings course ≡ true → tells_tried course ≡ true
tells_so course is notes =
    let trying : Trying = trying_of (dones_of course.steps) in
    let scan : Scan = scan_of course in
    let count : ℕ = length course.report.calls in
    let one = and_parts (scan.shown == count) ((trying.over == transaction_at course.report.calls count) && pointwise (is_noted course.report.calls) trying.sendings scan.sendings) notes in
    let two = and_parts (trying.over == transaction_at course.report.calls count) (pointwise (is_noted course.report.calls) trying.sendings scan.sendings) one.1 in
    let lists : course.report.tried ≡ told_of course.report.calls (told course.report.calls trying.sendings scan.sendings two.1) =
    is ∙ lists_told course.report.calls trying.sendings scan.sendings two.1 trying.over (eq_from trying.over (transaction_at course.report.calls count) two.0) in
    subst (λ (all : List (List Ltxid)). pointwise (pointwise same_ltxid) course.report.tried all ≡ true) lists (each_self (pointwise same_ltxid) (each_self same_ltxid ltxid_self) course.report.tried)

by_step : (t : Traced) (inv : Orderly t) (new : Traced) → are_by_held new ≡ true → Moving t.setting (at_event t.machine) new.machine → note_sendings t ≡ true → tell_tried t ≡ true
    → list_all tells_tried (courses_of_clients t.setting 1 new.machine.clients) ≡ true
by_step t inv new by_held (Quietly same stays) notes all = subst (λ (clients : List Client). list_all tells_tried (courses_of_clients t.setting 1 clients) ≡ true) (sym same) all
by_step t inv new by_held (Stepping who step) notes all =
    let here : notes_sendings (course_now t.setting who (length step.client.past) step.before) ≡ true = before_so t inv who new.machine step notes_sendings notes (λ request. refl) in
    all_step t.setting tells_tried tells_tried (record { client = who; place = length step.client.past }) (λ course differs so. so) (at_event t.machine) who new.machine step refl
    (λ keep. tells_so (course_now t.setting who (length step.client.past) step.after) refl (mine_noted t inv new by_held who step here))
    (λ over. tells_so (course_over who (length step.client.past) (past_of t.setting.terms step.after)) refl (mine_noted t inv new by_held who step here)) all

pub tried_law : IsKeptOfAll tell_tried
tried_law = record {
  at_start = λ document. resting_none (setting_of document) 1 tells_tried document.clients;
  at_event = λ before after old new event note items left one inv.
      let by : Followed old.setting old.machine event note items left new.machine = follow_happens old.setting old.machine event note items left new.machine one.follows in
      subst (λ (setting : Setting). list_all tells_tried (courses_of_clients setting 1 new.machine.clients) ≡ true) (sym one.setting)
      (by_step old inv.orderly new (by_held_law.at_event before after old new event note items left one inv.orderly) (moving old.setting (at_event old.machine) items left by.kind new.machine by.happens) inv.once.noted inv.once.tried);
}

-- and no identifier stands there twice
pub lists_law : IsKeptOfAll tried_apart
lists_law = record {
  at_start = λ document. lists_apart (courses_of (traced_start document)) (tried_law.at_start document) (apart_law.at_start document);
  at_event = λ before after old new event note items left one inv.
      lists_apart (courses_of new) (tried_law.at_event before after old new event note items left one inv) (apart_law.at_event before after old new event note items left one inv);
}
