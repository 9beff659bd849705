-- Each transaction of a report stands in its journal at most once: what the invariant says of the
-- state at the end of a run, said of its report.
use Rattle.std.proofs.Common.{◌≡◌, refl, sym, ap, subst, ◌∙◌, Bool, true, false, ℕ, suc, zero, ◌+◌, ◌&&◌, ◌||◌, drop, flat_map, length, map, take, List, [], ◌∷◌, ◌++◌, Some, ◌⊎◌, inl, inr, arith}
use Rattle.std.specs.Prelude.{◌==◌, count_by, get_or, nat_le, not, slice_get}
use Rattle.std.specs.List.{list_all, list_any}
use Rattle.std.specs.Option.{option_map_or}
use Rattle.std.proofs.Math.Seq.{drop-append_seam, take-append_seam}
use Rattle.std.proofs.lemmas.Bool.{and_parts, and_from, not-true, or_cases, or_left, or_right}
use Rattle.std.proofs.lemmas.List.Folds.{flat_map-map, list_all-append, list_any-append}
use Rattle.svc_values.specs.declared.entry.Entry.{Entry}
use Rattle.svc_values.specs.declared.entry.Ltxid.{Ltxid}
use Rattle.svc_values.specs.declared.entry.SessionId.{SessionId}
use Rattle.svc_values.specs.meaning.Identifiers.{is_of_session, same_ltxid}
use Rattle.svc_values.specs.SameLaws.{same_ltxid_decides}
use Rattle.outage_schedule.specs.declared.document.Client.{Client as Scripted}
use Rattle.outage_schedule.specs.declared.document.Document.{Document}
use Rattle.outage_schedule.specs.declared.document.Request.{Request}
use Rattle.outage_schedule.specs.declared.report.Report.{Report}
use Rattle.outage_schedule.specs.declared.request.RequestReport.{RequestReport}
use Rattle.outage_schedule.specs.declared.request.ShownCall.{ShownCall}
use Rattle.run_clauses.specs.meaning.Before.{journal_before}
use Rattle.run_clauses.specs.meaning.Copies.{Copies, copies_by_client, copies_of}
use Rattle.run_clauses.specs.meaning.Once.{all_copies_have_one, all_tried, copies_have_one, count_in, entries_differ, entries_tried_once, is_tried_once, no_list_has_two, request_ends, requests_end}
use Rattle.run_clauses.specs.meaning.Sessions.{is_foreign as is_of_outside, outside_sessions}
use Rattle.run_clauses.specs.meaning.Transactions.{each_request, requests_in, txns}
use Rattle.run_clauses.specs.meaning.Tried.{has_its_lists, holds, ids_differ, ids_tried, tried_differ, tried_fits}
use Rattle.run_clauses.specs.Tried.{Sending as Tried, tried_from}
use Rattle.server_model.specs.meaning.Base.{Base}
use Rattle.server_model.specs.Runs.{Server}
use Rattle.server_model.specs.Seen.{Seen}
use Rattle.world_model.specs.meaning.Clients.{Client, is_unfinished, reports_of, script_at}
use Rattle.world_model.specs.Coupled.{Coupled}
use Rattle.world_model.specs.Orderly.{Orderly}
use Rattle.invariant_laws.specs.KeptLaws.{WholeRunsKeepInvariant}
use Rattle.world_model.specs.meaning.Links.{Link}
use Rattle.world_model.specs.records.Number.{is_of_run, is_session}
use Rattle.invariant_laws.specs.Once.{Once, copies_have, copies_once, has_sending, is_completed_rightly, is_foreign, is_of_link, is_on_link, reverse_onto, tells_tried, tried_one, with_now}
use Rattle.once_laws.specs.OnceLaws.{ReportsAreOnce}
use Rattle.world_model.specs.Parts.{commit_sendings, implies, sendings_of}
use Rattle.world_model.specs.Reported.{IsReported}
use Rattle.world_model.specs.meaning.Settings.{Setting, setting_of}
use Rattle.world_model.specs.Traced.{Traced, Course, courses_of}
use Rattle.world_model.proofs.Offered.{weaker_all, implied, finishing_coupled, finishing_start, finishing_setting, eq_to, not_both}
use Rattle.invariant_laws.proofs.Offered.{any_all, each_flat, numbered_differ, any_sent, both_all, flat_tried, holds_once, is_apart, later_copies, later_differ, later_ends, later_few, no_copies, flat_all, is_under, lists_of, sent_of_tried, tried_of_sent}
use Rattle.once_laws.proofs.calls.LastPieces.{any_link}
use Rattle.once_laws.proofs.calls.OutcomesStored.{transcripts_pass}
use Rattle.once_laws.proofs.calls.OutsideTold.{outside_told}
use Rattle.once_laws.proofs.calls.RunEnds.{all_finished, all_over, all_reports, own_reports}

-- LISTS -------------------------------------------------------------------------------------------

-- a list for each part
as_many : (first : ℕ) (parts : List (List ShownCall)) (sendings : List Tried) → length (tried_from first parts sendings) ≡ length parts
as_many first [] sendings = refl
as_many first (part ∷ []) sendings = refl
as_many first (part ∷ next ∷ parts) sendings = let rest : length (tried_from (first + length part) (next ∷ parts) sendings) ≡ length (next ∷ parts) = as_many (first + length part) (next ∷ parts) sendings in ap suc rest

its_lists : (course : Course) → tells_tried course ≡ true → has_its_lists course.report ≡ true
its_lists course tells =
    eq_to (length course.report.tried) (length (txns course.report.calls)) (ap length (lists_of course tells) ∙ as_many 0 (txns course.report.calls) (map tried_one (reverse_onto (sendings_of course) [])))

-- what was sent stands in a list
sent_in_one : (x : Ltxid) (courses : List Course) → list_all tells_tried courses ≡ true → list_any (is_under x) (flat_map commit_sendings courses) ≡ true → list_any (λ ids. holds ids x) (flat_map (λ (course : Course). course.report.tried) courses) ≡ true
sent_in_one x [] tells any = absurd (let none : ⊥ = cc in none)
sent_in_one x (course ∷ courses) tells any =
    list_any-append (λ ids. holds ids x) course.report.tried (flat_map (λ (one : Course). one.report.tried) courses)
    ∙ by (or_cases (list_any (is_under x) (commit_sendings course)) (list_any (is_under x) (flat_map commit_sendings courses)) (sym (list_any-append (is_under x) (commit_sendings course) (flat_map commit_sendings courses)) ∙ any)) (λ later. sent_in_one x courses parts.1 later)
  where
    parts : (tells_tried course ≡ true) × (list_all tells_tried courses ≡ true)
    parts = and_parts (tells_tried course) (list_all tells_tried courses) tells

    by : (list_any (is_under x) (commit_sendings course) ≡ true) ⊎ (list_any (is_under x) (flat_map commit_sendings courses) ≡ true)
        → (list_any (is_under x) (flat_map commit_sendings courses) ≡ true → list_any (λ ids. holds ids x) (flat_map (λ (one : Course). one.report.tried) courses) ≡ true)
        → (list_any (λ ids. holds ids x) course.report.tried || list_any (λ ids. holds ids x) (flat_map (λ (one : Course). one.report.tried) courses)) ≡ true
    by (inl here) again = or_left (list_any (λ ids. holds ids x) course.report.tried) (list_any (λ ids. holds ids x) (flat_map (λ (one : Course). one.report.tried) courses)) (tried_of_sent course parts.0 x here)
    by (inr later) again = or_right (list_any (λ ids. holds ids x) course.report.tried) (list_any (λ ids. holds ids x) (flat_map (λ (one : Course). one.report.tried) courses)) (again later)

-- THE ENTRIES OF THE IMAGE ------------------------------------------------------------------------

module _ (t : Traced) (image : List Entry) (foreign : list_all (is_foreign t) image ≡ true) where
  abbrev is_on : Ltxid → Link → Bool
  is_on x link = option_map_or (λ session. is_of_session session x) link.session false

  -- what a request has as tried is of a connection, and so none of it is the image's
  apart_from : (course : Course) → tells_tried course ≡ true → list_all (is_on_link t) (commit_sendings course) ≡ true → list_all (is_apart image) course.report.tried ≡ true
  apart_from course tells on = each course.report.tried (λ x any. any)
    where
      never : (entry : Entry) → is_foreign t entry ≡ true → list_any (λ ids. holds ids entry.ltxid) course.report.tried ≡ true → ⊥
      never entry other any =
          let found = any_all (is_under entry.ltxid) (is_on_link t) (commit_sendings course) (sent_of_tried course tells entry.ltxid any) on in
          let same : entry.ltxid ≡ found.0.ltxid = (same_ltxid_decides entry.ltxid found.0.ltxid).0 (and_parts _ (same_ltxid entry.ltxid found.0.ltxid) found.1.0).1 in
          not_both (is_of_link t entry) (subst (λ (x : Ltxid). list_any (is_on x) t.machine.links ≡ true) (sym same) (any_link (is_on found.0.ltxid) t.machine.links found.0.connection found.1.1)) (not-true (is_of_link t entry) other)

      none : (ids : List Ltxid) (entries : List Entry) → ((x : Ltxid) → holds ids x ≡ true → list_any (λ one. holds one x) course.report.tried ≡ true) → list_all (is_foreign t) entries ≡ true → is_apart entries ids ≡ true
      none ids [] within all = refl
      none ids (entry ∷ entries) within all =
          let parts = and_parts (is_foreign t entry) (list_all (is_foreign t) entries) all in
          and_from (not (holds ids entry.ltxid)) (is_apart entries ids) (by (holds ids entry.ltxid) refl parts.0) (none ids entries within parts.1)
        where
          by : (held : Bool) → holds ids entry.ltxid ≡ held → is_foreign t entry ≡ true → not held ≡ true
          by false is other = refl
          by true is other = absurd (never entry other (within entry.ltxid is))

      each : (lists : List (List Ltxid)) → ((x : Ltxid) → list_any (λ ids. holds ids x) lists ≡ true → list_any (λ ids. holds ids x) course.report.tried ≡ true) → list_all (is_apart image) lists ≡ true
      each [] within = refl
      each (ids ∷ lists) within =
          and_from (is_apart image ids) (list_all (is_apart image) lists) (none ids image (λ x here. within x (or_left (holds ids x) (list_any (λ one. holds one x) lists) here)) foreign)
          (each lists (λ x later. within x (or_right (holds ids x) (list_any (λ one. holds one x) lists) later)))

-- COPIES ------------------------------------------------------------------------------------------

pub script_is : (clients : List Scripted) (index : ℕ) (client : Scripted) → slice_get clients index ≡ Some client → get_or (map (λ (one : Scripted). one.requests) clients) index [] ≡ client.requests
script_is [] index client at = absurd (let none : ⊥ = cc in none)
script_is (first ∷ clients) zero client at = let same : first ≡ client = cc in ap (λ (one : Scripted). one.requests) same
script_is (first ∷ clients) (suc index) client at = script_is clients index client at

module _ (t : Traced) (image gained : List Entry) (all_entries : t.entries ≡ image ++ gained) where
  abbrev of_gained : List Copies → Bool
  of_gained copies = list_all (copies_have_one gained) copies

  absent : (scripts : List Scripted) → list_all of_gained (copies_by_client scripts []) ≡ true
  absent [] = refl
  absent (script ∷ scripts) = and_from (of_gained (copies_of script.requests [])) (list_all of_gained (copies_by_client scripts [])) (no_copies gained script.requests) (absent scripts)

  -- client by client
  copies_gained : (scripts : List Scripted) (clients : List Client) (number : ℕ)
      → ((index : ℕ) (script : Scripted) → slice_get scripts index ≡ Some script → script_at t.setting (number + index) ≡ script.requests)
      → ((index : ℕ) (client : Client) → slice_get clients index ≡ Some client → with_now t (number + index) ≡ reports_of client.past)
      → copies_have t number clients ≡ true → list_all of_gained (copies_by_client scripts (map (λ (client : Client). reports_of client.past) clients)) ≡ true
  copies_gained [] clients number is_script is_own have = refl
  copies_gained (script ∷ scripts) [] number is_script is_own have = absent (script ∷ scripts)
  copies_gained (script ∷ scripts) (client ∷ clients) number is_script is_own have =
      let parts = and_parts (list_all (copies_have_one t.entries) (copies_of (script_at t.setting number) (with_now t number))) (copies_have t (number + 1) clients) have in
      let here : number + 0 ≡ number = omega arith in
      let its : copies_of (script_at t.setting number) (with_now t number) ≡ copies_of script.requests (reports_of client.past) =
      ap (λ (n : ℕ). copies_of (script_at t.setting n) (with_now t n)) (sym here)
      ∙ (ap (λ (requests : List Request). copies_of requests (with_now t (number + 0))) (is_script 0 script refl) ∙ ap (copies_of script.requests) (is_own 0 client refl)) in
      and_from (of_gained (copies_of script.requests (reports_of client.past))) (list_all of_gained (copies_by_client scripts (map (λ (one : Client). reports_of one.past) clients)))
      (weaker_all (copies_have_one (image ++ gained)) (copies_have_one gained) (copies_of script.requests (reports_of client.past)) (later_copies image gained)
      (subst (λ (entries : List Entry). list_all (copies_have_one entries) (copies_of script.requests (reports_of client.past)) ≡ true) all_entries (subst (λ (copies : List Copies). list_all (copies_have_one t.entries) copies ≡ true) its parts.0)))
      (copies_gained scripts clients (number + 1)
      (λ index one at. let next : (number + 1) + index ≡ number + suc index = omega arith in ap (script_at t.setting) next ∙ is_script (suc index) one at)
      (λ index one at. let next : (number + 1) + index ≡ number + suc index = omega arith in ap (with_now t) next ∙ is_own (suc index) one at)
      parts.1)

-- THE REPORT --------------------------------------------------------------------------------------

module _ (document : Document) (report : Report) (seen : Seen) (t : Traced) (server : Server) (is : IsReported document report seen t server)
    (inv : Orderly t) (so : Once t) where
  abbrev image : List Entry
  image = (journal_before document).entries

  coupled : Coupled seen t
  coupled = finishing_coupled document is.run.place report.notes report.served seen t is.run.finishing

  all_entries : t.entries ≡ image ++ report.entries
  all_entries = coupled.entries ∙ is.gained

  count : t.image ≡ length image
  count = coupled.image ∙ ap (λ (base : Base). length base.entries) (finishing_start document is.run.place report.notes report.served seen t is.run.finishing)

  first_are : take t.image t.entries ≡ image
  first_are = ap (λ (n : ℕ). take n t.entries) count ∙ (ap (take (length image)) all_entries ∙ take-append_seam image report.entries)

  pub later_are : drop t.image t.entries ≡ report.entries
  later_are = ap (λ (n : ℕ). drop n t.entries) count ∙ (ap (drop (length image)) all_entries ∙ drop-append_seam image report.entries)

  finished : list_any is_unfinished t.machine.clients ≡ false
  finished = all_finished t.machine is.run.place is.run.over

  reports_are : map (λ (course : Course). course.report) (courses_of t) ≡ requests_in report
  reports_are = all_reports t.setting 1 t.machine.clients finished ∙ ap (flat_map (λ (transcript : List RequestReport). transcript)) (sym is.clients)

  -- what holds of the report of each request
  each : (test : RequestReport → Bool) → list_all (λ (course : Course). test course.report) (courses_of t) ≡ true → each_request test report ≡ true
  each test all = ap (list_all (list_all test)) is.clients ∙ transcripts_pass test t.setting 1 t.machine.clients all

  -- what the reports have, all together
  together : {A : Type 0} (parts : RequestReport → List A) → flat_map (λ (course : Course). parts course.report) (courses_of t) ≡ flat_map parts (requests_in report)
  together parts = sym (flat_map-map parts (λ (course : Course). course.report) (courses_of t)) ∙ ap (flat_map parts) reports_are

  differ : tried_differ report ≡ true
  differ = subst (λ (ids : List Ltxid). ids_differ ids ≡ true) (together ids_tried) so.lists

  fits : tried_fits report ≡ true
  fits = and_from (each_request has_its_lists report) (tried_differ report) (each has_its_lists (weaker_all tells_tried (λ (course : Course). has_its_lists course.report) (courses_of t) its_lists so.tried)) differ

  -- an entry of the run
  one_tried : (entry : Entry) → (is_of_run t entry && implies (is_of_link t entry) (has_sending t entry)) ≡ true → is_tried_once (outside_sessions report.notes) (all_tried report) entry ≡ true
  one_tried entry here = by (or_cases (is_of_link t entry) (list_any (is_session entry.ltxid) t.outside) parts.0)
    where
      parts : (is_of_run t entry ≡ true) × (implies (is_of_link t entry) (has_sending t entry) ≡ true)
      parts = and_parts (is_of_run t entry) (implies (is_of_link t entry) (has_sending t entry)) here

      by : (is_of_link t entry ≡ true) ⊎ (list_any (is_session entry.ltxid) t.outside ≡ true) → is_tried_once (outside_sessions report.notes) (all_tried report) entry ≡ true
      by (inr outside) =
          or_left (is_of_outside (outside_sessions report.notes) entry.ltxid) (count_by (λ ids. holds ids entry.ltxid) (all_tried report) == 1)
          (subst (λ (sessions : List SessionId). list_any (is_session entry.ltxid) sessions ≡ true) (outside_told document is.run.place report.notes report.served seen t is.run.finishing) outside)
      by (inl mine) =
          or_right (is_of_outside (outside_sessions report.notes) entry.ltxid) (count_by (λ ids. holds ids entry.ltxid) (all_tried report) == 1)
          (eq_to (count_by (λ ids. holds ids entry.ltxid) (all_tried report)) 1
          (holds_once entry.ltxid (all_tried report) (subst (λ (ids : List Ltxid). ids_differ ids ≡ true) (sym (flat_tried (requests_in report))) differ)
          (subst (λ (lists : List (List Ltxid)). list_any (λ ids. holds ids entry.ltxid) lists ≡ true) (together (λ request. request.tried))
          (sent_in_one entry.ltxid (courses_of t) so.tried (any_sent t entry (implied (is_of_link t entry) (has_sending t entry) mine parts.1))))))

  tried_once : entries_tried_once report ≡ true
  tried_once =
      weaker_all (λ entry. is_of_run t entry && implies (is_of_link t entry) (has_sending t entry)) (is_tried_once (outside_sessions report.notes) (all_tried report)) report.entries one_tried
      (both_all (is_of_run t) (λ entry. implies (is_of_link t entry) (has_sending t entry)) report.entries
      (subst (λ (entries : List Entry). list_all (is_of_run t) entries ≡ true) later_are (and_parts _ (list_all (is_of_run t) (drop t.image t.entries)) inv.number.known).1)
      (and_parts (list_all sent image) (list_all sent report.entries) (sym (list_all-append sent image report.entries) ∙ subst (λ (entries : List Entry). list_all sent entries ≡ true) all_entries so.entries)).1)
    where
      sent : Entry → Bool
      sent entry = implies (is_of_link t entry) (has_sending t entry)

  entries_apart : entries_differ report.entries ≡ true
  entries_apart = later_differ image report.entries (subst (λ (entries : List Entry). entries_differ entries ≡ true) all_entries (numbered_differ [] t.entries inv.number.entries))

  none_has_two : no_list_has_two report ≡ true
  none_has_two =
      subst (λ (lists : List (List Ltxid)). list_all few lists ≡ true) (together (λ request. request.tried))
      (flat_all few (λ (course : Course). course.report.tried) (courses_of t)
      ∙ weaker_all (λ (course : Course). list_all few_in_all course.report.tried) (λ (course : Course). list_all few course.report.tried) (courses_of t)
      (λ course all. weaker_all few_in_all few course.report.tried (λ ids one. later_few image report.entries ids 1 (subst (λ (entries : List Entry). nat_le (count_in entries ids) 1 ≡ true) all_entries one)) all) so.one)
    where
      few_in_all : List Ltxid → Bool
      few_in_all ids = nat_le (count_in t.entries ids) 1

      few : List Ltxid → Bool
      few ids = nat_le (count_in report.entries ids) 1

  copies_one : copies_once t ≡ true → all_copies_have_one document report ≡ true
  copies_one have =
      subst (λ (transcripts : List (List RequestReport)). list_all (list_all (copies_have_one report.entries)) (copies_by_client document.clients transcripts) ≡ true) (sym is.clients)
      (copies_gained t image report.entries all_entries document.clients t.machine.clients 1
      (λ index script at. ap (λ (setting : Setting). script_at setting (1 + index)) (finishing_setting document is.run.place report.notes report.served seen t is.run.finishing)
      ∙ (ap (script_at (setting_of document)) (first_number index) ∙ script_is document.clients index script at))
      (λ index client at. own_reports t.setting (1 + index) 1 t.machine.clients index client finished at refl) have)
    where
      first_number : (index : ℕ) → 1 + index ≡ suc index
      first_number index = omega arith

  ends : requests_end report ≡ true
  ends =
      each (request_ends report.entries)
      (weaker_all (λ course. implies course.is_over (request_ends t.entries course.report) && (course.is_over && (tells_tried course && list_all (is_on_link t) (commit_sendings course)))) (λ course. request_ends report.entries course.report) (courses_of t) one
      (both_all (λ course. implies course.is_over (request_ends t.entries course.report)) (λ course. course.is_over && (tells_tried course && list_all (is_on_link t) (commit_sendings course))) (courses_of t) so.ends
      (both_all (λ course. course.is_over) (λ course. tells_tried course && list_all (is_on_link t) (commit_sendings course)) (courses_of t) (all_over t.setting 1 t.machine.clients finished)
      (both_all tells_tried (λ course. list_all (is_on_link t) (commit_sendings course)) (courses_of t) so.tried (each_flat (is_on_link t) commit_sendings (courses_of t) so.links)))))
    where
      foreign : list_all (is_foreign t) image ≡ true
      foreign = subst (λ (entries : List Entry). list_all (is_foreign t) entries ≡ true) first_are (and_parts (list_all (is_foreign t) (take t.image t.entries)) (list_all is_completed_rightly (drop t.image t.entries)) so.completed).0

      one : (course : Course) → (implies course.is_over (request_ends t.entries course.report) && (course.is_over && (tells_tried course && list_all (is_on_link t) (commit_sendings course)))) ≡ true → request_ends report.entries course.report ≡ true
      one course here =
          let first = and_parts (implies course.is_over (request_ends t.entries course.report)) (course.is_over && (tells_tried course && list_all (is_on_link t) (commit_sendings course))) here in
          let next = and_parts course.is_over (tells_tried course && list_all (is_on_link t) (commit_sendings course)) first.1 in
          let last = and_parts (tells_tried course) (list_all (is_on_link t) (commit_sendings course)) next.1 in
          later_ends image report.entries course.report (apart_from t image foreign course last.0 last.1)
          (subst (λ (entries : List Entry). request_ends entries course.report ≡ true) all_entries (implied course.is_over (request_ends t.entries course.report) next.0 first.0))

pub reports_once : WholeRunsKeepInvariant → ReportsAreOnce
reports_once keeps document report seen t server calls is =
    let inv = keeps document report.notes report.served seen t calls is.run in
    and_from (tried_fits report) _ (fits document report seen t server is inv.orderly inv.once)
    (and_from (entries_tried_once report) _ (tried_once document report seen t server is inv.orderly inv.once)
    (and_from (entries_differ report.entries) _ (entries_apart document report seen t server is inv.orderly inv.once)
    (and_from (no_list_has_two report) _ (none_has_two document report seen t server is inv.orderly inv.once)
    (and_from (all_copies_have_one document report) (requests_end report) (copies_one document report seen t server is inv.orderly inv.once inv.once.copies) (ends document report seen t server is inv.orderly inv.once)))))
