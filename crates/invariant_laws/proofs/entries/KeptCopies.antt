-- Of Once: over all copies of a request there is one entry at most, and it is of the last one. At
-- the start and behind each event.
use Rattle.std.proofs.Common.{◌≡◌, refl, sym, ap, subst, ◌∙◌, Bool, true, false, ℕ, suc, zero, ◌+◌, ◌<◌, ◌&&◌, append_assoc, filter, length, List, [], ◌∷◌, ◌++◌, map, Option, Some, None, if◌then◌else◌, arith}
use Rattle.std.specs.Prelude.{◌==◌, nat_le, slice_get}
use Rattle.std.specs.List.{list_all}
use Rattle.std.specs.Option.{option_map_or}
use Rattle.std.proofs.lemmas.Bool.{and_parts, and_from}
use Rattle.std.proofs.lemmas.List.{append-nil}
use Rattle.std.proofs.lemmas.List.Elements.{filter-append}
use Rattle.commit_log.specs.Keeping.{EachKeeps}
use Rattle.svc_values.specs.declared.call.Call.{Call}
use Rattle.svc_values.specs.declared.entry.Entry.{Entry}
use Rattle.svc_values.specs.meaning.Same.{same_calls}
use Rattle.svc_values.specs.SameLaws.{same_calls_decide}
use Rattle.outage_schedule.specs.declared.document.Client.{Client as Scripted}
use Rattle.outage_schedule.specs.declared.document.Document.{Document}
use Rattle.outage_schedule.specs.declared.document.Request.{Request}
use Rattle.outage_schedule.specs.declared.request.RequestReport.{RequestReport}
use Rattle.run_clauses.specs.meaning.Copies.{Copies, copies_of, may_be_repeated, next_of}
use Rattle.run_clauses.specs.meaning.Once.{copies_have_one, entries_in, request_ends}
use Rattle.run_clauses.specs.meaning.Tried.{ids_tried}
use Rattle.server_model.specs.Laws.{EntryNumbers}
use Rattle.world_model.specs.meaning.Clients.{Past, Doing, Client, reports_of, resting, script_at}
use Rattle.invariant_laws.specs.KeptLaws.{IsKeptOfAll}
use Rattle.invariant_laws.specs.Lost.{lost_links}
use Rattle.world_model.specs.records.Number.{entries_numbered, none_blocked}
use Rattle.invariant_laws.specs.Once.{all_but_last, all_end, all_placed, are_placed, copies_have, copies_once, earlier_settled, ends_rightly, ends_so, is_left_lost, is_placed, note_sendings, notes_sendings, over_ends, tell_tried, tells_tried, with_now}
use Rattle.world_model.specs.Parts.{commit_sendings, implies, sendings_of}
use Rattle.world_model.specs.Reached.{traced_start}
use Rattle.world_model.specs.records.Ready.{is_one_transaction, is_right_request, is_rightly_repeated}
use Rattle.world_model.specs.records.Script.{follow_scripts, now_or_next, past_follows, same_request}
use Rattle.world_model.specs.meaning.Settings.{Setting}
use Rattle.world_model.specs.Traced.{Traced, Course, course_now, course_over, courses_from, courses_of, courses_of_clients}
use Rattle.world_model.specs.Words.{held_in}
use Rattle.world_model.proofs.Offered.{append_all, filter_all, weaker_all, script_all, entries_law, unblocked_law, of_document, rightly_repeated, implied, follows_get, scripts_law, eq_to, le_to, ne_back, ne_to}
use Rattle.invariant_laws.proofs.sendings.ApartSteps.{commits}
use Rattle.invariant_laws.proofs.entries.CopiesEntries.{are_full, full_last, is_clear, is_few, last_few, one_entry, one_last}
use Rattle.invariant_laws.proofs.entries.CopiesFew.{IsWhole, has_few, has_none}
use Rattle.invariant_laws.proofs.entries.CopiesOf.{are_repeated, copies_repeated, one_copy, requests_all}
use Rattle.invariant_laws.proofs.entries.EntriesFew.{numbered_differ}
use Rattle.invariant_laws.proofs.entries.KeptEnded.{ended_law}
use Rattle.invariant_laws.proofs.entries.KeptNoted.{noted_law}
use Rattle.invariant_laws.proofs.entries.KeptOver.{over_law}
use Rattle.invariant_laws.proofs.sendings.KeptPlaced.{placed_law}
use Rattle.invariant_laws.proofs.sendings.KeptSettled.{settled_law}
use Rattle.invariant_laws.proofs.entries.KeptTried.{tried_law}
use Rattle.invariant_laws.proofs.losses.LostKept.{both_all}
use Rattle.invariant_laws.proofs.entries.OnceLists.{no_copies}

-- EACH REQUEST ------------------------------------------------------------------------------------

-- it has one entry at most, and none where it is over and is submitted again
abbrev is_right : Traced → Course → Bool
is_right t course = is_few t.entries course.request.calls course.report && implies course.is_over (is_clear t.entries course.request.calls course.report)

are_right : (t : Traced) → none_blocked t ≡ true → entries_numbered t ≡ true → tell_tried t ≡ true → note_sendings t ≡ true → earlier_settled t ≡ true → all_placed t ≡ true → all_end t ≡ true → over_ends t ≡ true → list_all (is_right t) (courses_of t) ≡ true
are_right t unblocked numbered tells notes settled placed ended over =
    weaker_all so (is_right t) (courses_of t) one
    (both_all tells_tried behind_told (courses_of t) tells
    (both_all notes_sendings behind_noted (courses_of t) notes
    (both_all settles behind_settled (courses_of t) settled
    (both_all are_placed behind_placed (courses_of t) placed (both_all (ends_rightly t.entries) ends_over (courses_of t) ended over)))))
  where
    settles : Course → Bool
    settles course = all_but_last t course.report.calls (commit_sendings course)

    ends_over : Course → Bool
    ends_over course = implies course.is_over (request_ends t.entries course.report)

    behind_placed : Course → Bool
    behind_placed course = ends_rightly t.entries course && ends_over course

    behind_settled : Course → Bool
    behind_settled course = are_placed course && behind_placed course

    behind_noted : Course → Bool
    behind_noted course = settles course && behind_settled course

    behind_told : Course → Bool
    behind_told course = notes_sendings course && behind_noted course

    so : Course → Bool
    so course = tells_tried course && behind_told course

    one : (course : Course) → so course ≡ true → is_right t course ≡ true
    one course here = and_from (is_few t.entries course.request.calls course.report) (implies course.is_over (is_clear t.entries course.request.calls course.report)) (few (is_one_transaction course.request.calls) refl) (clear course.is_over refl)
      where
        told : (tells_tried course ≡ true) × (behind_told course ≡ true)
        told = and_parts (tells_tried course) (behind_told course) here

        noted : (notes_sendings course ≡ true) × (behind_noted course ≡ true)
        noted = and_parts (notes_sendings course) (behind_noted course) told.1

        settled_so : (settles course ≡ true) × (behind_settled course ≡ true)
        settled_so = and_parts (settles course) (behind_settled course) noted.1

        placed_so : (are_placed course ≡ true) × (behind_placed course ≡ true)
        placed_so = and_parts (are_placed course) (behind_placed course) settled_so.1

        ended_so : (ends_rightly t.entries course ≡ true) × (ends_over course ≡ true)
        ended_so = and_parts (ends_rightly t.entries course) (ends_over course) placed_so.1

        facts : is_one_transaction course.request.calls ≡ true → IsWhole t course
        facts whole = record {
          whole = whole;
          tells = told.0;
          notes = noted.0;
          settled = settled_so.0;
          placed = filter_all (is_placed course.request.calls (held_in course.steps)) commits (sendings_of course) placed_so.0;
        }

        few : (whole : Bool) → is_one_transaction course.request.calls ≡ whole → implies whole (nat_le (length (entries_in t.entries (ids_tried course.report))) 1) ≡ true
        few false is = refl
        few true is = le_to (length (entries_in t.entries (ids_tried course.report))) 1 (has_few t course (facts is) (numbered_differ [] t.entries numbered) unblocked)

        clear : (over : Bool) → course.is_over ≡ over → implies over (is_clear t.entries course.request.calls course.report) ≡ true
        clear false is = refl
        clear true is = by (is_one_transaction course.request.calls) refl (may_be_repeated course.report.failed) refl
          where
            by : (whole : Bool) → is_one_transaction course.request.calls ≡ whole → (may : Bool) → may_be_repeated course.report.failed ≡ may → implies whole (implies may (length (entries_in t.entries (ids_tried course.report)) == 0)) ≡ true
            by false whole may again = refl
            by true whole false again = refl
            by true whole true again =
                let ends = and_parts (ends_so t.entries course course.report.failed) (list_all (is_left_lost (length course.report.calls) (lost_links course)) (commit_sendings course)) (implied course.is_over _ is ended_so.0) in
                eq_to (length (entries_in t.entries (ids_tried course.report))) 0 (has_none t course (facts whole) again ends.0 (implied course.is_over (request_ends t.entries course.report) is ended_so.1))

-- EACH CLIENT -------------------------------------------------------------------------------------

abbrev is_of : ℕ → Course → Bool
is_of number course = course.owner.client == number

kept_first : (test : Bool) (course : Course) (rest same : List Course) → test ≡ true → rest ≡ same → (if test then course ∷ rest else rest) ≡ course ∷ same
kept_first true course rest same is equal = ap (λ (all : List Course). course ∷ all) equal
kept_first false course rest same is equal = absurd (let none : ⊥ = cc in none)

dropped_first : (test : Bool) (course : Course) (rest same : List Course) → test ≡ false → rest ≡ same → (if test then course ∷ rest else rest) ≡ same
dropped_first true course rest same is equal = absurd (let none : ⊥ = cc in none)
dropped_first false course rest same is equal = equal

module _ (setting : Setting) (number : ℕ) where
  own_courses : (client place : ℕ) (past : List Past) (now : Option Doing) → (client == number) ≡ true → filter (is_of number) (courses_from setting client place past now) ≡ courses_from setting client place past now
  own_courses client place [] None is = refl
  own_courses client place [] (Some doing) is = kept_first (client == number) (course_now setting client place doing) [] [] is refl
  own_courses client place (one ∷ past) now is =
      kept_first (client == number) (course_over client place one) (filter (is_of number) (courses_from setting client (place + 1) past now)) (courses_from setting client (place + 1) past now) is (own_courses client (place + 1) past now is)

  no_courses : (client place : ℕ) (past : List Past) (now : Option Doing) → (client == number) ≡ false → filter (is_of number) (courses_from setting client place past now) ≡ []
  no_courses client place [] None is = refl
  no_courses client place [] (Some doing) is = dropped_first (client == number) (course_now setting client place doing) [] [] is refl
  no_courses client place (one ∷ past) now is =
      dropped_first (client == number) (course_over client place one) (filter (is_of number) (courses_from setting client (place + 1) past now)) [] is (no_courses client (place + 1) past now is)

  later_none : (start : ℕ) (clients : List Client) → number < start → filter (is_of number) (courses_of_clients setting start clients) ≡ []
  later_none start [] below = refl
  later_none start (client ∷ clients) below =
      filter-append (is_of number) (courses_from setting start 0 client.past client.now) (courses_of_clients setting (start + 1) clients)
      ∙ (ap (λ (own : List Course). own ++ filter (is_of number) (courses_of_clients setting (start + 1) clients)) (no_courses start 0 client.past client.now (ne_back start number below))
      ∙ later_none (start + 1) clients (omega arith))

  -- the requests of one client
  courses_at : (start index : ℕ) (clients : List Client) (client : Client) → number ≡ start + index → slice_get clients index ≡ Some client
      → filter (is_of number) (courses_of_clients setting start clients) ≡ courses_from setting number 0 client.past client.now
  courses_at start index [] client same is = absurd (let none : ⊥ = cc in none)
  courses_at start zero (first ∷ clients) client same is =
      let here : first ≡ client = cc in
      let at : start ≡ number = omega arith in
      filter-append (is_of number) (courses_from setting start 0 first.past first.now) (courses_of_clients setting (start + 1) clients)
      ∙ (ap (λ (rest : List Course). filter (is_of number) (courses_from setting start 0 first.past first.now) ++ rest) (later_none (start + 1) clients (omega arith))
      ∙ (append-nil (filter (is_of number) (courses_from setting start 0 first.past first.now))
      ∙ (own_courses start 0 first.past first.now (eq_to start number at)
      ∙ (ap (λ (one : Client). courses_from setting start 0 one.past one.now) here ∙ ap (λ (n : ℕ). courses_from setting n 0 client.past client.now) at))))
  courses_at start (suc index) (first ∷ clients) client same is =
      let below : start < number = omega arith in
      filter-append (is_of number) (courses_from setting start 0 first.past first.now) (courses_of_clients setting (start + 1) clients)
      ∙ (ap (λ (own : List Course). own ++ filter (is_of number) (courses_of_clients setting (start + 1) clients)) (no_courses start 0 first.past first.now (ne_to start number below))
      ∙ courses_at (start + 1) index clients client (omega arith) is)

-- the request that is found
same_found : (one : Request) (found : Option Request) → same_request (Some one) found ≡ true → (request : Request) × ((found ≡ Some request) × (one.calls ≡ request.calls))
same_found one None same = absurd (let none : ⊥ = cc in none)
same_found one (Some request) same = (request, (refl, (same_calls_decide one.calls request.calls).0 (and_parts (same_calls one.calls request.calls) (one.again == request.again) same).0))

module _ (t : Traced) (script : List Request) (number : ℕ) where
  abbrev well : Copies → Bool
  well copies = last_few t.entries copies.request.calls copies.reports

  full_well : (copies : Copies) → are_full t.entries copies ≡ true → well copies ≡ true
  full_well copies full = full_last t.entries copies.request.calls copies.reports full

  -- behind a request that is over
  past_full : (before : List RequestReport) (one : Past) → same_request (Some one.request) (next_of script before) ≡ true → (is_few t.entries one.request.calls one.report && is_clear t.entries one.request.calls one.report) ≡ true
      → list_all (are_full t.entries) (copies_of script before) ≡ true → list_all (are_full t.entries) (copies_of script (before ++ one.report ∷ [])) ≡ true
  past_full before one follows right all =
      let next = same_found one.request (next_of script before) follows in
      one_copy (are_full t.entries) (are_full t.entries) (λ copies full. full) next.0 one.report
      (λ mine full.
      append_all (λ report. is_few t.entries next.0.calls report && is_clear t.entries next.0.calls report) mine (one.report ∷ []) full
      (and_from (is_few t.entries next.0.calls one.report && is_clear t.entries next.0.calls one.report) true (subst (λ (calls : List Call). (is_few t.entries calls one.report && is_clear t.entries calls one.report) ≡ true) next.1.1 right) refl))
      script before next.1.0 all

  -- and with the one in course
  now_well : (before : List RequestReport) (request : Request) (report : RequestReport) → same_request (Some request) (next_of script before) ≡ true → is_few t.entries request.calls report ≡ true
      → list_all (are_full t.entries) (copies_of script before) ≡ true → list_all well (copies_of script (before ++ report ∷ [])) ≡ true
  now_well before request report follows few all =
      let next = same_found request (next_of script before) follows in
      one_copy (are_full t.entries) well full_well next.0 report
      (λ mine full. one_last t.entries next.0.calls mine report full (subst (λ (calls : List Call). is_few t.entries calls report ≡ true) next.1.1 few)) script before next.1.0 all

  all_well : (before : List RequestReport) (place : ℕ) (past : List Past) (now : Option Doing) → past_follows script before past ≡ true
      → ((doing : Doing) → now ≡ Some doing → same_request (Some doing.request) (next_of script (before ++ reports_of past)) ≡ true) → list_all (is_right t) (courses_from t.setting number place past now) ≡ true
      → list_all (are_full t.entries) (copies_of script before) ≡ true → list_all well (copies_of script (before ++ map (λ (course : Course). course.report) (courses_from t.setting number place past now))) ≡ true
  all_well before place [] None follows now_follows right all =
      subst (λ (reports : List RequestReport). list_all well (copies_of script reports) ≡ true) (sym (append-nil before)) (weaker_all (are_full t.entries) well (copies_of script before) full_well all)
  all_well before place [] (Some doing) follows now_follows right all =
      let course : Course = course_now t.setting number place doing in
      let mine = and_parts (is_few t.entries doing.request.calls course.report) _ (and_parts (is_right t course) true right).0 in
      now_well before doing.request course.report (subst (λ (reports : List RequestReport). same_request (Some doing.request) (next_of script reports) ≡ true) (append-nil before) (now_follows doing refl)) mine.0 all
  all_well before place (one ∷ past) now follows now_follows right all =
      let parts = and_parts (same_request (Some one.request) (next_of script before)) (past_follows script (before ++ one.report ∷ []) past) follows in
      let rights = and_parts (is_right t (course_over number place one)) (list_all (is_right t) (courses_from t.setting number (place + 1) past now)) right in
      subst (λ (reports : List RequestReport). list_all well (copies_of script reports) ≡ true) (append_assoc before (one.report ∷ []) (map (λ (course : Course). course.report) (courses_from t.setting number (place + 1) past now)))
      (all_well (before ++ one.report ∷ []) (place + 1) past now parts.1
      (λ doing is. subst (λ (reports : List RequestReport). same_request (Some doing.request) (next_of script reports) ≡ true) (sym (append_assoc before (one.report ∷ []) (reports_of past))) (now_follows doing is)) rights.1
      (past_full before one parts.0 rights.0 all))

-- ALL CLIENTS -------------------------------------------------------------------------------------

none_full : (entries : List Entry) (script : List Request) → list_all (are_full entries) (copies_of script []) ≡ true
none_full entries [] = refl
none_full entries (request ∷ requests) = none_full entries requests

module _ (t : Traced) where
  clients_have : (start : ℕ) (clients : List Client) → ((index number : ℕ) (client : Client) → number ≡ start + index → slice_get clients index ≡ Some client → list_all (copies_have_one t.entries) (copies_of (script_at t.setting number) (with_now t number)) ≡ true)
      → copies_have t start clients ≡ true
  clients_have start [] each = refl
  clients_have start (client ∷ clients) each =
      and_from (list_all (copies_have_one t.entries) (copies_of (script_at t.setting start) (with_now t start))) (copies_have t (start + 1) clients) (each 0 start client (omega arith) refl)
      (clients_have (start + 1) clients (λ index number one same is. each (suc index) number one (omega arith) is))

module _ (t : Traced) (scripts : list_all (list_all is_right_request) t.setting.scripts ≡ true) (follow : follow_scripts t ≡ true) (right : list_all (is_right t) (courses_of t) ≡ true) where
  client_has : (index number : ℕ) (client : Client) → number ≡ 1 + index → slice_get t.machine.clients index ≡ Some client → list_all (copies_have_one t.entries) (copies_of (script_at t.setting number) (with_now t number)) ≡ true
  client_has index number client same is =
      weaker_all (λ copies. is_rightly_repeated copies.request && (are_repeated copies.reports && well t script number copies)) (copies_have_one t.entries) (copies_of script (with_now t number)) one
      (both_all (λ copies. is_rightly_repeated copies.request) (λ copies. are_repeated copies.reports && well t script number copies) (copies_of script (with_now t number))
      (requests_all is_rightly_repeated script (with_now t number) (rightly_repeated script (script_all is_right_request t.setting number scripts)))
      (both_all (λ copies. are_repeated copies.reports) (well t script number) (copies_of script (with_now t number)) (copies_repeated script (with_now t number)) wells))
    where
      script : List Request
      script = script_at t.setting number

      courses_are : filter (is_of number) (courses_of t) ≡ courses_from t.setting number 0 client.past client.now
      courses_are = courses_at t.setting number 1 index t.machine.clients client same is

      follows : (past_follows script [] client.past ≡ true) × (same_request (now_or_next client) (next_of script (reports_of client.past)) ≡ true)
      follows = and_parts (past_follows script [] client.past) (same_request (now_or_next client) (next_of script (reports_of client.past))) (follows_get t 1 t.machine.clients index number client same follow is)

      wells : list_all (well t script number) (copies_of script (with_now t number)) ≡ true
      wells =
          ap (λ (courses : List Course). list_all (well t script number) (copies_of script (map (λ (course : Course). course.report) courses))) courses_are
          ∙ all_well t script number [] 0 client.past client.now follows.0
          (λ doing now. ap (λ (found : Option Doing). same_request (option_map_or (λ (d : Doing). Some d.request) found client.next) (next_of script (reports_of client.past))) (sym now) ∙ follows.1)
          (subst (λ (courses : List Course). list_all (is_right t) courses ≡ true) courses_are (filter_all (is_right t) (is_of number) (courses_of t) right)) (none_full t.entries script)

      one : (copies : Copies) → (is_rightly_repeated copies.request && (are_repeated copies.reports && well t script number copies)) ≡ true → copies_have_one t.entries copies ≡ true
      one copies here =
          let first = and_parts (is_rightly_repeated copies.request) (are_repeated copies.reports && well t script number copies) here in
          let second = and_parts (are_repeated copies.reports) (well t script number copies) first.1 in
          one_entry t.entries copies first.0 second.0 second.1

  copies_by : copies_once t ≡ true
  copies_by = clients_have t 1 t.machine.clients client_has

-- THE START ---------------------------------------------------------------------------------------

no_courses_yet : (setting : Setting) (start : ℕ) (clients : List Scripted) → courses_of_clients setting start (map (λ (client : Scripted). resting client.requests []) clients) ≡ []
no_courses_yet setting start [] = refl
no_courses_yet setting start (client ∷ clients) = no_courses_yet setting (start + 1) clients

starts_once : (document : Document) → copies_once (traced_start document) ≡ true
starts_once document =
    clients_have t 1 t.machine.clients
    (λ index number client same is.
    ap (λ (courses : List Course). list_all (copies_have_one t.entries) (copies_of (script_at t.setting number) (map (λ (course : Course). course.report) (filter (is_of number) courses)))) (no_courses_yet t.setting 1 document.clients)
    ∙ no_copies t.entries (script_at t.setting number))
  where
    t : Traced
    t = traced_start document

pub copies_law : EachKeeps → EntryNumbers → IsKeptOfAll copies_once
copies_law keeps numbers = record {
  at_start = starts_once;
  at_event = λ before after old new event note items left one inv.
      copies_by new
      (subst (λ (setting : Setting). list_all (list_all is_right_request) setting.scripts ≡ true) (sym (one.setting ∙ inv.orderly.setting.same)) (of_document inv.orderly.setting.document inv.orderly.setting.calls).scripts)
      (scripts_law.at_event before after old new event note items left one inv.orderly)
      (are_right new ((unblocked_law keeps).at_event before after old new event note items left one inv.orderly) ((entries_law keeps).at_event before after old new event note items left one inv.orderly)
      (tried_law.at_event before after old new event note items left one inv) (noted_law.at_event before after old new event note items left one inv.orderly inv.once.noted)
      ((settled_law keeps numbers).at_event before after old new event note items left one inv) (placed_law.at_event before after old new event note items left one inv)
      (ended_law.at_event before after old new event note items left one inv) ((over_law keeps numbers).at_event before after old new event note items left one inv));
}
