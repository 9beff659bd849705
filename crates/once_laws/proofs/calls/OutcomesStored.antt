-- Each outcome that a client was told in a run is the stored one: it is that of an item, and the
-- answers of items are right.
use Rattle.std.proofs.Common.{◌≡◌, refl, sym, subst, ◌∙◌, Bool, true, false, ℕ, ◌+◌, ◌&&◌, List, [], ◌∷◌, ◌++◌, map, Option, Some, None}
use Rattle.std.specs.Prelude.{IsTrue, is_some, is_none}
use Rattle.std.specs.List.{list_all}
use Rattle.std.specs.Option.{option_map_or}
use Rattle.std.proofs.lemmas.Bool.{and_parts, and_from}
use Rattle.std.proofs.lemmas.List.Folds.{list_all-append}
use Rattle.svc_values.specs.declared.entry.Ltxid.{Ltxid}
use Rattle.svc_values.specs.declared.frame.Down.TheVariants as down
use Rattle.svc_values.specs.declared.entry.SessionId.{SessionId}
use Rattle.svc_values.specs.meaning.Identifiers.{same_ltxid}
use Rattle.svc_values.specs.meaning.Same.{same_bool}
use Rattle.svc_values.specs.SameLaws.{same_ltxid_decides, same_bool_decides}
use Rattle.ltxid_book.specs.meaning.Journal.{is_blocked}
use Rattle.ltxid_book.specs.meaning.Outcomes.{verdict_of}
use Rattle.ltxid_book.specs.meaning.Sessions.{known_from}
use Rattle.ltxid_book.specs.declared.verdict.Verdict.{Verdict}
use Rattle.ltxid_book.specs.declared.verdict.Verdict.TheVariants as verdict
use Rattle.outage_schedule.specs.declared.document.Document.{Document}
use Rattle.outage_schedule.specs.declared.event.Event.{Event}
use Rattle.outage_schedule.specs.declared.item.Item.{Item}
use Rattle.outage_schedule.specs.declared.item.Item.TheVariants as item
use Rattle.outage_schedule.specs.declared.item.Served.{Served}
use Rattle.outage_schedule.specs.declared.note.AskResult.{AskResult}
use Rattle.outage_schedule.specs.declared.note.AskResult.TheVariants as told
use Rattle.outage_schedule.specs.declared.note.Note.{Note}
use Rattle.outage_schedule.specs.declared.request.Outcome.{Outcome}
use Rattle.outage_schedule.specs.declared.request.RequestReport.{RequestReport}
use Rattle.run_clauses.specs.meaning.Moments.{HappenedAt, ServedItem, moments_of_notes, moment_of_item, before_event, from_event, in_order}
use Rattle.run_clauses.specs.meaning.Outcomes.{completed_of, has_committed, told_of, is_told}
use Rattle.run_clauses.specs.meaning.Stored.{Kept, kept_by, has_entry, has_block, blocked_or_entry, is_answer, is_rightly_forgotten, is_right_at, horizon_before, next_at}
use Rattle.server_model.specs.Seen.{Seen}
use Rattle.world_model.specs.meaning.Clients.{Client, Doing, Past, reports_of}
use Rattle.world_model.specs.meaning.Finishing.{Place}
use Rattle.world_model.specs.Orderly.{Orderly}
use Rattle.world_model.specs.OrderlyLaws.{OrderlyIsKept}
use Rattle.world_model.specs.OneEvent.{OneEvent}
use Rattle.world_model.specs.Reached.{traced_start, Reached, Begins, GoesOn, IsFinishing, Scheduled, Finishes}
use Rattle.world_model.specs.records.Ready.{all_requests_right}
use Rattle.world_model.specs.meaning.Serving.{outcome_frame}
use Rattle.world_model.specs.meaning.Settings.{Setting, setting_of}
use Rattle.run_laws.specs.StoredLaws.{AnswersAreRight, BlocksStayApart}
use Rattle.once_laws.specs.OnceLaws.{OutcomesAreStored}
use Rattle.world_model.specs.Traced.{Traced, Course, courses_from, courses_of, courses_of_clients}
use Rattle.world_model.proofs.Offered.{weaker_all, happens_step, Followed, follow_happens, at_event, resting_none}
use Rattle.invariant_laws.proofs.Offered.{TellsOutcome, told_item, any_all, outcomes_pass, may_pass, served_pass, still_pass}

-- ALONG A RUN -------------------------------------------------------------------------------------

-- a test of outcomes holds of what is told by each item that passes another
abbrev pub IsByItems : (Item → Bool) → (Outcome → Bool) → Type 0
IsByItems passes right = (x : Ltxid) (result : AskResult) (committed completed : Bool) → outcome_frame result ≡ down.OutcomeIs committed completed → passes (item.Outcome x result) ≡ true → right (record { ltxid = x; committed = committed; completed = completed }) ≡ true

module _ (kept : OrderlyIsKept) (document : Document) (calls : IsTrue (all_requests_right document)) (passes : Item → Bool) (right : Outcome → Bool) (by_items : IsByItems passes right) where
  -- what was served so far passes, and so does what was told
  record SoFar (t : Traced) : Type 0 where
    orderly : Orderly t
    served : list_all (served_pass passes) t.machine.links ≡ true
    outcomes : list_all (outcomes_pass right) (courses_of t) ≡ true

  abbrev all_pass : List Served → Bool
  all_pass items = list_all (λ (one : Served). passes one.item) items

  first_passes : (served : Served) (items left : List Served) → items ≡ served ∷ left → all_pass items ≡ true → passes served.item ≡ true
  first_passes served items left same all = (and_parts (passes served.item) (all_pass left) (subst (λ (list : List Served). all_pass list ≡ true) same all)).0

  at_start : SoFar (traced_start document)
  at_start = record { orderly = kept.at_start document calls; served = refl; outcomes = resting_none (setting_of document) 1 (outcomes_pass right) document.clients }

  behind : (before after : Seen) (old new : Traced) (event : Event) (note : Note) (more : List Served) → OneEvent before old event note more [] after new → all_pass more ≡ true → SoFar old → SoFar new
  behind before after old new event note more one own was =
      let by : Followed old.setting old.machine event note more [] new.machine = follow_happens old.setting old.machine event note more [] new.machine one.follows in
      record {
        orderly = kept.at_event before after old new event note more [] one was.orderly;
        served =
            still_pass passes old was.orderly more [] by.kind new.machine by.happens was.served (λ number front served at same serves ordinary. first_passes served more [] same own)
            (λ after_it front served same stopped. first_passes served more [] same own);
        outcomes =
            subst (λ (setting : Setting). list_all (outcomes_pass right) (courses_of_clients setting 1 new.machine.clients) ≡ true) (sym one.setting)
            (may_pass old new.machine was.orderly right right was.outcomes (λ outcome here. here)
            (λ number step asking committed completed alive input phase.
            let it : TellsOutcome passes asking.ltxid committed completed = told_item old was.orderly passes was.served number new.machine step asking committed completed alive input phase in
            by_items asking.ltxid it.result committed completed it.tells it.here)
            (happens_step old.setting (at_event old.machine) more [] by.kind new.machine by.happens));
      }

  both_pass : (items more : List Served) → all_pass (items ++ more) ≡ true → (all_pass items ≡ true) × (all_pass more ≡ true)
  both_pass items more all = and_parts (all_pass items) (all_pass more) (sym (list_all-append (λ (one : Served). passes one.item) items more) ∙ all)

  reached_so : (events : List Event) (notes : List Note) (items : List Served) (seen : Seen) (t : Traced) → Reached document events notes items seen t → all_pass items ≡ true → SoFar t
  reached_so _ _ _ _ _ (Begins seen start history horizon coupled) all = at_start
  reached_so _ _ _ _ _ (GoesOn events notes items more before after old new event note reached one forgets) all =
      let parts = both_pass items more all in behind before after old new event note more one parts.1 (reached_so events notes items before old reached parts.0)

  finishing_so : (place : Place) (notes : List Note) (items : List Served) (seen : Seen) (t : Traced) → IsFinishing document place notes items seen t → all_pass items ≡ true → SoFar t
  finishing_so _ _ _ _ _ (Scheduled notes items seen t reached) all = reached_so document.schedule notes items seen t reached all
  finishing_so _ _ _ _ _ (Finishes place later notes items more before after old new event note finishing next one forgets) all =
      let parts = both_pass items more all in behind before after old new event note more one parts.1 (finishing_so place notes items before old finishing parts.0)

-- THE REQUESTS THAT ARE OVER ----------------------------------------------------------------------

module _ (test : RequestReport → Bool) (setting : Setting) where
  over_pass : (client place : ℕ) (past : List Past) (now : Option Doing) → list_all (λ course. test course.report) (courses_from setting client place past now) ≡ true → list_all test (reports_of past) ≡ true
  over_pass client place [] now all = refl
  over_pass client place (one ∷ past) now all =
      let parts = and_parts (test one.report) (list_all (λ (course : Course). test course.report) (courses_from setting client (place + 1) past now)) all in
      and_from (test one.report) (list_all test (reports_of past)) parts.0 (over_pass client (place + 1) past now parts.1)

  -- each report passes where each request does
  pub transcripts_pass : (number : ℕ) (clients : List Client) → list_all (λ course. test course.report) (courses_of_clients setting number clients) ≡ true → list_all (list_all test) (map (λ client. reports_of client.past) clients) ≡ true
  transcripts_pass number [] all = refl
  transcripts_pass number (client ∷ clients) all =
      let parts = and_parts (list_all (λ (course : Course). test course.report) (courses_from setting number 0 client.past client.now)) (list_all (λ (course : Course). test course.report) (courses_of_clients setting (number + 1) clients))
      (sym (list_all-append (λ (course : Course). test course.report) (courses_from setting number 0 client.past client.now) (courses_of_clients setting (number + 1) clients)) ∙ all) in
      and_from (list_all test (reports_of client.past)) (list_all (list_all test) (map (λ (one : Client). reports_of one.past) clients)) (over_pass number 0 client.past client.now parts.0) (transcripts_pass (number + 1) clients parts.1)

-- BY THE JOURNAL ----------------------------------------------------------------------------------

-- An item's answer is what the journal has.
abbrev is_by_journal : Kept → Item → Bool
is_by_journal k (item.Outcome x told.Uncommitted) = is_blocked k.blocked x
is_by_journal k (item.Outcome x (told.Committed completed)) = option_map_or (same_bool completed) (completed_of k.entries x) false
is_by_journal k one = true

committed_by : (judged : Verdict) (found : Option Bool) (completed : Bool) → is_told (told_of judged found) (told.Committed completed) ≡ true → option_map_or (same_bool completed) found false ≡ true
committed_by (verdict.Committed last) (Some one) completed is = (same_bool_decides completed one).1 (sym ((same_bool_decides one completed).0 is))
committed_by (verdict.Committed last) None completed is = absurd (let none : ⊥ = cc in none)
committed_by verdict.BlockIt found completed is = absurd (let none : ⊥ = cc in none)
committed_by verdict.AlreadyBlocked found completed is = absurd (let none : ⊥ = cc in none)
committed_by (verdict.ServerAhead next) found completed is = absurd (let none : ⊥ = cc in none)
committed_by (verdict.ClientAhead next) found completed is = absurd (let none : ⊥ = cc in none)
committed_by (verdict.Forgotten horizon) found completed is = absurd (let none : ⊥ = cc in none)

right_by : (k : Kept) (event : ℕ) (session : SessionId) (one : Item) → is_right_at k event (ServedItem session one) ≡ true → is_by_journal k one ≡ true
right_by k event session (item.Outcome x told.Uncommitted) right =
    let answer = (and_parts (is_answer k event x told.Uncommitted) (is_rightly_forgotten k event x told.Uncommitted) right).0 in
    (and_parts _ (is_blocked k.blocked x) answer).1
right_by k event session (item.Outcome x (told.Committed completed)) right =
    let answer = (and_parts (is_answer k event x (told.Committed completed)) (is_rightly_forgotten k event x (told.Committed completed)) right).0 in
    committed_by (verdict_of (known_from (horizon_before k event) (λ incarnation session. has_committed (next_at k event x))) x) (completed_of k.entries x) completed (and_parts _ true answer).0
right_by k event session one right = refl

-- the items among what happened
items_pass : (test : HappenedAt → Bool) (items : List Served) (notes : List HappenedAt) → list_all test (in_order items notes) ≡ true → list_all (λ one. test (moment_of_item one)) items ≡ true
items_pass test [] notes all = refl
items_pass test (one ∷ items) notes all =
    let rest : List HappenedAt = moment_of_item one ∷ in_order items (from_event one.event notes) in
    let here = (and_parts (list_all test (before_event one.event notes)) (list_all test rest) (sym (list_all-append test (before_event one.event notes) rest) ∙ all)).1 in
    let parts = and_parts (test (moment_of_item one)) (list_all test (in_order items (from_event one.event notes))) here in
    and_from (test (moment_of_item one)) (list_all (λ (other : Served). test (moment_of_item other)) items) parts.0 (items_pass test items (from_event one.event notes) parts.1)

-- one that is blocked passes what all do
blocked_pass : (test : Ltxid → Bool) (blocked : List Ltxid) (x : Ltxid) → list_all test blocked ≡ true → is_blocked blocked x ≡ true → test x ≡ true
blocked_pass test blocked x all is =
    let found = any_all (λ (one : Ltxid). same_ltxid one x) test blocked is all in subst (λ (y : Ltxid). test y ≡ true) ((same_ltxid_decides found.0 x).0 found.1.0) found.1.1

abbrev is_stored : Kept → Outcome → Bool
is_stored k outcome = has_entry k.entries outcome && has_block k.blocked outcome

entry_of_found : (found : Option Bool) (completed : Bool) → option_map_or (same_bool completed) found false ≡ true → (same_bool true (is_some found) && option_map_or (same_bool completed) found true) ≡ true
entry_of_found None completed is = absurd (let none : ⊥ = cc in none)
entry_of_found (Some one) completed is = is

no_entry : (found : Option Bool) → is_none found ≡ true → (same_bool false (is_some found) && option_map_or (same_bool false) found true) ≡ true
no_entry None is = refl
no_entry (Some one) is = absurd (let none : ⊥ = cc in none)

by_journal : (k : Kept) → blocked_or_entry k ≡ true → IsByItems (is_by_journal k) (is_stored k)
by_journal k apart x (told.Committed last) committed completed tells here =
    let is : true ≡ committed = cc in
    let so : last ≡ completed = cc in
    subst (λ (c : Bool). is_stored k (record { ltxid = x; committed = c; completed = completed }) ≡ true) is
    (subst (λ (c : Bool). is_stored k (record { ltxid = x; committed = true; completed = c }) ≡ true) so
    (and_from (has_entry k.entries (record { ltxid = x; committed = true; completed = last })) true (entry_of_found (completed_of k.entries x) last here) refl))
by_journal k apart x told.Uncommitted committed completed tells here =
    let is : false ≡ committed = cc in
    let so : false ≡ completed = cc in
    subst (λ (c : Bool). is_stored k (record { ltxid = x; committed = c; completed = completed }) ≡ true) is
    (subst (λ (c : Bool). is_stored k (record { ltxid = x; committed = false; completed = c }) ≡ true) so
    (and_from (has_entry k.entries (record { ltxid = x; committed = false; completed = false })) (is_blocked k.blocked x)
    (no_entry (completed_of k.entries x) (blocked_pass (λ (y : Ltxid). is_none (completed_of k.entries y)) k.blocked x apart here)) here))
by_journal k apart x result committed completed tells here = absurd (let none : ⊥ = cc in none)

-- THE REPORT --------------------------------------------------------------------------------------

-- Each outcome that was told is the stored one.
pub outcomes_stored_law : OrderlyIsKept → BlocksStayApart → AnswersAreRight → OutcomesAreStored
outcomes_stored_law kept apart answers document report seen t server calls is =
    let k : Kept = kept_by document report in
    let own : list_all (λ (one : Served). is_by_journal k one.item) report.served ≡ true =
    weaker_all (λ (one : Served). is_right_at k one.event (ServedItem one.session one.item)) (λ (one : Served). is_by_journal k one.item) report.served (λ one. right_by k one.event one.session one.item)
    (items_pass (λ (moment : HappenedAt). is_right_at k moment.event moment.happened) report.served (moments_of_notes 1 report.notes) (answers document report seen t server is)) in
    let so = finishing_so kept document calls (is_by_journal k) (is_stored k) (by_journal k (apart document report seen t server is)) is.run.place report.notes report.served seen t is.run.finishing own in
    subst (λ (told : List (List RequestReport)). list_all (list_all (λ (request : RequestReport). list_all (is_stored k) request.outcomes)) told ≡ true) (sym is.clients)
    (transcripts_pass (λ (request : RequestReport). list_all (is_stored k) request.outcomes) t.setting 1 t.machine.clients so.outcomes)
