-- The clause that each outcome is the stored one sees no writes.
use Rattle.std.proofs.Common.{◌≡◌, ℕ, ◌==◌, ◌&&◌, ◌||◌, not, Bool, true, List, [], ◌∷◌, ◌++◌, map, Option, Some, None, is_some, is_none, Result, Ok, Err, refl, ap, ap₂}
use Rattle.std.proofs.Math.Path.{fun_ext}
use Rattle.std.specs.List.{list_all}
use Rattle.std.specs.Str.{bytes_eq}
use Rattle.std.specs.Option.{option_map_or}
use Rattle.std.specs.Cmp.Lexicographic.{pointwise}
use Rattle.svc_values.specs.declared.entry.Ltxid.{Ltxid}
use Rattle.svc_values.specs.declared.entry.Entry.{Entry}
use Rattle.svc_values.specs.meaning.Identifiers.{same_ltxid, session_of}
use Rattle.svc_values.specs.meaning.Same.{same_bool}
use Rattle.ltxid_book.specs.meaning.Journal.{is_blocked}
use Rattle.commit_log.specs.declared.journal.Journal.{Journal}
use Rattle.commit_log.specs.meaning.Journals.{journal_of}
use Rattle.outage_schedule.specs.declared.document.Document.{Document}
use Rattle.outage_schedule.specs.declared.item.Item.{Item}
use Rattle.outage_schedule.specs.declared.item.Item.TheVariants as item
use Rattle.outage_schedule.specs.declared.note.AskResult.{AskResult}
use Rattle.outage_schedule.specs.declared.request.Outcome.{Outcome}
use Rattle.outage_schedule.specs.declared.request.RequestReport.{RequestReport}
use Rattle.outage_schedule.specs.declared.report.Report.{Report}
use Rattle.run_clauses.specs.meaning.Before.{journal_before, tables_of}
use Rattle.run_clauses.specs.meaning.Comparing.{same_base, same_entry}
use Rattle.run_clauses.specs.meaning.EntryEvents.{StoredEntry, stored_before}
use Rattle.run_clauses.specs.meaning.Horizons.{last_horizon}
use Rattle.run_clauses.specs.meaning.Images.{follows, is_after_run, has_journal, image_fits}
use Rattle.run_clauses.specs.meaning.Moments.{HappenedAt, Happened, ServedItem, RanOutside, Asked, moments}
use Rattle.run_clauses.specs.meaning.Outcomes.{completed_of, outcome_of, is_told, is_uncommitted}
use Rattle.run_clauses.specs.meaning.Serial.{same_report_table, printed_tables}
use Rattle.run_clauses.specs.meaning.Stored.{kept_by, has_entry, has_block, are_outcomes_stored, outcomes_stored, horizon_before, is_answer, is_rightly_forgotten, is_item_right, is_right_at, answers_right, forgotten_fits, blocked_or_entry, blocks_fit}
use Rattle.run_clauses.specs.meaning.Transactions.{each_request}
use Rattle.report_text.specs.Laws.{shown_entry, shown_report}
use Rattle.printed_laws.specs.Laws.{StoredSeesNoWrites}
use Rattle.printed_laws.proofs.ShownEntries.{behind_shown, completed_shown, both}
use Rattle.printed_laws.proofs.EventsShown.{events_shown}

-- the journal says of each identifier the same
said_shown : (document : Document) (r : Report) (x : Ltxid) → completed_of (kept_by document (shown_report r)).entries x ≡ completed_of (kept_by document r).entries x
said_shown document r x = behind_shown (λ es. completed_of es x) (λ es. completed_shown es x) (journal_before document).entries r.entries

outcome_shown : (document : Document) (r : Report) (outcome : Outcome)
    → (has_entry (kept_by document (shown_report r)).entries outcome && has_block (kept_by document (shown_report r)).blocked outcome)
    ≡ (has_entry (kept_by document r).entries outcome && has_block (kept_by document r).blocked outcome)
outcome_shown document r outcome =
    ap (λ (completed : Option Bool).
    (same_bool outcome.committed (is_some completed) && option_map_or (same_bool outcome.completed) completed true) && has_block (kept_by document r).blocked outcome)
    (said_shown document r outcome.ltxid)

request_shown : (document : Document) (r : Report) (request : RequestReport)
    → are_outcomes_stored (kept_by document (shown_report r)) request ≡ are_outcomes_stored (kept_by document r) request
request_shown document r request = ap (λ (test : Outcome → Bool). list_all test request.outcomes) (fun_ext (outcome_shown document r))

outcomes_shown : (document : Document) (r : Report) → outcomes_stored (kept_by document (shown_report r)) (shown_report r) ≡ outcomes_stored (kept_by document r) r
outcomes_shown document r = ap (λ (test : RequestReport → Bool). each_request test r) (fun_ext (request_shown document r))

-- ---- answers

answer_shown : (document : Document) (r : Report) (event : ℕ) (x : Ltxid) (answer : AskResult)
    → is_answer (kept_by document (shown_report r)) event x answer ≡ is_answer (kept_by document r) event x answer
answer_shown document r event x answer =
    let k = kept_by document r in
    ap₂ (λ (stored : List StoredEntry) (completed : Option Bool).
    is_told (outcome_of (horizon_before k event) (stored_before k.image stored (session_of x) event) completed x) answer
    && (not (is_uncommitted answer) || is_blocked k.blocked x))
    (events_shown r) (said_shown document r x)

item_shown : (document : Document) (r : Report) (event : ℕ) (one : Item)
    → is_item_right (kept_by document (shown_report r)) event one ≡ is_item_right (kept_by document r) event one
item_shown document r event item.Connect = refl
item_shown document r event (item.Begin settings) = refl
item_shown document r event (item.Call replay call answers draws) = refl
item_shown document r event (item.Blocked call) = refl
item_shown document r event (item.Outcome x answer) =
    ap (λ (b : Bool). b && is_rightly_forgotten (kept_by document r) event x answer) (answer_shown document r event x answer)
item_shown document r event item.End = refl
item_shown document r event item.Close = refl
item_shown document r event (item.Refused cause) = refl
item_shown document r event (item.CrashedCall replay call) = refl
item_shown document r event (item.CrashedOutcome x) = refl

right_shown : (document : Document) (r : Report) (event : ℕ) (happened : Happened)
    → is_right_at (kept_by document (shown_report r)) event happened ≡ is_right_at (kept_by document r) event happened
right_shown document r event (ServedItem session served) = item_shown document r event served
right_shown document r event (RanOutside ran) = refl
right_shown document r event (Asked x answer) = answer_shown document r event x answer

answers_shown : (document : Document) (r : Report) → answers_right (kept_by document (shown_report r)) (shown_report r) ≡ answers_right (kept_by document r) r
answers_shown document r =
    ap (λ (test : HappenedAt → Bool). list_all test (moments r)) (fun_ext (λ (moment : HappenedAt). right_shown document r moment.event moment.happened))

blocked_shown : (document : Document) (r : Report) → blocked_or_entry (kept_by document (shown_report r)) ≡ blocked_or_entry (kept_by document r)
blocked_shown document r =
    ap (λ (said : Ltxid → Option Bool). list_all (λ x. is_none (said x)) (kept_by document r).blocked) (fun_ext (said_shown document r))

-- ---- the image

same_entries_shown : (found es : List Entry) → pointwise same_entry found (map shown_entry es) ≡ pointwise same_entry found es
same_entries_shown [] [] = refl
same_entries_shown [] (e ∷ es) = refl
same_entries_shown (f ∷ found) [] = refl
same_entries_shown (f ∷ found) (e ∷ es) = ap (λ (b : Bool). same_entry f e && b) (same_entries_shown found es)

follows_shown : (before : Journal) (r : Report) (journal : Journal) → follows before (shown_report r) journal ≡ follows before r journal
follows_shown before r journal =
    ap (λ (b : Bool).
    same_base journal.base before.base
    && (b
    && (pointwise same_ltxid journal.blocked (before.blocked ++ r.blocked)
    && (pointwise bytes_eq journal.alerts (before.alerts ++ r.alerts)
    && pointwise same_report_table r.tables (printed_tables before.base (tables_of journal))))))
    (behind_shown (pointwise same_entry journal.entries) (same_entries_shown journal.entries) before.entries r.entries)

after_shown : (document : Document) (r : Report) (read : Result Journal ℕ) → is_after_run document (shown_report r) read ≡ is_after_run document r read
after_shown document r (Err place) = refl
after_shown document r (Ok journal) = ap (λ (b : Bool). b && (journal.horizon == last_horizon document r)) (follows_shown (journal_before document) r journal)

journal_shown : (document : Document) (r : Report) (image : Option (List ℕ)) → has_journal document (shown_report r) image ≡ has_journal document r image
journal_shown document r None = refl
journal_shown document r (Some image) = after_shown document r (journal_of image)

image_shown : (document : Document) (r : Report) → image_fits document (shown_report r) ≡ image_fits document r
image_shown document r = ap (λ (b : Bool). not document.print_image || b) (journal_shown document r r.image)

-- ---- all of it

pub stored_shown : StoredSeesNoWrites
stored_shown document r =
    let blocks = ap (λ (b : Bool). blocks_fit document r && b) (image_shown document r) in
    let entries = both _ _ _ _ (blocked_shown document r) blocks in
    let horizon = ap (λ (b : Bool). forgotten_fits document r && b) entries in
    both _ _ _ _ (outcomes_shown document r) (both _ _ _ _ (answers_shown document r) horizon)
