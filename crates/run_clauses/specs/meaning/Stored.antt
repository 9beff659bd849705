-- Each outcome that was told is the stored one.
use Rattle.std.specs.Prelude.{ℕ, ◌==◌, ◌&&◌, ◌||◌, Bool, true, not, nat_lt, List, ◌++◌, is_some, is_none}
use Rattle.std.specs.List.{list_all}
use Rattle.std.specs.Option.{option_map_or}
use Rattle.svc_values.specs.declared.entry.Ltxid.{Ltxid}
use Rattle.svc_values.specs.declared.entry.Entry.{Entry}
use Rattle.ltxid_book.specs.meaning.Journal.{is_blocked}
use Rattle.outage_schedule.specs.declared.document.Document.{Document}
use Rattle.outage_schedule.specs.declared.item.Item.{Item}
use Rattle.outage_schedule.specs.declared.item.Item.TheVariants as item
use Rattle.outage_schedule.specs.declared.note.AskResult.{AskResult}
use Rattle.outage_schedule.specs.declared.request.Outcome.{Outcome}
use Rattle.outage_schedule.specs.declared.request.RequestReport.{RequestReport}
use Rattle.outage_schedule.specs.declared.report.Report.{Report}
use Rattle.run_clauses.specs.meaning.Before.{journal_before}
use Rattle.svc_values.specs.meaning.Same.{same_bool}
use Rattle.svc_values.specs.meaning.Identifiers.{session_of}
use Rattle.run_clauses.specs.meaning.Transactions.{each_request}
use Rattle.run_clauses.specs.meaning.Moments.{Happened, ServedItem, RanOutside, Asked, moments}
use Rattle.run_clauses.specs.meaning.EntryEvents.{StoredEntry, stored_entries, stored_before}
use Rattle.run_clauses.specs.meaning.Horizons.{Wanted, wanted_in, raised, last_horizon}
use Rattle.run_clauses.specs.meaning.Outcomes.{completed_of, outcome_of, is_told, is_uncommitted, says_forgotten, is_forgotten}
use Rattle.run_clauses.specs.meaning.Blocks.{answered_in, blocks_answered, blocks_in_order}
use Rattle.run_clauses.specs.meaning.Images.{image_fits}

-- What the journal of a run says: the image's entries and blocks followed by the report's, when
-- each entry was stored, and the horizons.
pub record Kept : Type 0 where
  pub image : List Entry
  pub entries : List Entry
  pub blocked : List Ltxid
  pub stored : List StoredEntry
  pub horizon : ℕ
  pub openings : List Wanted

abbrev pub kept_by : Document → Report → Kept
kept_by document report =
    let before = journal_before document in
    record {
      image = before.entries;
      entries = before.entries ++ report.entries;
      blocked = before.blocked ++ report.blocked;
      stored = stored_entries report;
      horizon = before.horizon;
      openings = wanted_in document report;
    }

-- ---- what clients were told

-- An outcome has committed true exactly where the journal has an entry x, and completed is then
-- that entry's.
abbrev pub has_entry : List Entry → Outcome → Bool
has_entry entries outcome =
    same_bool outcome.committed (is_some (completed_of entries outcome.ltxid))
    && option_map_or (same_bool outcome.completed) (completed_of entries outcome.ltxid) true

-- With committed false, completed is false and x is blocked in the journal.
abbrev pub has_block : List Ltxid → Outcome → Bool
has_block blocked outcome = outcome.committed
    || (not outcome.completed && is_blocked blocked outcome.ltxid)

abbrev pub are_outcomes_stored : Kept → RequestReport → Bool
are_outcomes_stored k request = list_all (λ outcome. has_entry k.entries outcome
    && has_block k.blocked outcome) request.outcomes

abbrev pub outcomes_stored : Kept → Report → Bool
outcomes_stored k report = each_request (are_outcomes_stored k) report

-- ---- what was answered at events

-- `next` before an event, and the horizon
abbrev pub next_at : Kept → ℕ → Ltxid → ℕ
next_at k event x = stored_before k.image k.stored (session_of x) event

abbrev pub horizon_before : Kept → ℕ → ℕ
horizon_before k event = raised k.horizon k.openings event

-- It answers by the outcome table, with the number of the session's entries stored before the
-- event. An x answered uncommitted is blocked in the journal.
abbrev pub is_answer : Kept → ℕ → Ltxid → AskResult → Bool
is_answer k event x answer =
    is_told (outcome_of (horizon_before k event) (next_at k event x) (completed_of k.entries x) x)
    answer
    && (not (is_uncommitted answer) || is_blocked k.blocked x)

-- An `outcome` item says forgotten with h exactly where h is the horizon at its event and x's
-- incarnation is below h.
abbrev pub is_rightly_forgotten : Kept → ℕ → Ltxid → AskResult → Bool
is_rightly_forgotten k event x answer =
    same_bool (is_forgotten answer) (nat_lt x.incarnation (horizon_before k event))
    && (not (is_forgotten answer) || says_forgotten answer (horizon_before k event))

abbrev pub is_item_right : Kept → ℕ → Item → Bool
is_item_right k event (item.Outcome x answer) =
    is_answer k event x answer && is_rightly_forgotten k event x answer
is_item_right k event _ = true

-- an `ask` note, or an `outcome` item whether its reply was taken or not
abbrev pub is_right_at : Kept → ℕ → Happened → Bool
is_right_at k event (Asked x answer) = is_answer k event x answer
is_right_at k event (ServedItem session served) = is_item_right k event served
is_right_at k event (RanOutside ran) = true

abbrev pub answers_right : Kept → Report → Bool
answers_right k report = list_all (λ moment. is_right_at k moment.event moment.happened)
    (moments report)

-- The report's `forgotten` is the horizon after the last event.
abbrev pub forgotten_fits : Document → Report → Bool
forgotten_fits document report = report.forgotten == last_horizon document report

-- ---- blocks

-- No identifier is both blocked and an entry's.
abbrev pub blocked_or_entry : Kept → Bool
blocked_or_entry k = list_all (λ x. is_none (completed_of k.entries x)) k.blocked

-- Each block of the run has its answer, and they are in order, each once.
abbrev pub blocks_fit : Document → Report → Bool
blocks_fit document report =
    let answered = answered_in (moments report) in
    blocks_answered answered report.blocked
    && blocks_in_order (journal_before document).blocked answered report.blocked

-- `Stored`
abbrev pub stored : Document → Report → Bool
stored document report =
    let k = kept_by document report in
    outcomes_stored k report
    && (answers_right k report
    && (forgotten_fits document report
    && (blocked_or_entry k
    && (blocks_fit document report
    && image_fits document report))))
