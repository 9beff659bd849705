-- What a report says of its document.
use Rattle.std.specs.Prelude.{◌≡◌, ◌++◌, ℕ, Bool, IsTrue, List, Option, Some, None, Ok, if◌then◌else◌}
use Rattle.calm_laws.specs.meaning.Calm.{is_calm, all_answered_or_waited}
use Rattle.commit_log.specs.declared.journal.Journal.{Journal}
use Rattle.commit_log.specs.meaning.Journals.{journal_of}
use Rattle.outage_schedule.specs.declared.document.Document.{Document}
use Rattle.outage_schedule.specs.declared.report.Report.{Report}
use Rattle.run_clauses.specs.meaning.Before.{journal_before, tables_of}
use Rattle.run_clauses.specs.meaning.Fresh.{fresh}
use Rattle.run_clauses.specs.meaning.Horizons.{last_incarnation}
use Rattle.run_clauses.specs.meaning.NoClash.{no_clash}
use Rattle.run_clauses.specs.meaning.Once.{once}
use Rattle.run_clauses.specs.meaning.Same.{same}
use Rattle.run_clauses.specs.meaning.Serial.{IsSerial, printed_tables}
use Rattle.run_clauses.specs.meaning.ServiceBase.{sequences_of}
use Rattle.run_clauses.specs.meaning.Stored.{stored}
use Rattle.script_clauses.specs.meaning.Scripted.{scripted}
use Rattle.server_model.specs.meaning.SetAside.{SetAside, ends_in}
use Rattle.shown_clauses.specs.meaning.Caused.{caused}
use Rattle.shown_clauses.specs.meaning.Legal.{legal_of}
use Rattle.shown_clauses.specs.meaning.Whole.{whole}
use Rattle.world_model.specs.meaning.Followed.{followed}
use Rattle.world_model.specs.meaning.Judged.{drawn_in, is_legal, is_fresh_new}

-- The journal at the end has the base of the one before event 1, its tables with their rows and its
-- sequences, and its entries, blocks and alert lines are those from before with those of the report
-- behind them. The report's tables are those after the last entry. What the journal says of
-- sessions below the report's horizon is forgotten. The next opening goes on from it: its last
-- incarnation is that of the last opening that the notes tell, and what it has set aside of the
-- sequences ends behind every value that the run drew anew, and no earlier than before event 1.
pub record IsReadFrom (document : Document) (report : Report) (journal : Journal) : Type 0 where
  pub base : journal.base ≡ (journal_before document).base
  pub entries : journal.entries ≡ (journal_before document).entries ++ report.entries
  pub blocked : journal.blocked ≡ (journal_before document).blocked ++ report.blocked
  pub alerts : journal.alerts ≡ (journal_before document).alerts ++ report.alerts
  pub tables : report.tables ≡ printed_tables journal.base (tables_of journal)
  pub horizon : report.forgotten ≡ journal.horizon
  pub incarnation : journal.incarnation ≡ last_incarnation document report
  pub set_aside : SetAside (sequences_of (journal_before document)) (ends_in (sequences_of journal))
      (drawn_in document report)

-- the bytes of the store, where they are asked for
abbrev pub image_if : Bool → List ℕ → Option (List ℕ)
image_if print_image bytes = if print_image then Some bytes else None

pub record Headline (document : Document) (report : Report) : Type 0 where
  -- The events of the document, and those of the finish behind them, lead to its notes and to what
  -- was served, and its clients were shown what the run's were.
  pub followed_so : IsTrue (followed document report)
  -- the entries run one after the other from the document's rows, and the tables are those after
  -- the last
  pub serial : IsSerial document report
  -- what was served is legal
  pub legal : IsTrue (is_legal document report)
  -- so it is by what the report alone tells
  pub legal_so : IsTrue (legal_of document report)
  -- and no value was drawn anew twice
  pub fresh_new : IsTrue (is_fresh_new document report)
  -- nor stands one twice among what the entries drew
  pub fresh : IsTrue (fresh report)
  -- each transaction stands in the journal at most once: exactly once where it was shown as
  -- committed, and not at all where it was shown as dropped
  pub once_so : IsTrue (once document report)
  -- with the calls of its script, the answers and kept values that its client was shown, and the
  -- settings of its request, where no two answers that were compared have one digest by chance
  pub same_so : IsTrue (no_clash document report) → IsTrue (same document report)
  -- whatever digests there are, with a stretch of its script, and the settings that its request has
  -- where that begins
  pub scripted_so : IsTrue (scripted document report)
  -- each outcome that was told is the stored one, by the table and the horizon of then; blocks and
  -- entries never share an identifier
  pub stored_so : IsTrue (stored document report)
  -- each request failed for the cause that its steps show, and no other failed
  pub caused_so : IsTrue (caused document report)
  -- each request was shown its script's calls in order, by replies of sessions of its own or by
  -- outcomes of its identifiers, and what a session served since a Begin is what that request sent
  pub whole_so : IsTrue (whole document report)
  -- where the schedule has no cut, crash, failover, upcrash and ask, and the image blocks nothing
  -- that may come, each request was shown all its answers, or failed with PoolWait
  pub calm_so : IsTrue (is_calm document) → IsTrue (all_answered_or_waited document report)
  -- it is read from what the store holds at the end: these bytes, in which an opening reads this
  -- journal
  pub bytes : List ℕ
  pub journal : Journal
  pub holds : journal_of bytes ≡ Ok journal
  pub read : IsReadFrom document report journal
  -- and has the bytes where the document asks for them
  pub image : report.image ≡ image_if document.print_image bytes
