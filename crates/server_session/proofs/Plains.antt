-- A plain server's core goes on beside its journal.
use Rattle.std.proofs.Common.{◌≡◌, ℕ, List, [], ◌∷◌, ◌++◌, sym, ◌∙◌, ap, subst, append_assoc}
use Rattle.std.specs.Prelude.{IfOk, Result, Ok}
use Rattle.disk_model.specs.Disk.{DiskState}
use Rattle.svc_values.specs.declared.entry.Entry.{Entry}
use Rattle.svc_values.specs.declared.entry.Ltxid.{Ltxid}
use Rattle.svc_values.specs.declared.tables.PlainRow.{PlainRow}
use Rattle.svc_values.specs.meaning.Tables.{with_writes}
use Rattle.svc_values.proofs.Offered.{with_writes-append}
use Rattle.commit_log.specs.declared.journal.Journal.{Journal}
use Rattle.commit_log.specs.declared.records.Record.{Record}
use Rattle.commit_log.specs.declared.records.Record.TheVariants as kept
use Rattle.commit_log.specs.meaning.Bases.{start_of}
use Rattle.commit_log.specs.Growth.{HasAdded}
use Rattle.commit_log.specs.meaning.Journals.{journal_of}
use Rattle.commit_log.specs.meaning.Rules.{with_record}
use Rattle.server_model.specs.Core.{Core as Plain, tables_with}
use Rattle.server_model.specs.Outcomes.{with_block}
use Rattle.server_model.specs.Serve.{with_entry, with_alert}
use Rattle.server_session.specs.declared.shared.Core.{Core}
use Rattle.server_session.specs.Fits.{Fits}
use Rattle.server_session.specs.Plain.{IsStored, IsPlain}

-- tables with one entry more
pub tables_with-more : (tables : List PlainRow) (entries : List Entry) (entry : Entry) → tables_with tables (entries ++ entry ∷ []) ≡ with_writes (tables_with tables entries) entry.writes
tables_with-more tables [] entry = with_writes-append tables entry.writes []
tables_with-more tables (first ∷ entries) entry =
    with_writes-append tables first.writes _
    ∙ tables_with-more (with_writes tables first.writes) entries entry
    ∙ ap (λ (rows : List PlainRow). with_writes rows entry.writes) (sym (with_writes-append tables first.writes _))

pub stored_alert : (plain : Plain) (journal : Journal) (line : List ℕ) → IsStored plain journal → IsStored (with_alert plain line) (with_record journal (kept.Alert line))
stored_alert plain journal line is = record {
  shape = is.shape;
  entries = is.entries;
  blocked = is.blocked;
  alerts = sym (append_assoc plain.base.alerts plain.alerts (line ∷ [])) ∙ ap (λ (l : List (List ℕ)). l ++ line ∷ []) is.alerts;
  horizon = is.horizon;
  tables = is.tables;
  source = record { incarnation = is.source.incarnation; sequences = is.source.sequences };
}

pub stored_block : (plain : Plain) (journal : Journal) (x : Ltxid) → IsStored plain journal → IsStored (with_block plain x) (with_record journal (kept.Blocked x))
stored_block plain journal x is = record {
  shape = is.shape;
  entries = is.entries;
  blocked = sym (append_assoc plain.base.blocked plain.blocked (x ∷ [])) ∙ ap (λ (l : List Ltxid). l ++ x ∷ []) is.blocked;
  alerts = is.alerts;
  horizon = is.horizon;
  tables = is.tables;
  source = record { incarnation = is.source.incarnation; sequences = is.source.sequences };
}

pub stored_commit : (plain : Plain) (journal : Journal) (entry : Entry) → IsStored plain journal → IsStored (with_entry plain entry) (with_record journal (kept.Commit entry))
stored_commit plain journal entry is = record {
  shape = is.shape;
  entries = sym (append_assoc plain.base.entries plain.entries (entry ∷ [])) ∙ ap (λ (l : List Entry). l ++ entry ∷ []) is.entries;
  blocked = is.blocked;
  alerts = is.alerts;
  horizon = is.horizon;
  tables =
      tables_with-more plain.base.tables plain.entries entry
      ∙ ap (λ (rows : List PlainRow). with_writes rows entry.writes) is.tables
      ∙ sym (tables_with-more (start_of journal.base) journal.entries entry);
  source = record { incarnation = is.source.incarnation; sequences = is.source.sequences };
}

-- ---- what a disk reads as

-- the plain server's core, by the journal that the disk reads as
pub is_stored : (plain : Plain) (core : Core) (disk : DiskState) (fits : Fits core disk) → IsPlain plain core disk → IsStored plain fits.journal
is_stored plain core disk fits is = subst (λ (r : Result Journal ℕ). IfOk r (IsStored plain)) fits.reads is.stored

-- an image that reads as a journal
pub reads_stored : (plain : Plain) (image : List ℕ) (journal : Journal) → journal_of image ≡ Ok journal → IsStored plain journal → IfOk (journal_of image) (IsStored plain)
reads_stored plain image journal reads is = subst (λ (r : Result Journal ℕ). IfOk r (IsStored plain)) (sym reads) is

-- the journal of an image with no record more, and with one more
pub reads_same : (old image : List ℕ) (journal : Journal) → journal_of old ≡ Ok journal → HasAdded old [] image → journal_of image ≡ Ok journal
reads_same old image journal reads added = rw reads at added.journal

pub reads_more : (old image : List ℕ) (journal : Journal) (one : Record) → journal_of old ≡ Ok journal → HasAdded old (one ∷ []) image → journal_of image ≡ Ok (with_record journal one)
reads_more old image journal one reads added = rw reads at added.journal
