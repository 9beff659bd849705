-- What a journal that was read keeps to, and what the front of its records is.
use Rattle.std.specs.Prelude.{◌≡◌, ℕ, ℤ, pos, ◌+◌, ◌*◌, ◌+ℤ◌, ◌-ℤ◌, ◌^◌, ◌≤◌, false, int_lt, List, ◌∷◌, ◌++◌, length, map, filter, fold, IsTrue, All, Some, Ok}
use Rattle.std.specs.List.{range_with_len}
use Rattle.std.specs.Str.{bytes_eq}
use Rattle.svc_values.specs.declared.schema.Schema.{Schema}
use Rattle.svc_values.specs.declared.entry.Entry.{Entry}
use Rattle.svc_values.specs.declared.entry.Ltxid.{Ltxid}
use Rattle.svc_values.specs.declared.entry.SessionId.{SessionId}
use Rattle.svc_values.specs.meaning.Identifiers.{same_ltxid, ltxid_of}
use Rattle.svc_values.specs.meaning.Names.{is_name_of}
use Rattle.svc_values.specs.meaning.Fitting.{writes_fit}
use Rattle.ltxid_book.specs.meaning.Journal.{committed_of, commits_of, is_blocked}
use Rattle.ltxid_book.specs.Journal.{BlocksStand}
use Rattle.redo_store.specs.meaning.Records.{records_of}
use Rattle.commit_log.specs.declared.base.BaseSequence.{BaseSequence}
use Rattle.commit_log.specs.declared.journal.Journal.{Journal}
use Rattle.commit_log.specs.declared.journal.Reservation.{Reservation}
use Rattle.commit_log.specs.declared.records.Record.{Record}
use Rattle.commit_log.specs.meaning.Bases.{schemas_of, sequence_name}
use Rattle.commit_log.specs.Bases.{IsBase}
use Rattle.commit_log.specs.meaning.Rules.{end_of, with_record}
use Rattle.commit_log.specs.meaning.Journals.{whole_record, journal_of}

-- the identifiers of a session's entries, in order
abbrev pub ltxids_of : List Entry → SessionId → List Ltxid
ltxids_of entries session = map (λ c. c.ltxid)
    (commits_of (map committed_of entries) session.incarnation session.session)

-- Entries and blocks of a store of these declarations, in which the last opening had this
-- incarnation.
pub record AreCommits (schemas : List Schema) (incarnation : ℕ) (entries : List Entry)
    (blocked : List Ltxid) : Type 0 where
  -- no entry is of a later incarnation, and its writes fit the tables
  pub earlier : All (λ entry. entry.ltxid.incarnation ≤ incarnation) entries
  pub fitting : All (λ entry. IsTrue (writes_fit schemas entry.writes)) entries
  -- the entries of a session have the numbers 0, 1, 2 and so on, in order
  pub counted : (session : SessionId) → ltxids_of entries session ≡ map (ltxid_of session)
      (range_with_len 0 (length (ltxids_of entries session)))
  -- each blocked identifier is its session's next one, so no entry has it, and it is blocked once;
  -- it may be of any incarnation
  pub standing : BlocksStand (map committed_of entries) blocked
  pub free : All (λ entry. is_blocked blocked entry.ltxid ≡ false) entries
  pub once : (x : Ltxid) → length (filter (λ block. same_ltxid block x) blocked) ≤ 1

-- where the reservations of a sequence end, in order
abbrev pub ends_of : List Reservation → BaseSequence → List ℤ
ends_of reserved sequence = map (λ reservation. reservation.upto)
    (filter (λ reservation. bytes_eq reservation.name sequence.name) reserved)

-- where so many reservations and one more end: 15 above its start ends the first, and each next one
-- 16 higher
abbrev pub end_after : BaseSequence → ℕ → ℤ
end_after sequence before = sequence.start +ℤ pos (16 * before + 15)

-- Reservations of a store with these sequences.
pub record AreReservations (sequences : List BaseSequence)
    (reserved : List Reservation) : Type 0 where
  -- each is of one of them
  pub named : All (λ reservation. IsTrue (is_name_of
      (map sequence_name sequences) reservation.name)) reserved
  -- those of one sequence follow each other without a gap, and its values end with the last one
  pub in_turn : All (λ sequence. ends_of reserved sequence
      ≡ map (end_after sequence) (range_with_len 0 (length (ends_of reserved sequence)))) sequences
  pub last : All (λ sequence. end_of reserved sequence
      ≡ (sequence.start -ℤ pos 1) +ℤ pos (16 * length (ends_of reserved sequence))) sequences

-- The journal of an image.
pub record KeepsJournal (image : List ℕ) (journal : Journal) : Type 0 where
  pub base : IsBase journal.base
  pub incarnation : journal.incarnation ≤ 2 ^ 63
  -- at most all incarnations so far are forgotten
  pub horizon : journal.horizon ≤ journal.incarnation + 1
  pub commits : AreCommits (schemas_of journal.base) journal.incarnation journal.entries
      journal.blocked
  pub reservations : AreReservations journal.base.sequences journal.reserved
  -- A reservation takes more bytes than it adds values, so a sequence ends less above its start
  -- than the image has bytes.
  pub within : All (λ sequence. IsTrue (int_lt (end_of journal.reserved sequence)
      (sequence.start +ℤ pos (length image)))) journal.base.sequences

-- whatever image has a journal
abbrev pub EachKeeps : Type 0
EachKeeps = (image : List ℕ) (journal : Journal) → journal_of image ≡ Ok journal
    → KeepsJournal image journal

-- An image has the journal of an earlier time, behind which came records with these bytes.
pub record WasJournal (journal : Journal) (rest : List (List ℕ)) (front : List ℕ) : Type 0 where
  pub earlier : Journal
  pub read : journal_of front ≡ Ok earlier
  pub since : List Record
  pub spelled : map whole_record rest ≡ map (λ one. Some one) since
  pub grown : fold with_record earlier since ≡ journal
  -- it began with the same base, and no opening since had a lower incarnation
  pub base : earlier.base ≡ journal.base
  pub lower : earlier.incarnation ≤ journal.incarnation

-- a front of a journal's records, its base at least, is a journal
abbrev pub FrontsAreJournals : Type 0
FrontsAreJournals =
    (image front : List ℕ) (journal : Journal) (first : List ℕ) (more rest : List (List ℕ))
    → journal_of image ≡ Ok journal → records_of image ≡ Ok (first ∷ more ++ rest)
    → records_of front ≡ Ok (first ∷ more)
    → WasJournal journal rest front
