-- Images that hold a front of the records of a step.
use Rattle.std.proofs.Common.{◌≡◌, ◌≢◌, ◌⊎◌, inl, inr, ◌≤◌, ℕ, List, [], ◌∷◌, ◌++◌, length, map, take, fold, refl, sym, ◌∙◌, ap, subst, arith, append_assoc, length-append}
use Rattle.std.proofs.lemmas.List.{length-map, map-append, take-map, take_all, take_at}
use Rattle.std.specs.Prelude.{IfOk, Option, Some, Result, Ok, Err}
use Rattle.disk_model.specs.Moment.{MayLeave}
use Rattle.disk_model.specs.Disk.{DiskState}
use Rattle.svc_values.specs.declared.entry.Ltxid.{Ltxid}
use Rattle.commit_log.specs.declared.journal.Journal.{Journal}
use Rattle.commit_log.specs.declared.journal.Reservation.{Reservation}
use Rattle.commit_log.specs.declared.records.Record.{Record}
use Rattle.commit_log.specs.declared.records.Record.TheVariants as kept
use Rattle.commit_log.specs.Growth.{HasAdded, IsGrown, with_payloads, with_records}
use Rattle.commit_log.specs.meaning.Journals.{whole_record, journal_of}
use Rattle.commit_log.specs.RecordBytes.{spell_record}
use Rattle.commit_log.specs.meaning.Rules.{with_record}
use Rattle.redo_store.specs.meaning.Records.{records_of}
use Rattle.stmt_meaning.specs.meaning.Reads.{Read}
use Rattle.table_txn.specs.Readings.{AreReadings}
use Rattle.server_model.specs.Core.{Core as Plain}
use Rattle.server_model.specs.meaning.Outcomes.{Telling, Stopped}
use Rattle.server_model.specs.Outcomes.{Outcomes}
use Rattle.server_model.specs.Sessions.{Sess, ended}
use Rattle.server_session.specs.declared.shared.Core.{Core}
use Rattle.server_session.specs.Adding.{IsLeftOf}
use Rattle.server_session.specs.Dealing.{reserving}
use Rattle.server_session.specs.Plain.{IsStored, IsPlain}
use Rattle.server_session.specs.SeenSession.{SeenSession, sess_of}
use Rattle.server_session.specs.Serving.{HasStopped}
use Rattle.server_session.specs.Storing.{HasStoppedTelling}
use Rattle.server_session.proofs.Halting.{TakenOf, split_take}

-- ---- what a crash leaves of a stopped step is a front of its records

left_count : (old : List ℕ) (all : List Record) (image : List ℕ) → HasAdded old all image → IsGrown old all image
left_count old all image has = record { count = length all; within = omega arith; has = subst (λ (l : List Record). HasAdded old l image) (sym (take_all (length all) all (omega arith))) has }

pub left_grown : (old : List ℕ) (records : List Record) (last : Record) (image : List ℕ) → IsLeftOf old records last image → IsGrown old (records ++ last ∷ []) image
left_grown old records last image (inl none) = record {
  count = length records;
  within = omega (arith, length-append records (last ∷ []));
  has = subst (λ (l : List Record). HasAdded old l image) (sym (take_at records (last ∷ []) (length records) refl)) none;
}
left_grown old records last image (inr one) = left_count old (records ++ last ∷ []) image one

-- a stopped step, by what a crash may leave of the disk
pub stopped_leaves : (step : Plain → Sess → Plain → Sess → Telling → Type 0) (most : ℕ) (old : SeenSession) (core : Core) (disk end : DiskState) → HasStopped step most old core disk end
    → (plain : Plain) (reads : List Read) → IsPlain plain core disk → AreReadings old.txn.readings reads → (image : List ℕ) → MayLeave end.now image
    → (after : Plain) × (IfOk (journal_of image) (IsStored after) × step plain (sess_of old reads) after (ended (sess_of old reads)) Stopped)
stopped_leaves step most old core disk end stopped plain reads is noted image left =
    stopped.steps plain reads is noted image (left_grown disk.now.seen stopped.records stopped.last image (stopped.halted.left image left))

-- and so an outcome that was stopped
pub telling_leaves : (x : Ltxid) (core : Core) (disk end : DiskState) → HasStoppedTelling x core disk end
    → (plain : Plain) → IsPlain plain core disk → (image : List ℕ) → MayLeave end.now image → (after : Plain) × (IfOk (journal_of image) (IsStored after) × Outcomes plain x after Stopped)
telling_leaves x core disk end stopped plain is image left =
    stopped.steps plain is image (left_grown disk.now.seen [] (kept.Blocked x) image (stopped.halted.left image left))

-- ---- reservations, and then others

fold_on : (journal : Journal) (records more : List Record) → fold with_record journal (records ++ more) ≡ fold with_record (fold with_record journal records) more
fold_on journal [] more = refl
fold_on journal (one ∷ records) more = fold_on (with_record journal one) records more

journal_on : (records more : List Record) (journal : Result Journal ℕ) → with_records (records ++ more) journal ≡ with_records more (with_records records journal)
journal_on records more (Ok journal) = ap (λ (j : Journal). Ok j) (fold_on journal records more)
journal_on records more (Err place) = refl

payloads_on : (records more : List Record) (payloads : Result (List (List ℕ)) ℕ) → with_payloads (records ++ more) payloads ≡ with_payloads more (with_payloads records payloads)
payloads_on records more (Ok payloads) =
    ap (λ (l : List (List ℕ)). Ok l) (ap (λ (l : List (List ℕ)). payloads ++ l) (map-append spell_record records more) ∙ sym (append_assoc payloads (map spell_record records) (map spell_record more)))
payloads_on records more (Err place) = refl

-- the later records are read back where all are
tails : (a b : Option Record) (l m : List (Option Record)) → a ∷ l ≡ b ∷ m → l ≡ m
tails a b l m e = cc

abbrev read_again : Record → Option Record
read_again one = whole_record (spell_record one)

read_behind : (records more : List Record) → map read_again (records ++ more) ≡ map (λ (one : Record). Some one) (records ++ more) → map read_again more ≡ map (λ (one : Record). Some one) more
read_behind [] more read = read
read_behind (one ∷ records) more read =
    read_behind records more (tails (read_again one) (Some one) (map read_again (records ++ more)) (map (λ (r : Record). Some r) (records ++ more)) read)

-- what an image has more than one that has the first records
added_behind : (old between image : List ℕ) (records more : List Record) → HasAdded old records between → HasAdded old (records ++ more) image → HasAdded between more image
added_behind old between image records more first both = record {
  records = both.records ∙ payloads_on records more (records_of old) ∙ ap (with_payloads more) (sym first.records);
  read = read_behind records more both.read;
  journal = both.journal ∙ journal_on records more (journal_of old) ∙ ap (with_records more) (sym first.journal);
}

-- so many of these reservations, and no record more
pub record HasSome (old : List ℕ) (reservations : List Reservation) (image : List ℕ) : Type 0 where
  pub count : ℕ
  pub within : count ≤ length reservations
  pub has : HasAdded old (reserving (take count reservations)) image

some_of : (old : List ℕ) (reservations : List Reservation) (image : List ℕ) (count : ℕ) → count ≤ length (reserving reservations) → HasAdded old (take count (reserving reservations)) image → HasSome old reservations image
some_of old reservations image count few has = record {
  count = count;
  within = simp length-map at few;
  has = subst (λ (l : List Record). HasAdded old l image) (take-map (λ (one : Reservation). kept.Reserved one) count reservations) has;
}

pub grown_some : (old : List ℕ) (reservations : List Reservation) (image : List ℕ) → IsGrown old (reserving reservations) image → HasSome old reservations image
grown_some old reservations image grown = some_of old reservations image grown.count grown.within grown.has

pub some_reserved : (reservations : List Reservation) → reserving reservations ≢ [] → reservations ≢ []
some_reserved reservations some none = some (ap reserving none)

-- some of the reservations, or all of them and some of the others
pub among_or_behind : (old between image : List ℕ) (reservations : List Reservation) (more : List Record) → HasAdded old (reserving reservations) between → IsGrown old (reserving reservations ++ more) image
    → ((reservations ≢ []) × HasSome old reservations image) ⊎ IsGrown between more image
among_or_behind old between image reservations more first grown = by (split_take (reserving reservations) more grown.count)
  where
    by : TakenOf (reserving reservations) more grown.count → ((reservations ≢ []) × HasSome old reservations image) ⊎ IsGrown between more image
    by (inl within) = inl (some_reserved reservations within.0, some_of old reservations image grown.count within.1.0 (subst (λ (l : List Record). HasAdded old l image) within.1.1 grown.has))
    by (inr on) = inr (record {
      count = on.0;
      within = omega (arith, grown.within, on.1.0, length-append (reserving reservations) more);
      has = added_behind old between image (reserving reservations) (take on.0 more) first (subst (λ (l : List Record). HasAdded old l image) on.1.1 grown.has);
    })
