-- A store that is read has a first record; and what was added behind it, as fronts and as stores
-- between.
use Rattle.std.proofs.Common.{◌≡◌, ◌∙◌, ◌+◌, ℕ, Bool, true, false, refl, sym, ap, List, [], ◌∷◌, ◌++◌, length, map, fold, append-nil, length-append}
use Rattle.std.proofs.lemmas.List.{length-map}
use Rattle.std.specs.Prelude.{Option, Some, None, is_some, Result, Ok, Err}
use Rattle.disk_model.specs.Disk.{DiskState}
use Rattle.redo_store.specs.Records.{record_count}
use Rattle.redo_store.specs.meaning.Records.{records_of}
use Rattle.mutable_values.specs.declared.grants.Grants.{Grants}
use Rattle.commit_log.specs.declared.journal.Journal.{Journal}
use Rattle.commit_log.specs.declared.records.Record.{Record}
use Rattle.commit_log.specs.Growth.{HasAdded, with_payloads, with_records}
use Rattle.commit_log.specs.RecordBytes.{spell_record}
use Rattle.commit_log.specs.meaning.Journals.{journal_of}
use Rattle.commit_log.specs.meaning.Rules.{with_record}
use Rattle.server_session.specs.declared.shared.Core.{Core}
use Rattle.server_model.specs.Seen.{Store}
use Rattle.service_core.specs.declared.notes.Notes.{Notes}
use Rattle.service_core.specs.Held.{Held}
use Rattle.service_core.specs.InnerHonest.{store_is}
use Rattle.service_core.specs.Seeing.{store_in, store_of}
use Rattle.service_core.specs.Sound.{IsSound, IsSoundWithin}
use Rattle.service_core.specs.Unanswered.{LiesBetween}
use Rattle.service_core.specs.Within.{Within}
use Rattle.service_core.proofs.Offered.{has_records, none_read}
use Rattle.standby_ship.specs.Sound.{IsFrontOf}

-- ---- the first record

-- it has a first record, and reads as a journal
pub record Begins (image : List ℕ) : Type 0 where
  pub base : List ℕ
  pub some : List (List ℕ)
  pub is : records_of image ≡ Ok (base ∷ some)
  pub journal : Journal
  pub reads : journal_of image ≡ Ok journal

begins_with : (image : List ℕ) (journal : Journal) (payloads : List (List ℕ)) → journal_of image ≡ Ok journal → records_of image ≡ Ok payloads → Begins image
begins_with image journal [] reads are = absurd (none_read image journal reads are)
begins_with image journal (base ∷ some) reads are = record { base = base; some = some; is = are; journal = journal; reads = reads }

pub begins : (image : List ℕ) (journal : Journal) → journal_of image ≡ Ok journal → Begins image
begins image journal reads =
    let found = has_records image journal reads in
    begins_with image journal found.payloads reads found.are

-- what a service that is up holds
record IsUpOn (disk : DiskState) (notes : Notes) : Type 0 where
  begun : Begins disk.now.seen
  settled : notes.is_settled ≡ true

up_on : (grants : Grants) (disk : DiskState) (core : Option Core) (held : Held) (notes : Notes) → is_some core ≡ true → IsSound grants disk core held notes → IsUpOn disk notes
up_on grants disk None held notes up sound = absurd (let e : ◌≡◌ {A = Bool} false true = up in let none : ⊥ = cc in none)
up_on grants disk (Some core) held notes up sound = record { begun = begins disk.now.seen sound.fits.journal sound.fits.reads; settled = sound.settled }

pub begins_up : (service : Within) → is_some service.core ≡ true → IsSoundWithin service → Begins service.disk.now.seen
begins_up service up sound = (up_on service.grants service.disk service.core service.held service.notes up sound).begun

pub settled_up : (service : Within) → is_some service.core ≡ true → IsSoundWithin service → service.notes.is_settled ≡ true
settled_up service up sound = (up_on service.grants service.disk service.core service.held service.notes up sound).settled

-- ---- what was added

pub added_records : (old : List ℕ) (added : List Record) (image : List ℕ) → (begun : Begins old) → HasAdded old added image → records_of image ≡ Ok (begun.base ∷ begun.some ++ map spell_record added)
added_records old added image begun has = has.records ∙ ap (with_payloads added) begun.is

pub added_begins : (old : List ℕ) (added : List Record) (image : List ℕ) → Begins old → HasAdded old added image → Begins image
added_begins old added image begun has = record {
  base = begun.base;
  some = begun.some ++ map spell_record added;
  is = added_records old added image begun has;
  journal = fold with_record begun.journal added;
  reads = has.journal ∙ ap (with_records added) begun.reads;
}

-- as many records more
pub added_count : (old : List ℕ) (added : List Record) (image : List ℕ) → Begins old → HasAdded old added image → record_count (records_of image) ≡ record_count (records_of old) + length added
added_count old added image begun has =
    let here : record_count (records_of image) ≡ length ((begun.base ∷ begun.some) ++ map spell_record added) = ap record_count (added_records old added image begun has) in
    let there : record_count (records_of old) ≡ length (begun.base ∷ begun.some) = ap record_count begun.is in
    here ∙ length-append (begun.base ∷ begun.some) (map spell_record added) ∙ ap (λ (n : ℕ). n + length (map spell_record added)) (sym there) ∙ ap (λ (n : ℕ). record_count (records_of old) + n) (length-map added spell_record)

-- the number of records that the store has
pub count_stored : (image : List ℕ) → Begins image → (store_of image).records ≡ record_count (records_of image)
count_stored image begun = ap (λ (s : Store). s.records) (store_is image begun.journal begun.reads)

-- a store with the old records is a front of it
pub added_front : (old : List ℕ) (added : List Record) (image second : List ℕ) → records_of second ≡ records_of old → Begins old → HasAdded old added image → IsFrontOf second image
added_front old added image second same begun has = record {
  base = begun.base;
  some = begun.some;
  more = map spell_record added;
  image_is = same ∙ begun.is;
  whole_is = added_records old added image begun has;
}

-- one with as many records is its own front
pub same_front : (image whole : List ℕ) → records_of image ≡ records_of whole → Begins whole → IsFrontOf image whole
same_front image whole same begun = record {
  base = begun.base;
  some = begun.some;
  more = [];
  image_is = same ∙ begun.is;
  whole_is = begun.is ∙ ap (λ (l : List (List ℕ)). Ok (begun.base ∷ l)) (sym (append-nil begun.some));
}

-- ---- between

-- all of it
pub added_lies : (old : List ℕ) (added : List Record) (image : List ℕ) → Begins old → HasAdded old added image → LiesBetween old image image
added_lies old added image begun has = record {
  records = begun.base ∷ begun.some;
  some = map spell_record added;
  more = [];
  old_is = begun.is;
  image_is = added_records old added image begun has;
  new_is = added_records old added image begun has ∙ ap (λ (l : List (List ℕ)). Ok l) (sym (append-nil ((begun.base ∷ begun.some) ++ map spell_record added)));
}

-- nothing of it
pub none_lies : (old : List ℕ) (added : List Record) (image second : List ℕ) → records_of second ≡ records_of old → Begins old → HasAdded old added image → LiesBetween old second image
none_lies old added image second same begun has = record {
  records = begun.base ∷ begun.some;
  some = [];
  more = map spell_record added;
  old_is = begun.is;
  image_is = same ∙ begun.is ∙ ap (λ (l : List (List ℕ)). Ok l) (sym (append-nil (begun.base ∷ begun.some)));
  new_is = added_records old added image begun has ∙ ap (λ (l : List (List ℕ)). Ok (l ++ map spell_record added)) (sym (append-nil (begun.base ∷ begun.some)));
}

-- between this one and others with the same records
pub lies_alike : (before old image whole : List ℕ) → records_of before ≡ records_of old → LiesBetween before image whole → LiesBetween old image whole
lies_alike before old image whole same lies = record { records = lies.records; some = lies.some; more = lies.more; old_is = sym same ∙ lies.old_is; image_is = lies.image_is; new_is = lies.new_is }

same_records : (old : List ℕ) (records : List (List ℕ)) → (begun : Begins old) → records_of old ≡ Ok records → records ≡ begun.base ∷ begun.some
same_records old records begun are =
    let e : ◌≡◌ {A = Result (List (List ℕ)) ℕ} (Ok records) (Ok (begun.base ∷ begun.some)) = sym are ∙ begun.is in
    let same : records ≡ begun.base ∷ begun.some = cc in
    same

-- so it is a front
pub lies_front : (old image whole : List ℕ) → Begins old → LiesBetween old image whole → IsFrontOf image whole
lies_front old image whole begun lies =
    let same = same_records old lies.records begun lies.old_is in
    record {
      base = begun.base;
      some = begun.some ++ lies.some;
      more = lies.more;
      image_is = lies.image_is ∙ ap (λ (l : List (List ℕ)). Ok (l ++ lies.some)) same;
      whole_is = lies.new_is ∙ ap (λ (l : List (List ℕ)). Ok (l ++ lies.some ++ lies.more)) same;
    }

-- a store to which no record was added says the same
with_none : (r : Result Journal ℕ) → with_records [] r ≡ r
with_none (Ok journal) = refl
with_none (Err place) = refl

none_more : (r : Result (List (List ℕ)) ℕ) → with_payloads [] r ≡ r
none_more (Ok records) = ap (λ (l : List (List ℕ)). Ok l) (append-nil records)
none_more (Err place) = refl

pub none_added : (old : List ℕ) (added : List Record) (image : List ℕ) → added ≡ [] → HasAdded old added image → store_of image ≡ store_of old
none_added old added image none has =
    let journals : journal_of image ≡ journal_of old = has.journal ∙ ap (λ (l : List Record). with_records l (journal_of old)) none ∙ with_none (journal_of old) in
    let records : records_of image ≡ records_of old = has.records ∙ ap (λ (l : List Record). with_payloads l (records_of old)) none ∙ none_more (records_of old) in
    ap (λ (r : Result Journal ℕ). store_in r (record_count (records_of image))) journals ∙ ap (λ (r : Result (List (List ℕ)) ℕ). store_in (journal_of old) (record_count r)) records
