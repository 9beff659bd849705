-- How stores grow, at a moment and from call to call.
use Rattle.std.proofs.Common.{◌≡◌, ℕ, ◌+◌, ◌≤◌, zero, suc, List, [], ◌∷◌, ◌++◌, length, map, take, Option, Some, None, inl, inr, refl, sym, ◌∙◌, ap, subst, arith, length-append, append_assoc, append-nil, fold}
use Rattle.std.specs.Prelude.{Bool, false, ◌||◌, IsTrue, Result, Ok, Err, if◌then◌else◌}
use Rattle.std.proofs.lemmas.List.{map-append}
use Rattle.disk_model.specs.Disk.{DiskState, Meanwhile, SameBytes}
use Rattle.disk_model.proofs.Offered.{stays, then as after_that, weaker}
use Rattle.redo_store.specs.meaning.Records.{records_of}
use Rattle.redo_store.specs.Records.{with_last}
use Rattle.commit_log.specs.declared.journal.Journal.{Journal}
use Rattle.commit_log.specs.declared.base.Base.{Base}
use Rattle.commit_log.specs.declared.records.Record.{Record}
use Rattle.commit_log.specs.declared.records.Record.TheVariants as kept
use Rattle.commit_log.specs.Bases.{IsBase}
use Rattle.commit_log.specs.RecordBytes.{spell_record}
use Rattle.commit_log.specs.meaning.Rules.{SoFar, Empty, Begun, new_journal, with_record, is_opening, is_horizon, may_come, after}
use Rattle.commit_log.specs.meaning.Journals.{whole_record, journal_in, journal_of, so_far_of}
use Rattle.commit_log.specs.Adding.{HasAlso, IsOldOrWith}
use Rattle.commit_log.specs.Growth.{with_records, with_payloads, HasAdded, IsGrown}
use Rattle.commit_log.specs.Laws.{GrowsByNone, GrowsByMore, GrowsOn, AddsOn}
use Rattle.commit_log.proofs.Steps.{read_back, so_far_by_records, so_far_after, so_far_stays}

-- ---- no record more

none_added : (journal : Result Journal ℕ) → with_records [] journal ≡ journal
none_added (Ok journal) = refl
none_added (Err place) = refl

no_payload : (payloads : Result (List (List ℕ)) ℕ) → with_payloads [] payloads ≡ payloads
no_payload (Ok payloads) = ap (λ (l : List (List ℕ)). Ok l) (append-nil payloads)
no_payload (Err place) = refl

pub has_none : (old image : List ℕ) → records_of image ≡ records_of old → journal_of image ≡ journal_of old → HasAdded old [] image
has_none old image records journal = record { records = records ∙ sym (no_payload (records_of old)); read = refl; journal = journal ∙ sym (none_added (journal_of old)) }

pub has_itself : (old : List ℕ) → HasAdded old [] old
has_itself old = has_none old old refl refl

-- ---- records behind records

fold_on : (journal : Journal) (records more : List Record) → fold with_record journal (records ++ more) ≡ fold with_record (fold with_record journal records) more
fold_on journal [] more = refl
fold_on journal (first ∷ records) more = fold_on (with_record journal first) records more

added_on : (records more : List Record) (journal : Result Journal ℕ) → with_records more (with_records records journal) ≡ with_records (records ++ more) journal
added_on records more (Ok journal) = ap (λ (j : Journal). Ok j) (sym (fold_on journal records more))
added_on records more (Err place) = refl

payloads_on : (records more : List Record) (payloads : Result (List (List ℕ)) ℕ) → with_payloads more (with_payloads records payloads) ≡ with_payloads (records ++ more) payloads
payloads_on records more (Ok payloads) =
    ap (λ (l : List (List ℕ)). Ok l) (append_assoc payloads (map spell_record records) (map spell_record more) ∙ ap (λ (l : List (List ℕ)). payloads ++ l) (sym (map-append spell_record records more)))
payloads_on records more (Err place) = refl

-- a record that is read back from its bytes
abbrev read_again : Record → Option Record
read_again one = whole_record (spell_record one)

read_on : (records more : List Record) → map read_again records ≡ map (λ (one : Record). Some one) records → map read_again more ≡ map (λ (one : Record). Some one) more
    → map read_again (records ++ more) ≡ map (λ (one : Record). Some one) (records ++ more)
read_on records more first second =
    map-append read_again records more
    ∙ ap (λ (l : List (Option Record)). l ++ map read_again more) first
    ∙ ap (λ (l : List (Option Record)). map (λ (one : Record). Some one) records ++ l) second
    ∙ sym (map-append (λ (one : Record). Some one) records more)

pub adds_on : AddsOn
adds_on old records between more image first second = record {
  records = second.records ∙ ap (with_payloads more) first.records ∙ payloads_on records more (records_of old);
  read = read_on records more first.read second.read;
  journal = second.journal ∙ ap (with_records more) first.journal ∙ added_on records more (journal_of old);
}

-- ---- some of the records

pub grows_by_none : GrowsByNone
grows_by_none old records image none = record { count = 0; within = omega arith; has = none }

take_within : (count : ℕ) (records more : List Record) → count ≤ length records → take count (records ++ more) ≡ take count records
take_within zero records more le = refl
take_within (suc count) [] more le = absurd (omega (arith, le))
take_within (suc count) (first ∷ records) more le = ap (λ (l : List Record). first ∷ l) (take_within count records more (omega (arith, le)))

pub grows_by_more : GrowsByMore
grows_by_more old records more image grown = record {
  count = grown.count;
  within = omega (arith, grown.within, length-append records more);
  has = subst (λ (l : List Record). HasAdded old l image) (sym (take_within grown.count records more grown.within)) grown.has;
}

take_past : (records more : List Record) (count : ℕ) → take (length records + count) (records ++ more) ≡ records ++ take count more
take_past [] more count = let none : 0 + count ≡ count = omega arith in ap (λ n. take n more) none
take_past (first ∷ records) more count =
    let one : suc (length records) + count ≡ suc (length records + count) = omega arith in
    ap (λ n. take n (first ∷ (records ++ more))) one ∙ ap (λ (l : List Record). first ∷ l) (take_past records more count)

pub grows_on : GrowsOn
grows_on old records between more image after_first grown = record {
  count = length records + grown.count;
  within = omega (arith, grown.within, length-append records more);
  has = subst (λ (l : List Record). HasAdded old l image) (sym (take_past records more grown.count)) (adds_on old records between (take grown.count more) image after_first grown.has);
}

take_all_of : (records : List Record) → take (length records) records ≡ records
take_all_of [] = refl
take_all_of (first ∷ records) = ap (λ (l : List Record). first ∷ l) (take_all_of records)

-- all of them
pub grown_by_all : (old : List ℕ) (records : List Record) (image : List ℕ) → HasAdded old records image → IsGrown old records image
grown_by_all old records image has = record { count = length records; within = omega arith; has = subst (λ (l : List Record). HasAdded old l image) (sym (take_all_of records)) has }

-- all of them, and then no more
pub has_still : (old : List ℕ) (records : List Record) (between image : List ℕ) → HasAdded old records between → HasAdded between [] image → HasAdded old records image
has_still old records between image has none = subst (λ (l : List Record). HasAdded old l image) (append-nil records) (adds_on old records between [] image has none)

-- ---- one record

last_is_added : (one : Record) (payloads : Result (List (List ℕ)) ℕ) → with_last (spell_record one) payloads ≡ with_payloads (one ∷ []) payloads
last_is_added one (Ok payloads) = refl
last_is_added one (Err place) = refl

-- a record that may come next
pub record_comes : (journal : Journal) (is_opened has_horizon : Bool) (one : Record) → IsTrue (may_come journal is_opened has_horizon one)
    → after (Begun journal is_opened has_horizon) one ≡ Some (Begun (with_record journal one) (is_opened || is_opening one) (has_horizon || is_horizon one))
record_comes journal is_opened has_horizon one may = ap (λ (b : Bool). if b then Some (Begun (with_record journal one) (is_opened || is_opening one) (has_horizon || is_horizon one)) else None) may

module _ (old : List ℕ) (one : Record) (journal : Journal) (is_opened has_horizon : Bool) (begun : so_far_of old ≡ Ok (Begun journal is_opened has_horizon)) (may : IsTrue (may_come journal is_opened has_horizon one)) where
  -- how far the journal has come with the record
  pub comes_to : (image : List ℕ) → HasAlso old one image → so_far_of image ≡ Ok (Begun (with_record journal one) (is_opened || is_opening one) (has_horizon || is_horizon one))
  comes_to image also =
      so_far_after old image one (Begun journal is_opened has_horizon) (Begun (with_record journal one) (is_opened || is_opening one) (has_horizon || is_horizon one)) begun (record_comes journal is_opened has_horizon one may) also

  -- the old records with this one
  pub has_one : (image : List ℕ) → HasAlso old one image → HasAdded old (one ∷ []) image
  has_one image also = record {
    records = also.records ∙ last_is_added one (records_of old);
    read = ap (λ (o : Option Record). o ∷ []) (read_back one also.fits);
    journal = ap journal_in (comes_to image also) ∙ sym (ap (λ (r : Result SoFar ℕ). with_records (one ∷ []) (journal_in r)) begun);
  }

  -- the old records
  pub still_at : (image : List ℕ) → records_of image ≡ records_of old → so_far_of image ≡ Ok (Begun journal is_opened has_horizon)
  still_at image same = so_far_stays old image (Begun journal is_opened has_horizon) begun same

  pub has_no_more : (image : List ℕ) → records_of image ≡ records_of old → HasAdded old [] image
  has_no_more image same = has_none old image same (ap journal_in (still_at image same ∙ sym begun))

  pub grown_by_one : (image : List ℕ) → IsOldOrWith old one image → IsGrown old (one ∷ []) image
  grown_by_one image (inl same) = grows_by_none old (one ∷ []) image (has_no_more image same)
  grown_by_one image (inr also) = grown_by_all old (one ∷ []) image (has_one image also)

-- the base, in a store without a record
pub begins_with_base : (old image : List ℕ) (base : Base) → IsBase base → records_of old ≡ Ok [] → HasAlso old (kept.Base base) image → so_far_of image ≡ Ok (Begun (new_journal base) false false)
begins_with_base old image base is none also =
    let may : after Empty (kept.Base base) ≡ Some (Begun (new_journal base) false false) = ap (λ (b : Bool). if b then Some (Begun (new_journal base) false false) else None) is in
    so_far_after old image (kept.Base base) Empty (Begun (new_journal base) false false) (so_far_by_records old [] none) may also

-- ---- from call to call

-- a run that adds nothing
pub grown_stays : (s t : DiskState) (old : List ℕ) (records : List Record) → SameBytes s t → Meanwhile s t (IsGrown old records)
grown_stays s t old records same = stays s t (IsGrown old records) same

-- a run of which more is promised
pub grown_more : (s t : DiskState) (old : List ℕ) (records more : List Record) → Meanwhile s t (IsGrown old records) → Meanwhile s t (IsGrown old (records ++ more))
grown_more s t old records more run = weaker s t (IsGrown old records) (IsGrown old (records ++ more)) run (λ image. grows_by_more old records more image)

-- a run that added all of its records, and then another
pub grown_then : (s t u : DiskState) (old : List ℕ) (records more : List Record) → Meanwhile s t (IsGrown old records) → HasAdded old records t.now.seen → Meanwhile t u (IsGrown t.now.seen more) → Meanwhile s u (IsGrown old (records ++ more))
grown_then s t u old records more first added second =
    after_that s t u (IsGrown old (records ++ more)) (grown_more s t old records more first)
    (weaker t u (IsGrown t.now.seen more) (IsGrown old (records ++ more)) second (λ image. grows_on old records t.now.seen more image added))
