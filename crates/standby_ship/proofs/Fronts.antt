-- A store with the same records says the same, and one with the first of them is one to go on from.
use Rattle.std.proofs.Common.{◌≡◌, ◌∙◌, ℕ, refl, sym, ap, subst, List, [], ◌∷◌, append-nil, arith}
use Rattle.std.specs.Prelude.{Option, Some, Result, Ok, map, fold}
use Rattle.redo_store.specs.Records.{record_count}
use Rattle.redo_store.specs.meaning.Records.{records_of}
use Rattle.commit_log.specs.declared.base.Base.{Base as Begun}
use Rattle.commit_log.specs.declared.journal.Journal.{Journal}
use Rattle.commit_log.specs.declared.records.Record.{Record}
use Rattle.commit_log.specs.meaning.Journals.{journal_of}
use Rattle.commit_log.specs.meaning.Rules.{with_record}
use Rattle.commit_log.proofs.Offered.{fronts_are_journals}
use Rattle.service_calls.specs.Kept.{HaveOneBase}
use Rattle.service_core.specs.declared.notes.Notes.{Notes}
use Rattle.service_core.specs.Seeing.{store_in, store_of}
use Rattle.service_core.specs.Sound.{Reads}
use Rattle.service_core.proofs.Offered.{has_records, none_read}
use Rattle.standby_ship.specs.Sound.{IsFrontOf}

-- ---- the same records

none_since : (since : List Record) → [] ≡ map (λ one. Some one) since → since ≡ []
none_since [] none = refl
none_since (one ∷ since) none = absurd (let e : ◌≡◌ {A = List (Option Record)} [] (Some one ∷ map (λ one. Some one) since) = none in let no : ⊥ = cc in no)

-- the journal of one store is that of another with the same records
pub same_journal : (image whole : List ℕ) (journal : Journal) (first : List ℕ) (records : List (List ℕ)) → journal_of whole ≡ Ok journal → records_of whole ≡ Ok (first ∷ records) → records_of image ≡ Ok (first ∷ records) → journal_of image ≡ Ok journal
same_journal image whole journal first records reads there here =
    let was = fronts_are_journals whole image journal first records [] reads (there ∙ ap (λ (l : List (List ℕ)). Ok (first ∷ l)) (sym (append-nil records))) here in
    let same : was.earlier ≡ journal = subst (λ (since : List Record). fold with_record was.earlier since ≡ journal) (none_since was.since was.spelled) was.grown in
    was.read ∙ ap (λ (j : Journal). Ok j) same

-- they hold the same
pub same_store : (image whole : List ℕ) (journal : Journal) (first : List ℕ) (records : List (List ℕ)) → journal_of whole ≡ Ok journal → records_of whole ≡ Ok (first ∷ records) → records_of image ≡ Ok (first ∷ records) → store_of image ≡ store_of whole
same_store image whole journal first records reads there here =
    ap (λ (r : Result Journal ℕ). store_in r (record_count (records_of image))) (same_journal image whole journal first records reads there here ∙ sym reads)
    ∙ ap (λ (r : Result (List (List ℕ)) ℕ). store_in (journal_of whole) (record_count r)) (here ∙ sym there)

-- the same records are the first ones
front_of : (image whole : List ℕ) (journal : Journal) (all : List (List ℕ)) → journal_of whole ≡ Ok journal → records_of image ≡ records_of whole → records_of whole ≡ Ok all → IsFrontOf image whole
front_of image whole journal [] reads same are = absurd (none_read whole journal reads are)
front_of image whole journal (first ∷ records) reads same are = record {
  base = first;
  some = records;
  more = [];
  image_is = same ∙ are;
  whole_is = are ∙ ap (λ (l : List (List ℕ)). Ok (first ∷ l)) (sym (append-nil records));
}

pub same_front : (image whole : List ℕ) (journal : Journal) → journal_of whole ≡ Ok journal → records_of image ≡ records_of whole → IsFrontOf image whole
same_front image whole journal reads same = let has = has_records whole journal reads in front_of image whole journal has.payloads reads same has.are

-- ---- the first records

-- a front of a store reads as one to go on from
pub front_reads : (base : Begun) (notes : Notes) (image whole : List ℕ) → IsFrontOf image whole → Reads base notes whole → Reads base notes image
front_reads base notes image whole front read =
    let was = fronts_are_journals whole image read.journal front.base front.some front.more read.reads front.whole_is front.image_is in
    record { journal = was.earlier; reads = was.read; base_is = was.base ∙ read.base_is; room = omega (arith, was.lower, read.room) }

-- and it has the base
pub front_base : (image whole : List ℕ) → IsFrontOf image whole → HaveOneBase whole image
front_base image whole front journal other reads here =
    let was = fronts_are_journals whole image journal front.base front.some front.more reads front.whole_is front.image_is in
    let e : ◌≡◌ {A = Result Journal ℕ} (Ok was.earlier) (Ok other) = sym was.read ∙ here in
    let same : was.earlier ≡ other = cc in
    ap (λ (j : Journal). j.base) (sym same) ∙ was.base
