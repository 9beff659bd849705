-- What the journal before event 1 keeps to.
use Rattle.std.proofs.Common.{◌≡◌, ℕ, List, Bool, true, false, refl, arith}
use Rattle.std.specs.Prelude.{All, Option, Some, None, Result, Ok, Err, IsTrue, length, ◌==◌, ◌&&◌}
use Rattle.svc_values.specs.meaning.Fitting.{writes_fit}
use Rattle.commit_log.specs.declared.base.Base.{Base}
use Rattle.commit_log.specs.declared.journal.Journal.{Journal}
use Rattle.commit_log.specs.meaning.Bases.{schemas_of}
use Rattle.commit_log.specs.meaning.Journals.{journal_of}
use Rattle.commit_log.specs.Bases.{IsBase}
use Rattle.commit_log.specs.Keeping.{EachKeeps}
use Rattle.json_form.proofs.Offered.{second_true}
use Rattle.outage_schedule.specs.declared.document.DocTable.{DocTable}
use Rattle.outage_schedule.specs.declared.document.DocSequence.{DocSequence}
use Rattle.outage_schedule.specs.declared.document.Document.{Document}
use Rattle.doc_reader.specs.Keeping.{IsDocument, is_begin}
use Rattle.doc_reader.specs.meaning.Images.{is_store}
use Rattle.run_clauses.specs.meaning.Before.{base_of, read_journal, given_journal, journal_before}
use Rattle.before_run.proofs.StartBase.{begins_base}

abbrev pub IsKept : Journal → Type 0
IsKept journal = IsBase journal.base × All (λ entry. IsTrue (writes_fit (schemas_of journal.base) entry.writes)) journal.entries

read_keeps : EachKeeps → (base : Base) (image : List ℕ) (read : Result Journal ℕ) → journal_of image ≡ read → is_store read ≡ true → IsKept (read_journal base read)
read_keeps keeps base image (Ok journal) reads store = let kept = keeps image journal reads in (kept.base, kept.commits.fitting)
read_keeps keeps base image (Err place) reads store = absurd (let clash : ◌≡◌ {A = Bool} false true = store in cc)

given_keeps : EachKeeps → (base : Base) → IsBase base → (tables : List DocTable) (sequences : List DocSequence) (image : Option (List ℕ)) → is_begin tables sequences image ≡ true → IsKept (given_journal base image)
given_keeps keeps base is tables sequences None begins = (is, λ k d at. absurd (omega (arith, at)))
given_keeps keeps base is tables sequences (Some image) begins =
    read_keeps keeps base image (journal_of image) refl
    (second_true (length sequences == 0) (is_store (journal_of image)) (second_true (length tables == 0) ((length sequences == 0) && is_store (journal_of image)) begins))

pub before_keeps : EachKeeps → (document : Document) → IsDocument document → IsKept (journal_before document)
before_keeps keeps document is =
    given_keeps keeps (base_of document) (begins_base document.tables document.sequences is.tables is.table_names is.sequences is.sequence_names) document.tables document.sequences document.image is.begins
