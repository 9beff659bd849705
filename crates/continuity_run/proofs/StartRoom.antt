-- The journal that a run begins with leaves room for its openings.
use Rattle.std.proofs.Common.{◌≡◌, ℕ, ◌≤◌, ◌^◌, List, true, arith}
use Rattle.std.specs.Prelude.{IsTrue, Option, Some, None, Result, Ok, Err, length, ◌&&◌, ◌==◌}
use Rattle.std.proofs.lemmas.Bool.Decides.{nat_tests}
use Rattle.outage_schedule.specs.declared.document.DocTable.{DocTable}
use Rattle.outage_schedule.specs.declared.document.DocSequence.{DocSequence}
use Rattle.json_form.proofs.Offered.{first_true, second_true}
use Rattle.commit_log.specs.declared.base.Base.{Base}
use Rattle.commit_log.specs.declared.journal.Journal.{Journal}
use Rattle.commit_log.specs.meaning.Journals.{journal_of}
use Rattle.doc_reader.specs.meaning.Images.{is_store, leaves_room}
use Rattle.doc_reader.specs.Keeping.{is_begin}
use Rattle.document_forms.specs.meaning.Numbers.{is_count}
use Rattle.run_clauses.specs.meaning.Before.{given_journal, read_journal}

low : (journal : Journal) → leaves_room journal ≡ true → journal.incarnation ≤ 2 ^ 62
unfolding leaves_room
low journal is = let count : is_count journal.incarnation ≡ true = first_true (is_count journal.incarnation) _ is in grind (arith, nat_tests)

low_read : (base : Base) (read : Result Journal ℕ) → is_store read ≡ true → (read_journal base read).incarnation ≤ 2 ^ 62
low_read base (Ok journal) is = low journal is
low_read base (Err place) is = absurd (cc)

pub begins_low : (tables : List DocTable) (sequences : List DocSequence) (base : Base) (image : Option (List ℕ)) → IsTrue (is_begin tables sequences image) → (given_journal base image).incarnation ≤ 2 ^ 62
begins_low tables sequences base None is = omega arith
begins_low tables sequences base (Some bytes) is =
    low_read base (journal_of bytes) (second_true (length sequences == 0) (is_store (journal_of bytes)) (second_true (length tables == 0) ((length sequences == 0) && is_store (journal_of bytes)) is))
