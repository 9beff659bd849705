-- The incarnation of the journal before event 1.
use Rattle.std.proofs.Common.{◌≡◌, ℕ, ◌≤◌, ◌^◌, List, refl, arith}
use Rattle.std.specs.Prelude.{Option, Some, None, Result, Ok, Err}
use Rattle.commit_log.specs.declared.base.Base.{Base}
use Rattle.commit_log.specs.declared.journal.Journal.{Journal}
use Rattle.commit_log.specs.meaning.Journals.{journal_of}
use Rattle.commit_log.specs.Keeping.{EachKeeps}
use Rattle.outage_schedule.specs.declared.document.Document.{Document}
use Rattle.run_clauses.specs.meaning.Before.{base_of, read_journal, given_journal, journal_before}

read_within : EachKeeps → (base : Base) (image : List ℕ) (read : Result Journal ℕ) → journal_of image ≡ read → (read_journal base read).incarnation ≤ 2 ^ 63
read_within keeps base image (Ok journal) reads = (keeps image journal reads).incarnation
read_within keeps base image (Err place) reads = omega arith

given_within : EachKeeps → (base : Base) (image : Option (List ℕ)) → (given_journal base image).incarnation ≤ 2 ^ 63
given_within keeps base None = omega arith
given_within keeps base (Some image) = read_within keeps base image (journal_of image) refl

pub last_within : EachKeeps → (document : Document) → (journal_before document).incarnation ≤ 2 ^ 63
last_within keeps document = given_within keeps (base_of document) document.image
