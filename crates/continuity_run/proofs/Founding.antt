-- What is found of a store's disk is what stands before event 1.
use Rattle.std.proofs.Common.{◌≡◌, ◌∙◌, ℕ, List, false, sym, ap, subst}
use Rattle.std.specs.Prelude.{Some, Result, Ok}
use Rattle.std.specs.Option.{option_map_or}
use Rattle.disk_model.specs.Disk.{DiskState}
use Rattle.commit_log.specs.declared.base.Base.{Base}
use Rattle.commit_log.specs.declared.journal.Journal.{Journal}
use Rattle.commit_log.specs.declared.log.Found.{Found}
use Rattle.commit_log.specs.meaning.Journals.{is_opened, journal_in, journal_of, so_far_of}
use Rattle.commit_log.specs.meaning.Rules.{SoFar}
use Rattle.run_clauses.specs.meaning.Before.{given_journal, read_journal}
use Rattle.service_core.specs.Starting.{IsFoundOn}
use Rattle.continuity_run.specs.declared.store.Before.{Before}
use Rattle.continuity_run.specs.Stores.{Counts}

-- on a disk that has the bytes of an image
module _ (base : Base) (image : List ℕ) (disk : DiskState) (found : Found) (same : disk.now.seen ≡ image) (is : IsFoundOn disk found) where
  journal_is : given_journal base (Some image) ≡ found.journal
  journal_is = ap (λ (bytes : List ℕ). read_journal base (journal_of bytes)) (sym same) ∙ ap (λ (r : Result SoFar ℕ). read_journal base (journal_in r)) is.so_far

  pub reads_image : journal_of disk.now.seen ≡ Ok (given_journal base (Some image))
  reads_image = ap journal_in is.so_far ∙ ap (λ (journal : Journal). Ok journal) (sym journal_is)

  pub opened_as_image : found.is_opened ≡ option_map_or (λ bytes. is_opened (so_far_of bytes)) (Some image) false
  opened_as_image = sym (ap (λ (bytes : List ℕ). is_opened (so_far_of bytes)) (sym same) ∙ ap is_opened is.so_far)

  pub counts_of_image : (before : Before) → Counts found.journal before → Counts (given_journal base (Some image)) before
  counts_of_image before counts = subst (λ (journal : Journal). Counts journal before) (sym journal_is) counts
