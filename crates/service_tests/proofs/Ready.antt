-- What bytes hold that were read.
use Rattle.std.proofs.Common.{◌≡◌, List, ℕ, Ok, subst}
use Rattle.std.specs.Prelude.{Result, IfOk}
use Rattle.commit_log.specs.declared.journal.Journal.{Journal}
use Rattle.commit_log.specs.meaning.Journals.{journal_of}

-- where the reading gave a journal
pub read_so : (read : Result Journal ℕ) (bytes : List ℕ) (journal : Journal) → IfOk read (λ (one : Journal). journal_of bytes ≡ Ok one) → read ≡ Ok journal → journal_of bytes ≡ Ok journal
read_so read bytes journal reads is = subst (λ (r : Result Journal ℕ). IfOk r (λ (one : Journal). journal_of bytes ≡ Ok one)) is reads
