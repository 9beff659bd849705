-- When a command has to end with its answer, but for want of memory.
use Rattle.std.specs.Prelude.{◌≡◌, ◌⊎◌, ℕ, List, Option, Some, Result, Ok}
use Rattle.json_form.specs.meaning.Faults.{Fault}
use Rattle.doc_reader.specs.meaning.Documents.{document_at}
use Rattle.report_check.specs.meaning.Pairs.{pair_at}
use Rattle.command_words.specs.declared.command.Command.{Command}
use Rattle.command_words.specs.declared.command.Command.TheVariants as command
use Rattle.program_ends.specs.declared.status.Status.{Status}
use Rattle.program_ends.specs.declared.status.Status.TheVariants as status
use Rattle.byte_streams.specs.Causes.{Rose}

-- Nothing is at fault: what the source has left is told and is read so, and neither the source's
-- count of faults rose nor the sink's.
pub record IsFaultlessOn {A : Type 0} (reads : List ℕ → Result A Fault) (left : Option (List ℕ))
    (reads_before reads_after writes_before writes_after : ℕ) : Type 0 where
  pub bytes : List ℕ
  pub told : left ≡ Some bytes
  pub value : A
  pub accepted : reads bytes ≡ Ok value
  pub read : Rose reads_before reads_after → ⊥
  pub wrote : Rose writes_before writes_after → ⊥

-- So it is with a document, and for `check` with a document and its report.
abbrev pub IsFaultless : Command → Option (List ℕ) → ℕ → ℕ → ℕ → ℕ → Type 0
IsFaultless command.Check left reads_before reads_after writes_before writes_after =
    IsFaultlessOn pair_at left reads_before reads_after writes_before writes_after
IsFaultless _ left reads_before reads_after writes_before writes_after =
    IsFaultlessOn document_at left reads_before reads_after writes_before writes_after

-- the report is denied
abbrev pub IsNo : Status → Type 0
IsNo (status.No one path) = Unit {0}
IsNo _ = ⊥

-- The command ended with its answer, or for want of memory. A report that was judged may be denied.
abbrev pub HasAnswered : Command → Status → Type 0
HasAnswered command.Check end = (end ≡ status.Done) ⊎ ((end ≡ status.NoMemory) ⊎ IsNo end)
HasAnswered _ end = (end ≡ status.Done) ⊎ (end ≡ status.NoMemory)
