-- How a run ends by what became of its document and of its report's text.
use Rattle.std.specs.Prelude.{ℕ, List, Option}
use Rattle.std.specs.Io.KnownBytes.{Appends}
use Rattle.json_form.specs.declared.fault.DocFault.{DocFault}
use Rattle.json_form.specs.declared.fault.DocFault.TheVariants as fault
use Rattle.program_ends.specs.declared.status.Status.{Status}
use Rattle.program_ends.specs.declared.status.Status.TheVariants as status
use Rattle.byte_streams.specs.Causes.{AppendsFront, Rose}

-- the document was not read, or its report not made
abbrev pub ended_as : DocFault → Status
ended_as fault.NoMemory = status.NoMemory
ended_as (fault.At code path) = status.Document code path

-- the report has this text: the sink took it, or failed and holds a front of it
abbrev pub IsWritten : List ℕ → Status → Option (List ℕ) → Option (List ℕ) → ℕ → ℕ → Type 0
IsWritten text status.Done held_before held_after before now = Appends held_before held_after text
IsWritten text status.Write held_before held_after before now =
    AppendsFront held_before held_after text × Rose before now
IsWritten text _ held_before held_after before now = ⊥
