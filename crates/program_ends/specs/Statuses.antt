-- The exit status of each end of a run.
use Rattle.std.specs.Prelude.{ℕ}
use Rattle.program_ends.specs.declared.status.Status.{Status}
use Rattle.program_ends.specs.declared.status.Status.TheVariants as status

abbrev pub number_of : Status → ℕ
number_of status.Done = 0
number_of status.NoMemory = 1
number_of status.Words = 2
number_of status.Read = 3
number_of status.Write = 4
number_of (status.Document code path) = 5
number_of (status.No one path) = 6
