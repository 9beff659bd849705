-- What the outcome of a number is told to be.
use Rattle.std.specs.Prelude.{ℕ, ◌+◌, ◌==◌, Bool, nat_lt, Option, Some, option_map, if◌then◌else◌}
use Rattle.outage_schedule.specs.declared.note.AskResult.{AskResult}
use Rattle.outage_schedule.specs.declared.note.AskResult.TheVariants as told

-- of a session with so many commits, of which nothing is forgotten
abbrev pub told_in : ℕ → Option Bool → ℕ → Option AskResult
told_in next completed number =
    if number == next then Some told.Uncommitted
    else (if number + 1 == next then option_map told.Committed completed
    else (if nat_lt (number + 1) next then Some (told.ServerAhead next)
    else Some (told.ClientAhead next)))
