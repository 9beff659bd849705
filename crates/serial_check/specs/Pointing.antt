-- Faults that tell a place.
use Rattle.std.specs.Prelude.{◌≡◌, ℕ, List}
use Rattle.json_form.specs.declared.fault.DocFault.{DocFault}
use Rattle.json_form.specs.declared.fault.DocFault.TheVariants.{NoMemory, At}

-- the place that a fault tells, unless there was no memory for it
abbrev pub IsAt : List ℕ → DocFault → Type 0
IsAt place NoMemory = Unit {0}
IsAt place (At code path) = path ≡ place
