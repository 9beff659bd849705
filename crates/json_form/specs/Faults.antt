-- What a reading gives: a value, or the first fault and its place.
-- Here is what contracts and proofs say of it besides.
use Rattle.std.specs.Prelude.{◌≡◌, ℕ, List, ◌∷◌, ◌++◌, Result, Ok, Err}
use Rattle.json_form.specs.declared.fault.DocFault.{DocFault}
use Rattle.json_form.specs.declared.fault.DocFault.TheVariants.{NoMemory, At}
use Rattle.json_form.specs.meaning.Faults.{Fault}

-- a failure that tells of the fault that the reading gives, or of no memory
abbrev pub Fails : {Y : Type 0} → DocFault → Result Y Fault → Type 0
Fails NoMemory read = Unit {0}
Fails (At c p) read = read ≡ Err (record { code = c; path = p })

-- a result is exactly what the reading gives, unless there was no memory
abbrev pub Gives : {X : Type 0} → Result X DocFault → Result X Fault → Type 0
Gives (Ok x) read = read ≡ Ok x
Gives (Err e) read = Fails e read

-- the same for a result that is seen by a view, as a list or a text
abbrev pub GivesBy : {X Y : Type 0} → (X → Y) → Result X DocFault → Result Y Fault → Type 0
GivesBy view (Ok x) read = read ≡ Ok (view x)
GivesBy view (Err e) read = Fails e read

-- the second failure is the first one, seen from one step further up, unless there was no memory
abbrev pub IsUnder : List ℕ → DocFault → DocFault → Type 0
IsUnder step NoMemory e = e ≡ NoMemory
IsUnder step (At c p) NoMemory = Unit {0}
IsUnder step (At c p) (At d q) = (d ≡ c) × (q ≡ 47 ∷ step ++ p)
