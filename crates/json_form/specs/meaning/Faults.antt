-- What a reading gives: a value, or the first fault and its place.
use Rattle.std.specs.Prelude.{ℕ, List, [], ◌∷◌, ◌++◌, Result, Ok, Err, decimal}
use Rattle.json_form.specs.meaning.Pointers.{escaped}
use Rattle.json_form.specs.declared.fault.DocCode.{DocCode}

-- what is wrong, and the pointer from the value that is read to the value at fault
pub record Fault : Type 0 where
  pub code : DocCode
  pub path : List ℕ

-- one reading after the other: the first fault ends it
infixl 10 ◌>>=◌
abbrev pub ◌>>=◌ : {A B : Type 0} → Result A Fault → (A → Result B Fault) → Result B Fault
(Ok x) >>= f = f x
(Err e) >>= f = Err e

-- a fault of the value itself
abbrev pub here : DocCode → Fault
here c = record { code = c; path = [] }

-- the fault, seen from one step further up: a slash and the step go first
abbrev pub under : List ℕ → Fault → Fault
under step f = record { code = f.code; path = 47 ∷ step ++ f.path }

-- a reading, seen from one step further up
abbrev pub within_step : {A : Type 0} → List ℕ → Result A Fault → Result A Fault
within_step step (Ok x) = Ok x
within_step step (Err f) = Err (under step f)

-- the reading of a member, seen from the object
abbrev pub within : {A : Type 0} → List ℕ → Result A Fault → Result A Fault
within name read = within_step (escaped name) read

-- the reading of the item at a position, seen from the array
abbrev pub within_item : {A : Type 0} → ℕ → Result A Fault → Result A Fault
within_item i read = within_step (decimal i) read
