-- What the public readers answer: a first value and its length, or the first fault and its offset.
use Rattle.std.specs.Prelude.{◌≡◌, ℕ, ◌-◌, List, length, take, Result, Ok, Err}
use Rattle.canon_bytes.specs.declared.fault.Fault.{Fault}
use Rattle.canon_bytes.specs.declared.fault.Fault.TheVariants as fault
use Rattle.canon_bytes.specs.declared.fault.CanonFault.{CanonFault}
use Rattle.canon_bytes.specs.declared.fault.CanonFault.TheVariants as canon_fault

-- a fault in this many bytes, with its offset in place of the bytes from it on
abbrev pub located : ℕ → Fault → CanonFault
located len fault.Short = canon_fault.Short len
located len (fault.BadTag left) = canon_fault.BadTag (len - left)
located len (fault.BadText left) = canon_fault.BadText (len - left)
located len (fault.BadPart left) = canon_fault.BadPart (len - left)

-- a value and its length in place of the value and the bytes after it
abbrev pub measured : {X : Type 0} → ℕ → Result (X × List ℕ) Fault → Result (X × ℕ) CanonFault
measured len (Ok x) = Ok (x.0, len - length x.1)
measured len (Err f) = Err (located len f)

-- the result is the answer, or memory ran out
abbrev pub IsUnlessMemory : {X : Type 0} → Result X CanonFault → Result X CanonFault → Type 0
IsUnlessMemory (Err canon_fault.NoMemory) answer = Unit {0}
IsUnlessMemory result answer = answer ≡ result

-- the first value that reading finds and its length, or the first fault and its offset
abbrev pub GivesFirst : {X : Type 0} → (List ℕ → Result (X × List ℕ) Fault) → List ℕ
    → Result (X × ℕ) CanonFault → Type 0
GivesFirst reading bytes result = IsUnlessMemory result (measured (length bytes) (reading bytes))

-- the first n bytes spell the value, and it keeps its rules
pub record Spells {X : Type 0} (spell : X → List ℕ) (fits : X → Type 0) (bytes : List ℕ) (x : X)
    (n : ℕ) : Type 0 where
  pub front : take n bytes ≡ spell x
  pub len : n ≡ length (spell x)
  pub fits_rules : fits x
