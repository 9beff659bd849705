-- Reading from left to right up to the first fault. A fault counts the bytes from the byte at fault
-- to the end. Here is what contracts and proofs say of it besides.
use Rattle.std.specs.Prelude.{◌≡◌, Result, Ok, Err}
use Rattle.canon_bytes.specs.declared.fault.Fault.{Fault}
use Rattle.canon_bytes.specs.declared.fault.ReadFault.{ReadFault}
use Rattle.canon_bytes.specs.declared.fault.ReadFault.TheVariants as read_fault

-- what a function returned, seen by view, is what reading gives; of want of memory nothing is said
abbrev pub IsReading : {X Y : Type 0} → (X → Y) → Result X ReadFault → Result Y Fault → Type 0
IsReading view (Ok x) reading = reading ≡ Ok (view x)
IsReading view (Err read_fault.NoMemory) reading = Unit {0}
IsReading view (Err (read_fault.Fault fault)) reading = reading ≡ Err fault
