-- Reading from left to right up to the first fault. A fault counts the bytes from the byte at fault
-- to the end.
use Rattle.std.specs.Prelude.{Result, Ok, Err}
use Rattle.canon_bytes.specs.declared.fault.Fault.{Fault}

infixl 10 ◌>>=◌
-- what is read next, where what stood before was read
abbrev pub ◌>>=◌ : {X Y : Type 0} → Result X Fault → (X → Result Y Fault) → Result Y Fault
Err fault >>= next = Err fault
Ok x >>= next = next x
