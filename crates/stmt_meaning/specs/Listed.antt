-- Draws that are taken from the front of a list.
use Rattle.std.specs.Prelude.{◌≡◌, ℕ, List, [], ◌∷◌, Option, Some, None, Result, Ok, Err, false, if◌then◌else◌}
use Rattle.svc_values.specs.meaning.Draws.{is_of_kind}
use Rattle.svc_values.specs.Draws.{is_there}
use Rattle.stmt_meaning.specs.declared.fault.DrawFromFault.{DrawFromFault}
use Rattle.stmt_meaning.specs.declared.fault.DrawFromFault.TheVariants as fault
use Rattle.svc_values.specs.declared.draw.Draw.{Draw}
use Rattle.svc_values.specs.declared.draw.DrawKind.{DrawKind}
use Rattle.stmt_meaning.specs.Drawing.{Drew, Gave, Lacked, Halted, is_first}

-- the names of the sequences, and the draws that are left
pub record Listing : Type 0 where
  pub names : List (List ℕ)
  pub draws : List Draw

-- A draw is the first of the list, and is taken off. Where there was no memory, or the first draw
-- is not the one that is asked for, the list is as it was.
abbrev pub TakesFirst : Listing → Drew → Listing → Type 0
TakesFirst old (Gave given) new = (old.draws ≡ given ∷ new.draws) × (new.names ≡ old.names)
TakesFirst old (Lacked asked) new = new ≡ old
TakesFirst old (Halted asked) new = (is_first asked old.draws ≡ false) × (new ≡ old)

-- the first draw, where it is the one that is asked for
abbrev pub first_asked : DrawKind → List Draw → Result Draw DrawFromFault
first_asked asked [] = Err fault.Stopped
first_asked asked (first ∷ rest) = if is_of_kind asked first then Ok first else Err fault.Stopped

-- the answer, which the names and the draws determine
abbrev pub listed : List (List ℕ) → List Draw → DrawKind → Result Draw DrawFromFault
listed names draws asked = if is_there names asked then first_asked asked draws else
    Err fault.NoSequence

-- the front of a list is taken off, if there is one
abbrev pub TakesFront : List Draw → Option Draw → List Draw → Type 0
TakesFront old None new = (old ≡ []) × (new ≡ [])
TakesFront old (Some front) new = old ≡ front ∷ new
