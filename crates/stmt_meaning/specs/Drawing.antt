-- Values drawn from a source, one after the other.
use Rattle.std.specs.Prelude.{◌≡◌, ◌⊎◌, ℕ, Bool, true, false, List, [], ◌∷◌, ◌++◌, Option, Some, None, Result, Ok, Err}
use Rattle.svc_values.specs.declared.draw.Draw.{Draw}
use Rattle.svc_values.specs.declared.draw.DrawKind.{DrawKind}
use Rattle.svc_values.specs.meaning.Draws.{is_of_kind}
use Rattle.svc_values.specs.Draws.{is_there}
use Rattle.stmt_meaning.specs.declared.fault.DrawFromFault.{DrawFromFault}
use Rattle.stmt_meaning.specs.declared.fault.DrawFromFault.TheVariants as fault
use Rattle.stmt_meaning.specs.declared.fault.TxnFault.{TxnFault}
use Rattle.stmt_meaning.specs.declared.fault.TxnFault.TheVariants as txn_fault

-- what a draw came to: a draw, or why there is none and what was asked for
pub data Drew : Type 0 where
  -- the value that was drawn
  Gave : (given : Draw) → Drew
  -- no memory
  Lacked : (asked : DrawKind) → Drew
  -- the source stopped
  Halted : (asked : DrawKind) → Drew

-- What an answer says. `drew` is the source's own relation of the value before, what the draw came
-- to, and the value after. A sequence that is not there is told before anything else.
abbrev pub HasDrawn : {S : Type 0} → List (List ℕ) → (S → Drew → S → Type 0) → S → DrawKind
    → Result Draw DrawFromFault → S → Type 0
HasDrawn names drew old asked (Ok given) new = (is_there names asked ≡ true)
    × ((is_of_kind asked given ≡ true) × drew old (Gave given) new)
HasDrawn names drew old asked (Err fault.NoSequence) new = (is_there names asked ≡ false)
    × (new ≡ old)
HasDrawn names drew old asked (Err fault.NoMemory) new = (is_there names asked ≡ true)
    × drew old (Lacked asked) new
HasDrawn names drew old asked (Err fault.Stopped) new = (is_there names asked ≡ true)
    × drew old (Halted asked) new

-- these draws were given, one after the other
abbrev pub DrewAll : {S : Type 0} → (S → Drew → S → Type 0) → S → List Draw → S → Type 0
DrewAll drew old [] new = new ≡ old
DrewAll {S} drew old (first ∷ rest) new = (between : S)
    × (drew old (Gave first) between × DrewAll drew between rest new)

-- These draws are all asked for, and no more: `left` tells which draws are left of given ones,
-- where these begin as is asked.
abbrev pub AreAsked : (List Draw → Option (List Draw)) → List Draw → Type 0
AreAsked left draws = left draws ≡ Some []

-- the first of the draws is of the kind that is asked for
abbrev pub is_first : DrawKind → List Draw → Bool
is_first asked [] = false
is_first asked (first ∷ rest) = is_of_kind asked first

-- Behind these draws one of this kind is asked for: where another one stands there, or none, the
-- draws do not begin as is asked.
abbrev pub AsksNext : (List Draw → Option (List Draw)) → List Draw → DrawKind → Type 0
AsksNext left given asked = (rest : List Draw) → is_first asked rest ≡ false
    → left (given ++ rest) ≡ None

-- Why drawing ended behind these draws: the source stopped at the next one that is asked for, or
-- there was no memory, at the source or beside it.
abbrev pub EndedBy : {S : Type 0} → (S → Drew → S → Type 0) → (List Draw → Option (List Draw))
    → List Draw → S → TxnFault → S → Type 0
EndedBy drew left given between txn_fault.Stopped new = (asked : DrawKind)
    × (drew between (Halted asked) new × AsksNext left given asked)
EndedBy drew left given between txn_fault.NoMemory new =
    (new ≡ between) ⊎ ((asked : DrawKind)
    × (drew between (Lacked asked) new × AsksNext left given asked))

-- What asks for draws was ended by a fault: some draws were given, which begin those that it asks
-- for, and then it ended.
pub record Ends {S : Type 0} (drew : S → Drew → S → Type 0) (left : List Draw → Option (List Draw))
    (old : S) (ended : TxnFault) (new : S) : Type 0 where
  pub given : List Draw
  pub between : S
  pub drew_all : DrewAll drew old given between
  pub more : List Draw
  pub asked : AreAsked left (given ++ more)
  pub because : EndedBy drew left given between ended new
