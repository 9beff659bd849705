-- What is done to a source, and what it gives anew.
use Rattle.std.specs.Prelude.{ℕ, ℤ, pos, ◌+ℤ◌, ◌+◌, suc, zero, IsTrue, List, [], ◌∷◌, ◌++◌, fold, Option, Some, None, if◌then◌else◌}
use Rattle.std.specs.Str.{bytes_eq}
use Rattle.svc_values.specs.declared.draw.Draw.{Draw}
use Rattle.svc_values.specs.declared.draw.Draw.TheVariants as draw
use Rattle.svc_values.specs.declared.draw.DrawKind.{DrawKind}
use Rattle.mutable_values.specs.declared.source.Drawn.{Drawn}
use Rattle.mutable_values.specs.declared.source.Drawn.TheVariants as drawn
use Rattle.mutable_values.specs.meaning.Sources.{identifier}
use Rattle.mutable_values.specs.Sources.{Opening, DrawnFrom, first_kept, draw_of, may_reserve, reserved_to}

-- what is done to a source
pub data Did : Type 0 where
  Drew : (kept : List Draw) → (asked : DrawKind) → (now : ℕ) → Did
  Reserved : (name : List ℕ) → (upto : ℤ) → Did

abbrev pub opening_after : Opening → Option DrawnFrom → Opening
opening_after opening None = opening
opening_after opening (Some told) = told.opening

abbrev pub after_one : Opening → Did → Opening
after_one opening (Drew kept asked now) = opening_after opening (draw_of opening kept asked now)
after_one opening (Reserved name upto) = reserved_to opening name upto

-- the opening after a list of calls
abbrev pub after_all : Opening → List Did → Opening
after_all opening history = fold after_one opening history

-- a source is told of a reservation only where it may be made
abbrev pub MayDo : Opening → Did → Type 0
MayDo opening (Drew kept asked now) = Unit {0}
MayDo opening (Reserved name upto) = IsTrue (may_reserve opening name upto)

abbrev pub MayDoAll : Opening → List Did → Type 0
MayDoAll opening [] = Unit {0}
MayDoAll opening (did ∷ more) = MayDo opening did × MayDoAll (after_one opening did) more

abbrev pub value_in : Drawn → List Draw
value_in (drawn.Value one) = one ∷ []
value_in (drawn.Reserve name upto) = []

-- the value that was told, where no kept one was given
abbrev pub anew : Option Draw → Option DrawnFrom → List Draw
anew (Some one) told = []
anew None None = []
anew None (Some told) = value_in told.answer

-- what was drawn anew in one call
abbrev pub drawn_anew : Opening → Did → List Draw
drawn_anew opening (Drew kept asked now) =
    anew (first_kept asked kept) (draw_of opening kept asked now)
drawn_anew opening (Reserved name upto) = []

-- what was drawn anew over a list of calls, in order
abbrev pub all_anew : Opening → List Did → List Draw
all_anew opening [] = []
all_anew opening (did ∷ more) = drawn_anew opening did ++ all_anew (after_one opening did) more

-- the values among draws that are of the sequence
abbrev pub value_of : List ℕ → Draw → List ℤ
value_of name (draw.Seq other value) = if bytes_eq other name then value ∷ [] else []
value_of name _ = []

abbrev pub values_of : List ℕ → List Draw → List ℤ
values_of name [] = []
values_of name (one ∷ more) = value_of name one ++ values_of name more

abbrev pub identifier_of : Draw → List (List ℕ)
identifier_of (draw.Id id) = id ∷ []
identifier_of _ = []

abbrev pub identifiers_of : List Draw → List (List ℕ)
identifiers_of [] = []
identifiers_of (one ∷ more) = identifier_of one ++ identifiers_of more

-- so many numbers, one after the other, from the first
abbrev pub counted : ℤ → ℕ → List ℤ
counted first zero = []
counted first (suc more) = first ∷ counted (first +ℤ pos 1) more

-- so many new identifiers of an incarnation, one after the other, behind those that were drawn
abbrev pub identified : ℕ → ℕ → ℕ → List (List ℕ)
identified incarnation before zero = []
identified incarnation before (suc more) =
    identifier incarnation (before + 1) ∷ identified incarnation (before + 1) more
