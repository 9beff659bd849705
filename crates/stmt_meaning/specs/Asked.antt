-- Which draws a call asks for: those of its operands, in the order in which these are read.
-- Here is what contracts and proofs say of it besides.
use Rattle.std.specs.Prelude.{◌≡◌, ℕ, Bool, true, false, List, [], ◌++◌, map, filter, length}
use Rattle.svc_values.specs.declared.draw.Draw.{Draw}
use Rattle.svc_values.specs.declared.draw.Draw.TheVariants as draw
use Rattle.svc_values.specs.declared.draw.DrawKind.{DrawKind}
use Rattle.svc_values.specs.declared.draw.DrawKind.TheVariants as kind

-- what a draw was asked for as: its kind, with the name of its sequence
abbrev pub kind_drawn : Draw → DrawKind
kind_drawn (draw.Seq name n) = kind.Seq name
kind_drawn (draw.Clock tick) = kind.Clock
kind_drawn (draw.Id id) = kind.Id

-- The draws before `rest` were used: they are those that are asked for, in order, up to some place,
-- and all of them where nothing was refused.
pub record UsesInOrder (asked : List DrawKind) (draws rest : List Draw)
    (is_refused : Bool) : Type 0 where
  pub used : List Draw
  pub unused : List DrawKind
  pub first : draws ≡ used ++ rest
  pub in_order : map kind_drawn used ++ unused ≡ asked
  pub whole : is_refused ≡ false → unused ≡ []

abbrev pub is_of_sequence : DrawKind → Bool
is_of_sequence (kind.Seq name) = true
is_of_sequence kind.Clock = false
is_of_sequence kind.Id = false

-- how many of the draws are values of sequences
abbrev pub sequences_drawn : List Draw → ℕ
sequences_drawn draws = length (filter is_of_sequence (map kind_drawn draws))
