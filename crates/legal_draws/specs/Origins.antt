-- Where a draw comes from, by what was found among the kept ones.
use Rattle.std.specs.Prelude.{ℕ, Bool, true, false, List, Option, Some, None}
use Rattle.std.specs.Str.{bytes_eq}
use Rattle.svc_values.specs.declared.draw.Draw.{Draw}
use Rattle.svc_values.specs.declared.draw.Draw.TheVariants as draw
use Rattle.server_model.specs.meaning.NewValues.{Numbers, Origin, Kept, New}

-- the draw is of the sequence of this name
abbrev pub of_sequence : List ℕ → Draw → Bool
of_sequence name (draw.Seq other value) = bytes_eq name other
of_sequence name (draw.Clock tick) = false
of_sequence name (draw.Id id) = false

-- the first kept one of its kind, with those that are left, or none
abbrev pub origin_with : Option Draw → List Draw → Origin
origin_with None left = New
origin_with (Some first) left = Kept first left

-- the numbers after a draw, where it is as it has to be
abbrev pub told : Bool → Numbers → Option Numbers
told true numbers = Some numbers
told false numbers = None
