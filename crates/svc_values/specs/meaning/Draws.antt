-- What is drawn, and what is asked for.
use Rattle.std.specs.Prelude.{Bool, true, false}
use Rattle.std.specs.Str.{bytes_eq}
use Rattle.svc_values.specs.declared.draw.Draw.{Draw}
use Rattle.svc_values.specs.declared.draw.Draw.TheVariants as draw
use Rattle.svc_values.specs.declared.draw.DrawKind.{DrawKind}
use Rattle.svc_values.specs.declared.draw.DrawKind.TheVariants as kind

-- the draw is of this kind, a sequence's of this name
abbrev pub is_of_kind : DrawKind → Draw → Bool
is_of_kind (kind.Seq asked) (draw.Seq name n) = bytes_eq name asked
is_of_kind kind.Clock (draw.Clock tick) = true
is_of_kind kind.Id (draw.Id id) = true
is_of_kind _ _ = false
