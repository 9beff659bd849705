-- What is drawn, and what was drawn.
-- Here is what contracts and proofs say of it besides.
use Rattle.std.specs.Prelude.{◌≡◌, List, length}
use Rattle.svc_values.specs.declared.draw.DrawKind.{DrawKind}
use Rattle.svc_values.specs.declared.draw.DrawKind.TheVariants as draw_kind
use Rattle.svc_values.specs.declared.draw.Draw.{Draw}
use Rattle.svc_values.specs.declared.draw.Draw.TheVariants as draw
use Rattle.canon_bytes.specs.Numbers.{FitsU64, FitsI64}
use Rattle.canon_bytes.specs.TextBytes.{FitsName}
use Rattle.canon_bytes.specs.Lists.{FitsListed}

abbrev pub FitsDrawKind : DrawKind → Type 0
FitsDrawKind (draw_kind.Seq name) = FitsName name
FitsDrawKind _ = Unit {0}

abbrev pub FitsDraw : Draw → Type 0
FitsDraw (draw.Seq name value) = FitsName name × FitsI64 value
FitsDraw (draw.Clock tick) = FitsU64 tick
FitsDraw (draw.Id id) = length id ≡ 16

abbrev pub FitsDraws : List Draw → Type 0
FitsDraws draws = FitsListed FitsDraw draws
