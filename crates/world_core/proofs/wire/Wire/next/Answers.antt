use Rattle.std.proofs.Common.{◌≡◌, Option, Box, Global, sym, ◌∙◌, ap}
use Rattle.std.specs.Option.{option_map_or}
use Rattle.frame_wire.specs.declared.feed.Feed.{Feed}
use Rattle.frame_wire.specs.Stream.{Pending, first_payload, nothing_pending}
use Rattle.world_core.proofs.Carrying.{no_bytes}
use Rattle.world_core.proofs.wire.Wire.next.Goals as goal

pub returns-in_default : goal.returns-in_default
returns-in_default g c =
    let none : c.args.self.now ≡ nothing_pending = sym c.self.view_is ∙ ap (λ (feed : Option (Box (Feed g.row.F.Denot) Global)). option_map_or (λ (feed : Box (Feed g.row.F.Denot) Global). feed.value) feed nothing_pending) c.in_default.is in (
      ap (λ (held : Pending). held.bad) none,
      ap (λ (held : Pending). first_payload held.bytes) none ∙ no_bytes,
      c.self.view_is,
    )
