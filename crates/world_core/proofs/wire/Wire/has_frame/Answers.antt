use Rattle.std.proofs.Common.{◌≡◌, Option, Box, Global, sym, ◌∙◌, ap}
use Rattle.std.specs.Option.{option_map_or}
use Rattle.std.specs.Prelude.{is_some}
use Rattle.frame_wire.specs.declared.feed.Feed.{Feed}
use Rattle.frame_wire.specs.Stream.{Pending, first_payload, nothing_pending}
use Rattle.world_core.proofs.Carrying.{no_bytes}
use Rattle.world_core.proofs.wire.Wire.has_frame.Goals as goal

pub returns-in-None : goal.returns-in-None
returns-in-None g c =
    let none : c.args.self.now ≡ nothing_pending = sym c.self.view_is ∙ ap (λ (feed : Option (Box (Feed g.row.F.Denot) Global)). option_map_or (λ (feed : Box (Feed g.row.F.Denot) Global). feed.value) feed nothing_pending) c.in-None.is in
    sym (ap is_some (ap (λ (held : Pending). first_payload held.bytes) none ∙ no_bytes))
