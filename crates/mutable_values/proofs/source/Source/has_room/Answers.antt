use Rattle.std.proofs.Common.{arith, ap, sym, ◌∙◌}
use Rattle.mutable_values.specs.Sources.{Opening}
use Rattle.mutable_values.proofs.source.Source.has_room.Goals as goal

pub returns-then-self-lt-MOST_IDENTIFIERS : goal.returns-then-self-lt-MOST_IDENTIFIERS
returns-then-self-lt-MOST_IDENTIFIERS c = (
  λ all. record { reservations = sym c.have_room.ensures ∙ all; identifiers = omega (arith, ap (λ (o : Opening). o.identifiers) c.self.view_is) },
  λ room. c.have_room.ensures ∙ room.reservations,
)
