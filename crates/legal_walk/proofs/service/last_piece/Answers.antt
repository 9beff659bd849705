use Rattle.std.proofs.Common.{List, ap, ◌∙◌}
use Rattle.std.specs.Prelude.{None}
use Rattle.std.specs.List.{last_or}
use Rattle.svc_values.specs.declared.entry.Piece.{Piece}
use Rattle.legal_walk.proofs.Pieces.{last_at}
use Rattle.legal_walk.proofs.service.last_piece.Goals as goal

pub returns : goal.returns
returns c = c.last.ensures.value ∙ last_at c.as_slice.result.now ∙ ap (λ (pieces : List Piece). last_or None pieces) c.as_slice.ensures
