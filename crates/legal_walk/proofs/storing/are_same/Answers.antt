use Rattle.std.proofs.Common.{◌∙◌}
use Rattle.legal_walk.proofs.SamePieces.{pieces_eq}
use Rattle.legal_walk.proofs.storing.are_same.Goals as goal

pub returns : goal.returns
returns c = c.eq.ensures ∙ pieces_eq c.tests_equality.ensures.calls c.tests_equality.ensures.answers c.tests_equality.ensures.draws c.args.one.now c.args.other.now
