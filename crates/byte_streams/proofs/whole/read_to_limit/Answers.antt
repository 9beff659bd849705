use Rattle.byte_streams.proofs.Moves.{OnErr-always, ConsumesSome-after}
use Rattle.byte_streams.proofs.whole.read_to_limit.Goals as goal

pub returns-in_err-count-clause-err : goal.returns-in_err-count-clause-err
returns-in_err-count-clause-err g c =
    OnErr-always c.from_residual.result _ (ConsumesSome-after _ _ _ c.pieces.out.items c.pieces.invariant.taken c.in_err-count.ensures.err)
