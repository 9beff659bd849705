use Rattle.std.proofs.Common.{arith}
use Rattle.byte_streams.proofs.Moves.{Appends-more, AppendsFront-after, OnErr-always, front_within}
use Rattle.byte_streams.proofs.whole.write_whole.Goals as goal

pub pieces-preserved : goal.pieces-preserved
pieces-preserved g c = record {
  written = Appends-more _ _ _ c.args.text.now c.pieces.done c.in_ok-count.count c.pieces.invariant.written c.in_ok-count.ensures.bytes;
  later = omega (arith, c.in_ok-count.ensures.cause.later, c.pieces.invariant.later);
  within = front_within c.args.text.now c.pieces.done c.in_ok-count.count c.pieces.invariant.within c.in_ok-count.ensures.bound;
}

pub returns-in_err-count-clause-err : goal.returns-in_err-count-clause-err
returns-in_err-count-clause-err g c =
    OnErr-always c.from_residual.result _ (AppendsFront-after _ _ _ c.args.text.now c.pieces.done c.pieces.invariant.written c.in_err-count.ensures.bytes)
