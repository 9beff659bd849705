use Rattle.std.proofs.Common.{◌≡◌, drop}
use Rattle.std.specs.Cmp.Lexicographic.{pointwise}
use Rattle.image_check.proofs.alike.are_like.Given as goal

abbrev pub invariant-loop-at : goal.invariant-loop-at
invariant-loop-at g l = pointwise g.T.Alike.same (drop l.at l.one) (drop l.at l.other) ≡ pointwise g.T.Alike.same l.one l.other
