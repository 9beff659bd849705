use Rattle.std.proofs.Common.{◌≡◌, drop}
use Rattle.run_clauses.specs.meaning.Same.{has_draws}
use Rattle.entry_check.specs.InnerGranting.{keeps}
use Rattle.entry_check.proofs.known.other_draws.Given as goal

abbrev pub invariant-loop-at : goal.invariant-loop-at
invariant-loop-at l =
    let kept = keeps l.granting.kinds l.granting.sequences.now in
    has_draws kept (drop l.at l.pieces) (drop l.at l.shown) ≡ has_draws kept l.pieces l.shown
