use Rattle.std.proofs.Common.{◌≡◌, drop}
use Rattle.svc_values.specs.meaning.Same.{same_calls}
use Rattle.entry_check.proofs.Pieces.{calls_of}
use Rattle.entry_check.proofs.known.has_calls.Given as goal

abbrev pub invariant-loop-at : goal.invariant-loop-at
invariant-loop-at l = same_calls (calls_of (drop l.at l.pieces)) (drop l.at l.calls) ≡ same_calls (calls_of l.pieces) l.calls
