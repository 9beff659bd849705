use Rattle.std.proofs.Common.{◌≡◌, drop}
use Rattle.load_document.specs.Ends.{shown_ends, plus}
use Rattle.load_document.proofs.counts.with_calls.Given as goal

abbrev pub invariant-loop-call : goal.invariant-loop-call
invariant-loop-call l = plus l.ends (shown_ends (drop l.call-index l.calls)) ≡ plus l.fn.before (shown_ends l.calls)
