use Rattle.std.proofs.Common.{◌≡◌, ◌++◌, ◌-◌, ◌≤◌}
use Rattle.load_document.specs.meaning.Loads.{transfers}
use Rattle.load_document.proofs.document.transfers.Given as goal

abbrev pub invariant-loop : goal.invariant-loop
invariant-loop l = (l.all.items ++ transfers (l.requests - l.counter) l.state ≡ transfers l.requests l.first) × (l.counter ≤ l.requests)
