use Rattle.std.proofs.Common.{◌≡◌, ◌++◌, ◌-◌, ◌≤◌}
use Rattle.load_document.specs.meaning.Loads.{scripts}
use Rattle.load_document.proofs.document.scripts.Given as goal

abbrev pub invariant-loop : goal.invariant-loop
invariant-loop l = (l.all.items ++ scripts (l.clients - l.counter) l.requests l.state ≡ scripts l.clients l.requests l.first) × (l.counter ≤ l.clients)
