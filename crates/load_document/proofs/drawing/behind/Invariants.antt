use Rattle.std.proofs.Common.{◌≡◌, ◌-◌, ◌≤◌}
use Rattle.load_document.specs.meaning.Loads.{behind}
use Rattle.load_document.proofs.drawing.behind.Given as goal

abbrev pub invariant-loop : goal.invariant-loop
invariant-loop l = (behind (l.draws - l.counter) l.state ≡ behind l.draws l.first) × (l.counter ≤ l.draws)
