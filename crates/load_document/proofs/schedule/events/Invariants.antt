use Rattle.std.proofs.Common.{◌≡◌, ◌++◌, ◌-◌, ◌≤◌}
use Rattle.load_document.specs.meaning.Loads.{events}
use Rattle.load_document.proofs.schedule.events.Given as goal

abbrev pub invariant-loop : goal.invariant-loop
invariant-loop l = (l.all.items ++ events l.clients (l.count - l.counter) l.state ≡ events l.clients l.count l.first) × (l.counter ≤ l.count)
