use Rattle.std.proofs.Common.{◌≡◌, ◌++◌, map, drop}
use Rattle.entry_events.specs.Commits.{all_stored}
use Rattle.entry_events.specs.Numbering.{stored_key}
use Rattle.entry_events.proofs.numbers.push_stored.Given as goal

abbrev pub invariant-loop-one : goal.invariant-loop-one
invariant-loop-one l = l.keys.items ++ map stored_key (all_stored (drop l.one-index l.stored)) ≡ l.initial.keys.items ++ map stored_key (all_stored l.stored)
