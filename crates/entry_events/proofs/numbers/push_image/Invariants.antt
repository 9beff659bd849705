use Rattle.std.proofs.Common.{◌≡◌, ◌++◌, map, drop}
use Rattle.entry_events.specs.Numbering.{image_key}
use Rattle.entry_events.proofs.numbers.push_image.Given as goal

abbrev pub invariant-loop-entry : goal.invariant-loop-entry
invariant-loop-entry l = l.keys.items ++ map image_key (drop l.entry-index l.image) ≡ l.initial.keys.items ++ map image_key l.image
