use Rattle.std.proofs.Common.{◌≡◌, ◌≤◌, ◌++◌, drop}
use Rattle.legal_items.specs.Told.{ticks_from}
use Rattle.legal_items.proofs.ticks.ticks_of.Given as goal

abbrev pub invariant-loop-note : goal.invariant-loop-note
invariant-loop-note l = record {
  made : l.ticks.items ++ ticks_from l.tick (drop l.note-index l.notes) ≡ ticks_from 0 l.notes;
  few : l.tick ≤ l.note-index;
}
