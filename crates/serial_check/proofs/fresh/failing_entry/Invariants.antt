use Rattle.std.proofs.Common.{◌≡◌, [], take, drop}
use Rattle.std.specs.List.{flat_map}
use Rattle.server_model.specs.meaning.Fresh.{draws_of}
use Rattle.serial_check.specs.meaning.Places.{fresh_entries}
use Rattle.serial_check.specs.Given.{Keeps}
use Rattle.serial_check.proofs.fresh.failing_entry.Given as goal

abbrev pub invariant-loop-n : goal.invariant-loop-n
invariant-loop-n l = record {
  kept : Keeps l.kept (flat_map draws_of (take l.n l.entries));
  so_far : fresh_entries [] 0 l.entries ≡ fresh_entries (flat_map draws_of (take l.n l.entries)) l.n (drop l.n l.entries);
}
