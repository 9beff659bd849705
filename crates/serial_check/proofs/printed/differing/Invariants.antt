use Rattle.std.proofs.Common.{◌≡◌, ◌≤◌, drop, map, length}
use Rattle.serial_check.specs.meaning.Places.{table_place}
use Rattle.serial_check.specs.Printed.{print_given}
use Rattle.serial_check.proofs.printed.differing.Given as goal

abbrev pub invariant-loop-n : goal.invariant-loop-n
invariant-loop-n l = record {
  so_far : table_place 0 l.printed (map print_given l.tables) ≡ table_place l.n (drop l.n l.printed) (map print_given (drop l.n l.tables));
  within : l.n ≤ length l.tables;
}
