use Rattle.std.proofs.Common.{◌≡◌, drop}
use Rattle.std.specs.List.{list_all}
use Rattle.stored_check.specs.Facts.{marks_in, has_no_entry}
use Rattle.stored_check.proofs.known.Known.first_entry.Given as goal

abbrev pub invariant-loop-at : goal.invariant-loop-at
invariant-loop-at l = list_all (has_no_entry (marks_in l.self)) (drop l.at l.ids) ≡ list_all (has_no_entry (marks_in l.self)) l.ids
