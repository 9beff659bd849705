use Rattle.std.proofs.Common.{◌≡◌, map, drop}
use Rattle.std.specs.List.{list_all}
use Rattle.entry_events.specs.Numbering.{up_to}
use Rattle.whole_check.specs.Judging.{has_number}
use Rattle.whole_check.specs.Views.{shown_as}
use Rattle.whole_check.proofs.line.without_number.Given as goal

abbrev pub invariant-loop-at : goal.invariant-loop-at
invariant-loop-at l = list_all (has_number (up_to l.numbers)) (map shown_as (drop l.at l.calls)) ≡ list_all (has_number (up_to l.numbers)) (map shown_as l.calls)
