use Rattle.std.proofs.Common.{◌≡◌, map, drop}
use Rattle.std.specs.List.{list_all}
use Rattle.entry_events.specs.Numbering.{up_to}
use Rattle.report_parts.specs.PartViews.{part_as}
use Rattle.whole_check.specs.Judging.{is_part_right}
use Rattle.whole_check.specs.Views.{owned_as}
use Rattle.whole_check.proofs.client.fault_of_parts.Given as goal

abbrev pub invariant-loop-request : goal.invariant-loop-request
invariant-loop-request l =
    list_all (is_part_right (up_to l.numbers) (map owned_as l.owned)) (map part_as (drop l.request l.parts)) ≡ list_all (is_part_right (up_to l.numbers) (map owned_as l.owned)) (map part_as l.parts)
