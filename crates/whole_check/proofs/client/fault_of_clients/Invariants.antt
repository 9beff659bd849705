use Rattle.std.proofs.Common.{◌≡◌, ◌+◌, map, drop}
use Rattle.entry_events.specs.Numbering.{up_to}
use Rattle.report_story.specs.Views.{step_as}
use Rattle.whole_check.specs.Judging.{are_clients_right}
use Rattle.whole_check.specs.Views.{submissions_as}
use Rattle.whole_check.proofs.client.fault_of_clients.Given as goal

abbrev pub invariant-loop-client : goal.invariant-loop-client
invariant-loop-client l =
    let right = are_clients_right (up_to l.told.numbers) (map step_as l.told.story.steps.items) l.told.story.turns.items in
    right (l.client + 1) (map submissions_as (drop l.client l.clients)) ≡ right 1 (map submissions_as l.clients)
