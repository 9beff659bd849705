use Rattle.std.proofs.Common.{◌≡◌, map, drop}
use Rattle.std.specs.Prelude.{◌&&◌, is_none, option_map}
use Rattle.std.specs.List.{list_all}
use Rattle.shown_clauses.specs.meaning.Turns.{has_request}
use Rattle.report_story.specs.Views.{step_as}
use Rattle.whole_check.specs.Views.{owned_as}
use Rattle.whole_check.proofs.owned.turn_of_no_request.Given as goal

abbrev pub invariant-loop-one : goal.invariant-loop-one
invariant-loop-one l =
    (is_none l.found && list_all (has_request (option_map step_as l.left)) (map owned_as (drop l.one-index l.owned))) ≡ list_all (has_request (option_map step_as l.left)) (map owned_as l.owned)
