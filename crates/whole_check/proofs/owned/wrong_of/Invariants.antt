use Rattle.std.proofs.Common.{◌≡◌, map, drop}
use Rattle.std.specs.Prelude.{◌&&◌, is_none}
use Rattle.std.specs.List.{list_all}
use Rattle.shown_clauses.specs.meaning.Turns.{is_turn_right}
use Rattle.report_parts.specs.SubmissionViews.{submission_as}
use Rattle.whole_check.specs.Views.{owned_as}
use Rattle.whole_check.proofs.owned.wrong_of.Given as goal

abbrev pub invariant-loop-one : goal.invariant-loop-one
invariant-loop-one l =
    (is_none l.found && list_all (λ one. is_turn_right (submission_as l.submission) one.turn) (map owned_as (drop l.one-index l.owned)))
    ≡ list_all (λ one. is_turn_right (submission_as l.submission) one.turn) (map owned_as l.owned)
