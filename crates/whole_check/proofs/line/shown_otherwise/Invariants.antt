use Rattle.std.proofs.Common.{◌≡◌, map, drop}
use Rattle.std.specs.List.{list_all}
use Rattle.shown_clauses.specs.meaning.Showings.{is_shown_by}
use Rattle.whole_check.specs.Views.{shown_as}
use Rattle.whole_check.proofs.line.shown_otherwise.Given as goal

abbrev pub invariant-loop-at : goal.invariant-loop-at
invariant-loop-at l = list_all (λ one. is_shown_by one one.showing.item) (map shown_as (drop l.at l.calls)) ≡ list_all (λ one. is_shown_by one one.showing.item) (map shown_as l.calls)
