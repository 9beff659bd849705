use Rattle.std.proofs.Common.{◌≡◌, ◌≤◌, ◌++◌, map, length, take, drop}
use Rattle.shown_clauses.specs.meaning.Fronts.{front_of, rest_of}
use Rattle.shown_clauses.specs.meaning.Turns.{is_marked}
use Rattle.report_story.specs.Views.{marked_as}
use Rattle.whole_check.proofs.turn.marked_first.Given as goal

abbrev pub invariant-loop-at : goal.invariant-loop-at
invariant-loop-at l = record {
  within : l.at ≤ length l.calls;
  front : front_of is_marked (map marked_as l.calls) ≡ map marked_as (take l.at l.calls) ++ front_of is_marked (map marked_as (drop l.at l.calls));
  rest : rest_of is_marked (map marked_as l.calls) ≡ rest_of is_marked (map marked_as (drop l.at l.calls));
}
