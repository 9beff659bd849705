use Rattle.std.proofs.Common.{◌≡◌, ◌≤◌, [], length}
use Rattle.shown_clauses.specs.meaning.KeptDraws.{shown_since}
use Rattle.report_parts.proofs.Searches.{left_since}
use Rattle.report_parts.proofs.looking.behind_decided.Given as goal

abbrev pub invariant-loop-at : goal.invariant-loop-at
invariant-loop-at l = record {
  since : left_since l.shown l.from l.at ≡ shown_since (length l.shown) [] l.shown;
  behind : l.from ≤ l.at;
  within : l.at ≤ length l.shown;
}
