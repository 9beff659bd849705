use Rattle.std.proofs.Common.{◌≡◌, ◌++◌, map, take, drop}
use Rattle.report_story.specs.Changes.{changed}
use Rattle.report_story.specs.Placing.{identity_of, is_which}
use Rattle.report_story.proofs.change.change_all.Given as goal

abbrev pub invariant-loop-line : goal.invariant-loop-line
invariant-loop-line g l = record {
  done : l.lines ≡ map (changed (is_which l.which) (g.C.Change.change l.change)) (take l.line-index l.initial.lines) ++ drop l.line-index l.initial.lines;
  identities : map identity_of l.lines ≡ map identity_of l.initial.lines;
}
