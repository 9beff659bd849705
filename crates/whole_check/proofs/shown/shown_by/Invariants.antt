use Rattle.std.proofs.Common.{◌≡◌, ◌≤◌, ◌++◌, map}
use Rattle.shown_clauses.specs.meaning.Showings.{shown_with, tried_by_call}
use Rattle.whole_check.specs.Views.{shown_as}
use Rattle.whole_check.proofs.TriedLists.{shown_from}
use Rattle.whole_check.proofs.shown.shown_by.Given as goal

abbrev pub invariant-loop-at : goal.invariant-loop-at
invariant-loop-at l =
    let replies = map (λ one. one.now) l.showings in
    record {
      rest : map shown_as l.all.items ++ shown_from l.script l.lists l.calls replies l.over l.at ≡ shown_with l.script (tried_by_call l.copy) l.copy.calls replies;
      within : l.over ≤ l.at;
    }
