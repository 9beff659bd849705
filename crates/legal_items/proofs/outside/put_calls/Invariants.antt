use Rattle.std.proofs.Common.{◌≡◌, ◌++◌, drop, map}
use Rattle.shown_clauses.specs.meaning.LegalItems.{all_did, things_of}
use Rattle.legal_items.specs.Told.{at_place}
use Rattle.legal_items.specs.Views.{placed_as}
use Rattle.legal_items.proofs.outside.put_calls.Given as goal

abbrev pub invariant-loop-at : goal.invariant-loop-at
invariant-loop-at l =
    map placed_as l.items.items ++ at_place l.when.at (all_did l.when.event l.when.tick l.session (things_of (drop l.at l.calls) (drop l.at l.runs)))
    ≡ map placed_as l.initial.items.items ++ at_place l.when.at (all_did l.when.event l.when.tick l.session (things_of l.calls l.runs))
