-- The showings of a request: the replies by which its calls were shown.
-- Here is what contracts and proofs say of it besides.
use Rattle.std.specs.Prelude.{Bool, filter_map}
use Rattle.std.specs.Cmp.Lexicographic.{pointwise}
use Rattle.shown_clauses.specs.meaning.Parts.{Part}
use Rattle.shown_clauses.specs.meaning.Showings.{outcome_at, same_outcome}

-- A request's `outcomes` are the outcome answers that its steps took, each with the identifier
-- asked, in order. (`Followed` says so.)
abbrev pub has_its_outcomes : Part → Bool
has_its_outcomes part = pointwise same_outcome part.submission.copy.outcomes
    (filter_map outcome_at part.steps)
