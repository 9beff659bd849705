-- The steps of a client, cut into parts.
use Rattle.std.specs.Prelude.{◌≡◌, ℕ, ◌+◌, ◌≤◌, cond, List, [], ◌∷◌, length, map, take, drop}
use Rattle.shown_clauses.specs.meaning.Fronts.{front_of, rest_of}
use Rattle.shown_clauses.specs.meaning.Parts.{Counted, acquires, counted_from, is_acquired_by}
use Rattle.shown_clauses.specs.meaning.Steps.{Step}
use Rattle.shown_clauses.specs.meaning.Submissions.{Submission}

abbrev pub step_in : Counted → Step
step_in counted = counted.step

-- how many sessions these steps acquire
abbrev pub acquired_in : ℕ → List Step → ℕ
acquired_in before [] = before
acquired_in before (step ∷ steps) = acquired_in (before + cond (acquires step) 1 0) steps

-- how many sessions these submissions have
abbrev pub sessions_in : List Submission → ℕ
sessions_in [] = 0
sessions_in (one ∷ submissions) = length one.copy.sessions + sessions_in submissions

-- Of steps before which so many sessions were acquired, the first ones up to that many.
pub record IsReach (steps : List Step) (before upto len after : ℕ) : Type 0 where
  pub within : len ≤ length steps
  pub most : after ≤ before + len
  pub front : map step_in (front_of (is_acquired_by upto) (counted_from before steps))
      ≡ take len steps
  pub rest : rest_of (is_acquired_by upto) (counted_from before steps) ≡ counted_from after
      (drop len steps)
