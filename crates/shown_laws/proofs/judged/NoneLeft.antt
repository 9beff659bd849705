-- No step of a client at no request is of no submission.
use Rattle.std.proofs.Common.{◌≡◌, refl, sym, ap, ◌∙◌, Bool, ℕ, zero, suc, ◌+◌, length, List, [], ◌∷◌, ◌++◌, map, cond, Option, Some, None, option_map, arith}
use Rattle.std.specs.Prelude.{is_some}
use Rattle.std.specs.List.{cons_option}
use Rattle.svc_values.specs.declared.entry.SessionId.{SessionId}
use Rattle.shown_clauses.specs.meaning.Fronts.{first_item}
use Rattle.shown_clauses.specs.meaning.Parts.{Counted, acquires, counted_from, left_from, left_of}
use Rattle.shown_clauses.specs.meaning.Steps.{Step}
use Rattle.shown_clauses.specs.meaning.Submissions.{Submission}
use Rattle.world_model.specs.meaning.Clients.{Past}
use Rattle.shown_laws.specs.PartsTold.{OfEach, HasIts}
use Rattle.shown_laws.specs.Submitted.{submission_of}
use Rattle.shown_laws.specs.Tellings.{Telling, steps_in_tellings}
use Rattle.shown_laws.proofs.steps.PartsCut.{from, rest_is}
use Rattle.shown_laws.proofs.steps.PartsSplit.{sessions_told, AreSplit, NoneSplit, OneSplit, all_told, told_more}

-- the sessions of all submissions
abbrev total : List Submission → ℕ
total [] = 0
total (one ∷ submissions) = length one.copy.sessions + total submissions

-- what is behind so many sessions, where these acquired some
from_own : (count more limit : ℕ) (own rest : List Step) → OfEach HasIts own → length (sessions_told own) ≡ count → limit ≡ count + more → from limit (own ++ rest) ≡ from more rest
from_own zero more limit [] rest all is same = let it : limit ≡ more = omega (arith, same) in ap (λ (n : ℕ). from n rest) it
from_own (suc count) more limit [] rest all is same = absurd (let none : ⊥ = cc in none)
from_own count more limit (step ∷ own) rest all is same = by count limit step.session all.0 is same (λ few left has next. from_own few more left own rest all.1 has next)
  where
    by : (count limit : ℕ) (found : Option SessionId) → acquires step ≡ is_some found → length (cons_option found (sessions_told own)) ≡ count → limit ≡ count + more
        → ((few left : ℕ) → length (sessions_told own) ≡ few → left ≡ few + more → from left (own ++ rest) ≡ from more rest) → from limit (step ∷ own ++ rest) ≡ from more rest
    by zero limit (Some session) has is same next = absurd (let none : ⊥ = cc in none)
    by (suc count) zero (Some session) has is same next = absurd (let none : ⊥ = omega (arith, same) in none)
    by (suc count) (suc limit) (Some session) has is same next =
        let less : length (sessions_told own) ≡ count = omega (arith, is) in
        let left : limit ≡ count + more = omega (arith, same) in
        ap (λ (b : Bool). cond b (from limit (own ++ rest)) (from (suc limit) (own ++ rest))) has ∙ next count limit less left
    by count zero None has is same next = ap (λ (b : Bool). cond b (step ∷ own ++ rest) (from zero (own ++ rest))) has ∙ next count zero is same
    by count (suc limit) None has is same next = ap (λ (b : Bool). cond b (from limit (own ++ rest)) (from (suc limit) (own ++ rest))) has ∙ next count (suc limit) is same

-- all that is told has as many as there are
all_from : (past : List Past) (told : List (List Telling)) → AreSplit past told → from (total (map submission_of past)) (all_told told) ≡ []
all_from _ _ NoneSplit = refl
all_from _ _ (OneSplit one past tellings more split has many rest) =
    ap (from (length one.report.sessions + total (map submission_of past))) (told_more tellings more)
    ∙ (from_own (length one.report.sessions) (total (map submission_of past)) (length one.report.sessions + total (map submission_of past)) (steps_in_tellings tellings) (all_told more) has many refl ∙ all_from past more rest)

-- the first step that is behind so many sessions
left_is : (before : ℕ) (submissions : List Submission) (steps : List Counted) → left_from before submissions steps ≡ left_from (before + total submissions) [] steps
left_is before [] steps = let same : before + 0 ≡ before = omega arith in ap (λ (n : ℕ). left_from n [] steps) (sym same)
left_is before (one ∷ submissions) steps =
    let same : (before + length one.copy.sessions) + total submissions ≡ before + (length one.copy.sessions + total submissions) = omega arith in
    left_is (before + length one.copy.sessions) submissions steps ∙ ap (λ (n : ℕ). left_from n [] steps) same

pub none_left : (past : List Past) (told : List (List Telling)) → AreSplit past told → left_of (map submission_of past) (all_told told) ≡ None
none_left past told split =
    left_is 0 (map submission_of past) (counted_from 0 (all_told told))
    ∙ (ap (λ (rest : List Counted). option_map (λ (counted : Counted). counted.step) (first_item rest)) (rest_is 0 (0 + total (map submission_of past)) (total (map submission_of past)) (all_told told) refl)
    ∙ ap (λ (rest : List Step). option_map (λ (counted : Counted). counted.step) (first_item (counted_from (0 + total (map submission_of past)) rest))) (all_from past told split))
