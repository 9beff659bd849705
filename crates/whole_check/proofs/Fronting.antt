-- The calls with the mark that stand first.
use Rattle.std.proofs.Common.{◌≡◌, refl, sym, ap, ◌∙◌, append_assoc, ℕ, ◌+◌, ◌<◌, true, length, get_or, take, drop, List, [], ◌∷◌, ◌++◌, map}
use Rattle.std.proofs.lemmas.List.{drop_more, take_more, map-append}
use Rattle.shown_clauses.specs.meaning.Fronts.{front_from, front_of, rest_from, rest_of}
use Rattle.shown_clauses.specs.meaning.Links.{Marked}
use Rattle.shown_clauses.specs.meaning.Turns.{is_marked}
use Rattle.report_story.specs.declared.turns.Marked.{Marked as MarkedCall}
use Rattle.report_story.specs.Views.{marked_as}

front_more : (x : Marked) (xs : List Marked) → front_from is_marked true x xs ≡ x ∷ front_of is_marked xs
front_more x [] = refl
front_more x (y ∷ xs) = refl

rest_more : (x : Marked) (xs : List Marked) → rest_from is_marked true x xs ≡ rest_of is_marked xs
rest_more x [] = refl
rest_more x (y ∷ xs) = refl

left_is : (calls : List MarkedCall) (at : ℕ) (one : MarkedCall) → at < length calls → one ≡ get_or calls at one
    → map marked_as (drop at calls) ≡ marked_as one ∷ map marked_as (drop (at + 1) calls)
left_is calls at one within is = ap (map marked_as) (drop_more calls at one within) ∙ ap (λ (x : MarkedCall). marked_as x ∷ map marked_as (drop (at + 1) calls)) (sym is)

-- one call with the mark more
pub front_next : (calls : List MarkedCall) (at : ℕ) (one : MarkedCall) → at < length calls → one ≡ get_or calls at one → one.replay ≡ true
    → map marked_as (take (at + 1) calls) ++ front_of is_marked (map marked_as (drop (at + 1) calls)) ≡ map marked_as (take at calls) ++ front_of is_marked (map marked_as (drop at calls))
front_next calls at one within is marked =
    let later = map marked_as (drop (at + 1) calls) in
    let taken : map marked_as (take (at + 1) calls) ≡ map marked_as (take at calls) ++ marked_as one ∷ [] =
    ap (map marked_as) (take_more calls at one within ∙ ap (λ (x : MarkedCall). take at calls ++ x ∷ []) (sym is)) ∙ map-append marked_as (take at calls) (one ∷ []) in
    let here : front_of is_marked (map marked_as (drop at calls)) ≡ marked_as one ∷ front_of is_marked later =
    ap (front_of is_marked) (left_is calls at one within is) ∙ (ap (λ b. front_from is_marked b (marked_as one) later) marked ∙ front_more (marked_as one) later) in
    ap (λ (front : List Marked). front ++ front_of is_marked later) taken
    ∙ (append_assoc (map marked_as (take at calls)) (marked_as one ∷ []) (front_of is_marked later)
    ∙ ap (λ (rest : List Marked). map marked_as (take at calls) ++ rest) (sym here))

pub rest_next : (calls : List MarkedCall) (at : ℕ) (one : MarkedCall) → at < length calls → one ≡ get_or calls at one → one.replay ≡ true
    → rest_of is_marked (map marked_as (drop (at + 1) calls)) ≡ rest_of is_marked (map marked_as (drop at calls))
rest_next calls at one within is marked =
    let later = map marked_as (drop (at + 1) calls) in
    sym (ap (rest_of is_marked) (left_is calls at one within is) ∙ (ap (λ b. rest_from is_marked b (marked_as one) later) marked ∙ rest_more (marked_as one) later))
