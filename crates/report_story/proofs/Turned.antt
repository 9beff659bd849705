-- Calls that are put last in a turn.
use Rattle.std.proofs.Common.{◌≡◌, refl, ap, ◌∙◌, suc, ◌+◌, Bool, true, false, length, List, [], ◌∷◌, ◌++◌, map, reverse, arith}
use Rattle.std.specs.List.{filter}
use Rattle.shown_clauses.specs.meaning.Links.{Marked}
use Rattle.shown_clauses.specs.meaning.Turns.{is_marked}
use Rattle.std.proofs.lemmas.List.{map_push, reverse-append}
use Rattle.report_story.specs.declared.turns.Marked.{Marked as MarkedCall}
use Rattle.report_story.specs.Views.{marked_as}

pub one_more : (calls : List MarkedCall) (one : MarkedCall) → reverse (map marked_as (calls ++ one ∷ [])) ≡ marked_as one ∷ reverse (map marked_as calls)
one_more calls one = ap reverse (map_push marked_as calls one) ∙ reverse-append (map marked_as calls) (marked_as one ∷ [])

-- ---- calls with the mark

count-append : (xs ys : List Marked) → length (filter is_marked (xs ++ ys)) ≡ length (filter is_marked xs) + length (filter is_marked ys)
count-append [] ys = let none : length (filter is_marked ys) ≡ 0 + length (filter is_marked ys) = omega arith in none
count-append (x ∷ xs) ys = by (is_marked x) refl (count-append xs ys)
  where
    by : (b : Bool) → is_marked x ≡ b → length (filter is_marked (xs ++ ys)) ≡ length (filter is_marked xs) + length (filter is_marked ys)
        → length (filter is_marked ((x ∷ xs) ++ ys)) ≡ length (filter is_marked (x ∷ xs)) + length (filter is_marked ys)
    by true is rest = rw is (omega (arith, rest))
    by false is rest = rw is rest

pub marked_count : (calls : List MarkedCall) → length (filter (λ (one : MarkedCall). one.replay) calls) ≡ length (filter is_marked (reverse (map marked_as calls)))
marked_count [] = refl
marked_count (one ∷ calls) = by one.replay refl (marked_count calls)
  where
    last : length (filter is_marked (reverse (map marked_as (one ∷ calls)))) ≡ length (filter is_marked (reverse (map marked_as calls))) + length (filter is_marked (marked_as one ∷ []))
    last = ap (λ (all : List Marked). length (filter is_marked all)) (reverse-append (marked_as one ∷ []) (map marked_as calls)) ∙ count-append (reverse (map marked_as calls)) (marked_as one ∷ [])

    by : (b : Bool) → one.replay ≡ b → length (filter (λ (x : MarkedCall). x.replay) calls) ≡ length (filter is_marked (reverse (map marked_as calls)))
        → length (filter (λ (x : MarkedCall). x.replay) (one ∷ calls)) ≡ length (filter is_marked (reverse (map marked_as (one ∷ calls))))
    by true is rest =
        let left : length (filter (λ (x : MarkedCall). x.replay) (one ∷ calls)) ≡ suc (length (filter (λ (x : MarkedCall). x.replay) calls)) = rw is refl in
        let right : length (filter is_marked (marked_as one ∷ [])) ≡ 1 = rw is refl in
        omega (arith, left, right, rest, last)
    by false is rest =
        let left : length (filter (λ (x : MarkedCall). x.replay) (one ∷ calls)) ≡ length (filter (λ (x : MarkedCall). x.replay) calls) = rw is refl in
        let right : length (filter is_marked (marked_as one ∷ [])) ≡ 0 = rw is refl in
        omega (arith, left, right, rest, last)
