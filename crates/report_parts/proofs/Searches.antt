-- Searches among steps and parts, and the calls behind the last decided one.
use Rattle.std.proofs.Common.{◌≡◌, refl, sym, ap, ◌∙◌, ℕ, zero, suc, ◌+◌, ◌-◌, ◌<◌, ◌≤◌, Bool, true, false, cond, length, get_or, take, drop, reverse, List, [], ◌∷◌, ◌++◌, map, Some, None, arith}
use Rattle.std.specs.Prelude.{◌||◌, ◌==◌}
use Rattle.std.specs.List.{list_any, filter}
use Rattle.std.proofs.lemmas.List.{at_drop_more, at_drop_all, reverse-append, reverse-reverse, drop_more, drop_all, take_all, take_more, length-take-le, drop-append-le}
use Rattle.outage_schedule.specs.declared.request.ShownCall.{ShownCall}
use Rattle.shown_clauses.specs.meaning.Fronts.{first_from, first_of}
use Rattle.shown_clauses.specs.meaning.KeptDraws.{if_decided, shown_since}
use Rattle.shown_clauses.specs.meaning.Parts.{Part}
use Rattle.shown_clauses.specs.meaning.Steps.{Step, steps_of}
use Rattle.shown_clauses.specs.meaning.Turns.{ends_decided}
use Rattle.report_parts.specs.declared.parts.Part.{Part as PartAt}
use Rattle.report_story.specs.declared.steps.Step.{Step as StepAt}
use Rattle.report_parts.specs.PartViews.{part_as}
use Rattle.report_story.specs.Views.{step_as}

pub any_mapped : (test : Step → Bool) (steps : List StepAt) → list_any test (map step_as steps) ≡ list_any (λ step. test (step_as step)) steps
any_mapped test [] = refl
any_mapped test (step ∷ steps) = ap (λ b. test (step_as step) || b) (any_mapped test steps)

pub counted_mapped : (test : Step → Bool) (steps : List StepAt) → length (filter test (map step_as steps)) ≡ length (filter (λ step. test (step_as step)) steps)
counted_mapped test [] = refl
counted_mapped test (step ∷ steps) = by (test (step_as step)) refl (counted_mapped test steps)
  where
    by : (b : Bool) → test (step_as step) ≡ b → length (filter test (map step_as steps)) ≡ length (filter (λ (one : StepAt). test (step_as one)) steps) → length (filter test (map step_as (step ∷ steps))) ≡ length (filter (λ (one : StepAt). test (step_as one)) (step ∷ steps))
    by true is rest = rw is (ap suc rest)
    by false is rest = rw is rest

-- ---- the first part that meets a test

next_from : (test : Part → Bool) (x : Part) (parts : List Part) → first_from test false x parts ≡ first_of test parts
next_from test x [] = refl
next_from test x (y ∷ parts) = refl

part_at : (test : Part → Bool) (parts : List PartAt) (i : ℕ) (x : PartAt) (b : Bool) → i < length parts → x ≡ get_or parts i x → test (part_as x) ≡ b
    → first_of test (map part_as (drop i parts)) ≡ first_from test b (part_as x) (map part_as (drop (i + 1) parts))
part_at test parts i x b within is tests =
    at_drop_more (λ (left : List PartAt). first_of test (map part_as left)) parts i x within
    ∙ (ap (λ (y : PartAt). first_of test (part_as y ∷ map part_as (drop (i + 1) parts))) (sym is)
    ∙ ap (λ c. first_from test c (part_as x) (map part_as (drop (i + 1) parts))) tests)

pub part_here : (test : Part → Bool) (parts : List PartAt) (i : ℕ) (x : PartAt) → i < length parts → x ≡ get_or parts i x → test (part_as x) ≡ true → first_of test (map part_as (drop i parts)) ≡ Some (part_as x)
part_here test parts i x within is tests = part_at test parts i x true within is tests

pub part_later : (test : Part → Bool) (parts : List PartAt) (i : ℕ) (x : PartAt) → i < length parts → x ≡ get_or parts i x → test (part_as x) ≡ false → first_of test (map part_as (drop i parts)) ≡ first_of test (map part_as (drop (i + 1) parts))
part_later test parts i x within is tests = part_at test parts i x false within is tests ∙ next_from test (part_as x) (map part_as (drop (i + 1) parts))

pub part_nowhere : (test : Part → Bool) (parts : List PartAt) (i : ℕ) → length parts ≤ i → first_of test (map part_as (drop i parts)) ≡ None
part_nowhere test parts i past = at_drop_all (λ (left : List PartAt). first_of test (map part_as left)) parts i past

-- ---- the calls behind the last decided one

-- of no more calls than there are
pub since_taken : (n : ℕ) (since shown : List ShownCall) → shown_since n since shown ≡ shown_since (length (take n shown)) since (take n shown)
since_taken zero since shown = refl
since_taken (suc n) since [] = refl
since_taken (suc n) since (one ∷ shown) = since_taken n (if_decided (ends_decided one.answers) one since) shown

-- those of the first calls behind the last decided one, the newest first
abbrev pub since_at : List ShownCall → ℕ → ℕ → List ShownCall
since_at shown from at = reverse (drop from (take at shown))

abbrev pub left_since : List ShownCall → ℕ → ℕ → List ShownCall
left_since shown from at = shown_since (length shown - at) (since_at shown from at) (drop at shown)

pub since_first : (shown : List ShownCall) → left_since shown 0 0 ≡ shown_since (length shown) [] shown
since_first shown = let all : length shown - 0 ≡ length shown = omega arith in ap (λ (n : ℕ). shown_since n [] shown) all

pub since_next : (shown : List ShownCall) (from at next : ℕ) (one : ShownCall) → at < length shown → one ≡ get_or shown at one → from ≤ at
    → next ≡ cond (ends_decided one.answers) (at + 1) from → left_since shown from at ≡ left_since shown next (at + 1)
since_next shown from at next one within is behind next_is =
    let count : length shown - at ≡ suc (length shown - (at + 1)) = omega (arith, within) in
    let first : drop at shown ≡ one ∷ drop (at + 1) shown = drop_more shown at one within ∙ ap (λ (x : ShownCall). x ∷ drop (at + 1) shown) (sym is) in
    (λ i. shown_since (count i) (since_at shown from at) (first i))
    ∙ ap (λ (since : List ShownCall). shown_since (length shown - (at + 1)) since (drop (at + 1) shown)) (by (ends_decided one.answers) ∙ ap (λ (n : ℕ). since_at shown n (at + 1)) (sym next_is))
  where
    more : since_at shown from (at + 1) ≡ one ∷ since_at shown from at
    more =
        let long : from ≤ length (take at shown) = omega (arith, length-take-le at shown (let most : at ≤ length shown = omega (arith, within) in most), behind) in
        ap (λ (front : List ShownCall). reverse (drop from front)) (take_more shown at one within ∙ ap (λ (x : ShownCall). take at shown ++ x ∷ []) (sym is))
        ∙ (ap reverse (drop-append-le from (take at shown) (one ∷ []) long) ∙ reverse-append (drop from (take at shown)) (one ∷ []))

    none : since_at shown (at + 1) (at + 1) ≡ []
    none = ap reverse (drop_all (at + 1) (take (at + 1) shown) (let most : at + 1 ≤ length shown = omega (arith, within) in omega (arith, length-take-le (at + 1) shown most)))

    by : (b : Bool) → if_decided b one (since_at shown from at) ≡ since_at shown (cond b (at + 1) from) (at + 1)
    by true = sym none
    by false = sym more

pub since_last : (shown : List ShownCall) (from at : ℕ) → length shown ≤ at → left_since shown from at ≡ drop from shown
since_last shown from at past =
    let none : length shown - at ≡ 0 = omega (arith, past) in
    (λ i. shown_since (none i) (since_at shown from at) (drop at shown))
    ∙ (reverse-reverse (drop from (take at shown)) ∙ ap (drop from) (take_all at shown past))

pub next_most : (from at next : ℕ) (one : ShownCall) → from ≤ at → next ≡ cond (ends_decided one.answers) (at + 1) from → next ≤ at + 1
next_most from at next one behind is = by (ends_decided one.answers) is
  where
    by : (b : Bool) → next ≡ cond b (at + 1) from → next ≤ at + 1
    by true same = omega (arith, same)
    by false same = omega (arith, same, behind)

-- ---- the steps of a client

pub steps_mapped : (client : ℕ) (steps : List StepAt) → map step_as (filter (λ (one : StepAt). one.client == client) steps) ≡ steps_of client (map step_as steps)
steps_mapped client [] = refl
steps_mapped client (one ∷ steps) = by (one.client == client) refl (steps_mapped client steps)
  where
    by : (b : Bool) → (one.client == client) ≡ b → map step_as (filter (λ (x : StepAt). x.client == client) steps) ≡ steps_of client (map step_as steps)
        → map step_as (filter (λ (x : StepAt). x.client == client) (one ∷ steps)) ≡ steps_of client (map step_as (one ∷ steps))
    by true is rest = rw is (ap (λ (left : List Step). step_as one ∷ left) rest)
    by false is rest = rw is rest
