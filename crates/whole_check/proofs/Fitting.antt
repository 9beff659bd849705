-- How a turn fits the calls of a submission.
use Rattle.std.proofs.Common.{◌≡◌, refl, sym, ap, ◌∙◌, ℕ, ◌+◌, ◌<◌, ◌≤◌, Bool, true, false, cond, length, get_or, take, drop, reverse, List, [], ◌∷◌, ◌++◌, arith, eqb}
use Rattle.std.specs.Prelude.{◌&&◌, ◌||◌, ◌==◌}
use Rattle.std.proofs.lemmas.Bool.{eq-eqb, ne_eqb}
use Rattle.std.proofs.lemmas.List.{drop_more, drop_all, take_more, length-reverse, length-take-le, drop-append-le, reverse-append}
use Rattle.svc_values.specs.declared.call.Call.{Call}
use Rattle.svc_values.specs.meaning.Same.{same_call, same_calls}
use Rattle.outage_schedule.specs.declared.request.ShownCall.{ShownCall}
use Rattle.shown_clauses.specs.meaning.Turns.{ends_decided, shown_since, are_these, fits_here, fits_from}

-- what is left of the search at a place, where the calls since another place may be repeated
abbrev pub fits_since : Call → List Call → List Call → List ShownCall → ℕ → ℕ → Bool
fits_since first marked script shown from at = fits_from first marked (reverse (drop from (take at script))) (drop at script) (drop at shown)

-- ---- lists in the other order

and_last : (a b c : Bool) → ((a && b) && c) ≡ (a && (b && c))
and_last true b c = refl
and_last false b c = refl

pushed_same : (xs ys : List Call) (x y : Call) → length xs ≡ length ys → same_calls (xs ++ x ∷ []) (ys ++ y ∷ []) ≡ (same_calls xs ys && same_call x y)
pushed_same [] [] x y long = by (same_call x y)
  where
    by : (b : Bool) → (b && true) ≡ b
    by true = refl
    by false = refl
pushed_same [] (b ∷ ys) x y long = absurd (omega (arith, long))
pushed_same (a ∷ xs) [] x y long = absurd (omega (arith, long))
pushed_same (a ∷ xs) (b ∷ ys) x y long =
    ap (λ t. same_call a b && t) (pushed_same xs ys x y (omega (arith, long)))
    ∙ sym (and_last (same_call a b) (same_calls xs ys) (same_call x y))

-- `reverse` by its last step
reverse_more : (x : Call) (xs : List Call) → reverse (x ∷ xs) ≡ reverse xs ++ x ∷ []
reverse_more x xs = reverse-append (x ∷ []) xs

and_swap : (a b : Bool) → (a && b) ≡ (b && a)
and_swap true true = refl
and_swap true false = refl
and_swap false true = refl
and_swap false false = refl

reversed_same : (xs ys : List Call) → length xs ≡ length ys → same_calls (reverse xs) (reverse ys) ≡ same_calls xs ys
reversed_same [] [] long = refl
reversed_same [] (y ∷ ys) long = absurd (omega (arith, long))
reversed_same (x ∷ xs) [] long = absurd (omega (arith, long))
reversed_same (x ∷ xs) (y ∷ ys) long =
    let fewer : length xs ≡ length ys = omega (arith, long) in
    (λ i. same_calls (reverse_more x xs i) (reverse_more y ys i))
    ∙ (pushed_same (reverse xs) (reverse ys) x y (length-reverse xs ∙ (fewer ∙ sym (length-reverse ys)))
    ∙ (ap (λ t. t && same_call x y) (reversed_same xs ys fewer)
    ∙ and_swap (same_calls xs ys) (same_call x y)))

-- ---- one place

pub fits_not_long : (first : Call) (marked since : List Call) (call : Call) → (length since ≡ length marked → ⊥) → fits_here first (reverse marked) (reverse since) call ≡ false
fits_not_long first marked since call other =
    let long : (length (reverse since) == length (reverse marked)) ≡ false = (λ i. eqb (length-reverse since i) (length-reverse marked i)) ∙ ne_eqb (length since) (length marked) other in
    ap (λ b. are_these (same_call call first && b) (reverse marked) (reverse since)) long
    ∙ by (same_call call first)
  where
    by : (t : Bool) → are_these (t && false) (reverse marked) (reverse since) ≡ false
    by true = refl
    by false = refl

pub fits_not_call : (first : Call) (marked since : List Call) (call : Call) → same_call call first ≡ false → fits_here first (reverse marked) (reverse since) call ≡ false
fits_not_call first marked since call other = ap (λ b. are_these (b && (length (reverse since) == length (reverse marked))) (reverse marked) (reverse since)) other

pub fits_is : (first : Call) (marked since : List Call) (call : Call) → length since ≡ length marked → same_call call first ≡ true
    → fits_here first (reverse marked) (reverse since) call ≡ same_calls marked since
fits_is first marked since call long same =
    let both : (length (reverse since) == length (reverse marked)) ≡ true = eq-eqb (length (reverse since)) (length (reverse marked)) (length-reverse since ∙ (long ∙ sym (length-reverse marked))) in
    (λ i. are_these (same i && both i) (reverse marked) (reverse since))
    ∙ reversed_same marked since (sym long)

-- ---- one place more

pub since_first : (first : Call) (marked script : List Call) (shown : List ShownCall) → fits_since first marked script shown 0 0 ≡ fits_from first marked [] script shown
since_first first marked script shown = refl

-- the calls since a place, where one more goes in
since_more : (script : List Call) (from at next : ℕ) (call : Call) (b : Bool) → at < length script → call ≡ get_or script at call → from ≤ at → next ≡ cond b (at + 1) from
    → shown_since b call (reverse (drop from (take at script))) ≡ reverse (drop next (take (at + 1) script))
since_more script from at next call true within is behind next_is =
    let most : at + 1 ≤ length script = omega (arith, within) in
    let none : drop (at + 1) (take (at + 1) script) ≡ [] = drop_all (at + 1) (take (at + 1) script) (let long = length-take-le (at + 1) script most in omega (arith, long)) in
    sym (ap (λ (n : ℕ). reverse (drop n (take (at + 1) script))) next_is ∙ ap reverse none)
since_more script from at next call false within is behind next_is =
    let most : at ≤ length script = omega (arith, within) in
    let long : from ≤ length (take at script) = (let same = length-take-le at script most in omega (arith, same, behind)) in
    sym (ap (λ (n : ℕ). reverse (drop n (take (at + 1) script))) next_is
    ∙ (ap (λ (front : List Call). reverse (drop from front)) (take_more script at call within ∙ ap (λ (x : Call). take at script ++ x ∷ []) (sym is))
    ∙ (ap reverse (drop-append-le from (take at script) (call ∷ []) long) ∙ reverse-append (drop from (take at script)) (call ∷ []))))

script_left : (script : List Call) (at : ℕ) (call : Call) → at < length script → call ≡ get_or script at call → drop at script ≡ call ∷ drop (at + 1) script
script_left script at call within is = drop_more script at call within ∙ ap (λ (x : Call). x ∷ drop (at + 1) script) (sym is)

shown_left : (shown : List ShownCall) (at : ℕ) (one : ShownCall) → at < length shown → one ≡ get_or shown at one → drop at shown ≡ one ∷ drop (at + 1) shown
shown_left shown at one within is = drop_more shown at one within ∙ ap (λ (x : ShownCall). x ∷ drop (at + 1) shown) (sym is)

-- it fits here
pub since_fits : (first : Call) (marked script : List Call) (shown : List ShownCall) (from at : ℕ) (call : Call) → at < length script → call ≡ get_or script at call
    → fits_here first marked (reverse (drop from (take at script))) call ≡ true → fits_since first marked script shown from at ≡ true
since_fits first marked script shown from at call within is fits =
    ap (λ (calls : List Call). fits_from first marked (reverse (drop from (take at script))) calls (drop at shown)) (script_left script at call within is)
    ∙ by (drop at shown)
  where
    by : (left : List ShownCall) → fits_from first marked (reverse (drop from (take at script))) (call ∷ drop (at + 1) script) left ≡ true
    by [] = fits
    by (one ∷ left) = ap (λ b. b || fits_from first marked (shown_since (ends_decided one.answers) call (reverse (drop from (take at script)))) (drop (at + 1) script) left) fits

-- it fits nowhere, since no more is shown
pub since_over : (first : Call) (marked script : List Call) (shown : List ShownCall) (from at : ℕ) (call : Call) → at < length script → call ≡ get_or script at call → length shown ≤ at
    → fits_here first marked (reverse (drop from (take at script))) call ≡ false → fits_since first marked script shown from at ≡ false
since_over first marked script shown from at call within is past not =
    (λ i. fits_from first marked (reverse (drop from (take at script))) (script_left script at call within is i) (drop_all at shown past i)) ∙ not

-- it does not fit here, and one more is shown
pub since_next : (first : Call) (marked script : List Call) (shown : List ShownCall) (from at next : ℕ) (call : Call) (one : ShownCall) → at < length script → call ≡ get_or script at call
    → at < length shown → one ≡ get_or shown at one → from ≤ at → next ≡ cond (ends_decided one.answers) (at + 1) from
    → fits_here first marked (reverse (drop from (take at script))) call ≡ false → fits_since first marked script shown from at ≡ fits_since first marked script shown next (at + 1)
since_next first marked script shown from at next call one within is among one_is behind next_is not =
    (λ i. fits_from first marked (reverse (drop from (take at script))) (script_left script at call within is i) (shown_left shown at one among one_is i))
    ∙ (ap (λ b. b || fits_from first marked (shown_since (ends_decided one.answers) call (reverse (drop from (take at script)))) (drop (at + 1) script) (drop (at + 1) shown)) not
    ∙ ap (λ (since : List Call). fits_from first marked since (drop (at + 1) script) (drop (at + 1) shown)) (since_more script from at next call (ends_decided one.answers) within is behind next_is))

pub since_nowhere : (first : Call) (marked script : List Call) (shown : List ShownCall) (from at : ℕ) → length script ≤ at → fits_since first marked script shown from at ≡ false
since_nowhere first marked script shown from at past =
    ap (λ (calls : List Call). fits_from first marked (reverse (drop from (take at script))) calls (drop at shown)) (drop_all at script past)

pub next_most : (from at next : ℕ) (one : ShownCall) → from ≤ at → next ≡ cond (ends_decided one.answers) (at + 1) from → next ≤ at + 1
next_most from at next one behind is = by (ends_decided one.answers) is
  where
    by : (b : Bool) → next ≡ cond b (at + 1) from → next ≤ at + 1
    by true same = omega (arith, same)
    by false same = omega (arith, same, behind)
