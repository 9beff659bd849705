-- A call of a script, and calls with the mark that stand in a row up to it from the one after the
-- last that was shown as decided: they fit there.
use Rattle.std.proofs.Common.{◌≡◌, refl, sym, ap, subst, ◌∙◌, Bool, true, false, ℕ, suc, zero, ◌+◌, ◌≤◌, ◌<◌, ◌&&◌, length, List, [], ◌∷◌, ◌++◌, reverse, Some, cond, arith}
use Rattle.std.specs.Prelude.{◌==◌, take, drop, slice_get}
use Rattle.std.proofs.lemmas.Bool.{and_from, or_right, or_left}
use Rattle.std.proofs.lemmas.Option.{slice_get_within}
use Rattle.std.proofs.lemmas.List.{append-nil, append_assoc, reverse-append, drop_all, drop-append-le, length_push}
use Rattle.svc_values.specs.declared.call.Call.{Call}
use Rattle.svc_values.specs.meaning.Same.{same_call}
use Rattle.svc_values.specs.SameLaws.{same_call_decides, same_calls_decide}
use Rattle.outage_schedule.specs.declared.request.ShownCall.{ShownCall}
use Rattle.shown_clauses.specs.meaning.Turns.{ends_decided, shown_since, are_these, fits_here, fits_from}
use Rattle.world_model.specs.records.Script.{behind_decided, recorded_from}
use Rattle.shown_laws.proofs.events.Lookups.{eq_to}

-- calls of a script that stand in a row from a place on
pub data InRow (script : List Call) : ℕ → List Call → Type 0 where
  RowEnds : (at : ℕ) → InRow script at []
  RowGoes : (at : ℕ) (call : Call) (more : List Call) → slice_get script at ≡ Some call → InRow script (at + 1) more → InRow script at (call ∷ more)

-- LISTS -------------------------------------------------------------------------------------------

front_long : {A : Type 0} (count : ℕ) (xs : List A) → length (take count xs) ≤ count
front_long zero xs = omega arith
front_long (suc count) [] = omega arith
front_long (suc count) (x ∷ xs) = let rest : length (take count xs) ≤ count = front_long count xs in omega arith

drop_here : (calls : List Call) (at end : ℕ) (call : Call) → slice_get calls at ≡ Some call → at < end → drop at (take end calls) ≡ call ∷ drop (at + 1) (take end calls)
drop_here [] at end call is before = absurd (let none : ⊥ = cc in none)
drop_here (first ∷ calls) at zero call is before = absurd (let none : ⊥ = omega arith in none)
drop_here (first ∷ calls) zero (suc end) call is before = let same : first ≡ call = cc in ap (λ (c : Call). c ∷ take end calls) same
drop_here (first ∷ calls) (suc at) (suc end) call is before =
    let next : suc (at + 1) ≡ suc at + 1 = omega arith in
    let sooner : at < end = omega arith in
    drop_here calls at end call is sooner ∙ ap (λ (n : ℕ). call ∷ drop n (first ∷ take end calls)) next

-- they are those of the script between the two places
row_is : (script : List Call) (at end : ℕ) (row : List Call) → InRow script at row → at + length row ≡ end → row ≡ drop at (take end script)
row_is script _ end _ (RowEnds at) long =
    let here : at ≡ end = omega arith in
    let short : length (take end script) ≤ at = subst (λ (n : ℕ). length (take end script) ≤ n) (sym here) (front_long end script) in
    sym (drop_all at (take end script) short)
row_is script _ end _ (RowGoes at call more is goes) long =
    let sooner : at < end = omega arith in
    let left : at + 1 + length more ≡ end = omega arith in
    ap (λ (calls : List Call). call ∷ calls) (row_is script (at + 1) end more goes left) ∙ sym (drop_here script at end call is sooner)

-- SINCE THE LAST DECIDED CALL ---------------------------------------------------------------------

-- what was gathered, the newest first, once so many more calls were shown
abbrev gathered : ℕ → List Call → List Call → List ShownCall → List Call
gathered zero since calls shown = since
gathered (suc count) since [] shown = since
gathered (suc count) since (call ∷ calls) [] = since
gathered (suc count) since (call ∷ calls) (one ∷ shown) = gathered count (shown_since (ends_decided one.answers) call since) calls shown

-- the same from one call on
abbrev Onward : ℕ → ℕ → List Call → List Call → List ShownCall → Type 0
Onward count index before calls shown =
    (now : ℕ) (gone : List Call) → gone ≡ reverse (drop now before) → length before ≡ index → now ≤ index → count ≤ length shown → count ≤ length calls
    → gathered count gone calls shown ≡ reverse (drop (behind_decided now index (take count shown)) (before ++ take count calls))

gathered_is : (count found index : ℕ) (before since calls : List Call) (shown : List ShownCall) → since ≡ reverse (drop found before) → length before ≡ index → found ≤ index → count ≤ length shown → count ≤ length calls
    → gathered count since calls shown ≡ reverse (drop (behind_decided found index (take count shown)) (before ++ take count calls))
gathered_is zero found index before since calls shown is long low within among = is ∙ ap (λ (all : List Call). reverse (drop found all)) (sym (append-nil before))
gathered_is (suc count) found index before since [] shown is long low within among = absurd (let none : ⊥ = omega arith in none)
gathered_is (suc count) found index before since (call ∷ calls) [] is long low within among = absurd (let none : ⊥ = omega arith in none)
gathered_is (suc count) found index before since (call ∷ calls) (one ∷ shown) is long low within among = by (ends_decided one.answers) (λ now gone. gathered_is count now (index + 1) (before ++ call ∷ []) gone calls shown)
  where
    within_rest : count ≤ length shown
    within_rest = omega (arith, within)

    among_rest : count ≤ length calls
    among_rest = omega (arith, among)

    longer : length (before ++ call ∷ []) ≡ index + 1
    longer = length_push before call ∙ ap (λ (n : ℕ). n + 1) long

    joined : (from : ℕ) → reverse (drop from ((before ++ call ∷ []) ++ take count calls)) ≡ reverse (drop from (before ++ call ∷ take count calls))
    joined from = ap (λ (all : List Call). reverse (drop from all)) (append_assoc before (call ∷ []) (take count calls))

    by : (over : Bool) → Onward count (index + 1) (before ++ call ∷ []) calls shown → gathered count (shown_since over call since) calls shown ≡ reverse (drop (behind_decided (cond over (index + 1) found) (index + 1) (take count shown)) (before ++ call ∷ take count calls))
    by true onward =
        let nothing : drop (index + 1) (before ++ call ∷ []) ≡ [] = drop_all (index + 1) (before ++ call ∷ []) (let short : length (before ++ call ∷ []) ≤ index + 1 = omega (arith, longer) in short) in
        let rest : index + 1 ≤ index + 1 = omega arith in
        onward (index + 1) [] (sym (ap reverse nothing)) longer rest within_rest among_rest
        ∙ joined (behind_decided (index + 1) (index + 1) (take count shown))
    by false onward =
        let lower : found ≤ length before = omega (arith, low, long) in
        let one_more : reverse (drop found (before ++ call ∷ [])) ≡ call ∷ reverse (drop found before) =
        ap reverse (drop-append-le found before (call ∷ []) lower) ∙ reverse-append (drop found before) (call ∷ []) in
        let rest : found ≤ index + 1 = omega (arith, low) in
        onward found (call ∷ since) (ap (λ (all : List Call). call ∷ all) is ∙ sym one_more) longer rest within_rest among_rest
        ∙ joined (behind_decided found (index + 1) (take count shown))

-- FITTING -----------------------------------------------------------------------------------------

fits_here_is : (first call : Call) (since : List Call) → call ≡ first → fits_here first since since call ≡ true
fits_here_is first call since same =
    let tests : (same_call call first && (length since == length since)) ≡ true = and_from (same_call call first) (length since == length since) ((same_call_decides call first).1 same) (eq_to (length since) (length since) refl) in
    ap (λ (test : Bool). are_these test since since) tests ∙ (same_calls_decide since since).1 refl

fits_at : (at : ℕ) (first : Call) (since calls : List Call) (shown : List ShownCall) → slice_get calls at ≡ Some first → at ≤ length shown → fits_from first (gathered at since calls shown) since calls shown ≡ true
fits_at at first since [] shown is within = absurd (let none : ⊥ = cc in none)
fits_at zero first since (call ∷ calls) [] is within = let same : call ≡ first = cc in fits_here_is first call since same
fits_at zero first since (call ∷ calls) (one ∷ shown) is within =
    let same : call ≡ first = cc in
    let here : fits_here first since since call ≡ true = fits_here_is first call since same in
    or_left (fits_here first since since call) _ here
fits_at (suc at) first since (call ∷ calls) [] is within = absurd (let none : ⊥ = omega arith in none)
fits_at (suc at) first since (call ∷ calls) (one ∷ shown) is within =
    let rest : at ≤ length shown = omega arith in
    or_right (fits_here first (gathered (suc at) since (call ∷ calls) (one ∷ shown)) since call) _ (fits_at at first (shown_since (ends_decided one.answers) call since) calls shown is rest)

-- Calls with the mark in a row from where the recorded ones begin, and the call behind them.
pub row_fits : (script : List Call) (shown : List ShownCall) (from at : ℕ) (first : Call) (marked : List Call)
    → InRow script from marked → from + length marked ≡ at → from ≡ recorded_from (take at shown) → slice_get script at ≡ Some first → at ≤ length shown
    → fits_from first (reverse marked) [] script shown ≡ true
row_fits script shown from at first marked row long begins is within =
    subst (λ (since : List Call). fits_from first since [] script shown ≡ true) same (fits_at at first [] script shown is within)
  where
    among : at ≤ length script
    among = let inside : at < length script = slice_get_within script at first is in omega arith

    same : gathered at [] script shown ≡ reverse marked
    same =
        let zero_low : 0 ≤ 0 = omega arith in
        gathered_is at 0 0 [] [] script shown refl refl zero_low within among
        ∙ (ap (λ (n : ℕ). reverse (drop n (take at script))) (sym begins) ∙ ap reverse (sym (row_is script from at marked row long)))
