-- The calls that were shown, cut into transactions: each part but the last ends with the only call
-- of it that ended one, and where they begin.
use Rattle.std.proofs.Common.{◌≡◌, refl, sym, ap, ◌∙◌, Bool, true, false, ℕ, zero, suc, ◌+◌, ◌<◌, ◌≤◌, append_assoc, cond, length, length-append, take, List, [], ◌∷◌, ◌++◌, arith}
use Rattle.std.specs.Prelude.{not, slice_get}
use Rattle.std.specs.List.{list_all}
use Rattle.std.proofs.lemmas.Bool.{and_parts, and_from, not-true}
use Rattle.std.proofs.lemmas.List.{length_push, take-append-le}
use Rattle.svc_values.specs.meaning.Endings.{ends_transaction}
use Rattle.outage_schedule.specs.declared.request.ShownCall.{ShownCall}
use Rattle.run_clauses.specs.meaning.Transactions.{put_first, txns}
use Rattle.invariant_laws.specs.Once.{shows_at}
use Rattle.invariant_laws.specs.Same.{begins_at, behind_ends}

abbrev pub ends_one : ShownCall → Bool
ends_one call = ends_transaction call.answers

-- none of them ended a transaction
abbrev pub all_go_on : List ShownCall → Bool
all_go_on calls = list_all (λ call. not (ends_one call)) calls

-- the first part, and what is behind it
pub data Cut (calls : List ShownCall) : Type 0 where
  LastPart : all_go_on calls ≡ true → txns calls ≡ calls ∷ [] → Cut calls
  EndedPart : (part : List ShownCall) (call : ShownCall) (later : List ShownCall) → calls ≡ part ++ call ∷ later → all_go_on part ≡ true → ends_one call ≡ true → txns calls ≡ (part ++ call ∷ []) ∷ txns later → Cut calls

pub cut : (calls : List ShownCall) → Cut calls
cut [] = LastPart refl refl
cut (call ∷ calls) = by (ends_one call) refl (cut calls)
  where
    by : (ends : Bool) → ends_one call ≡ ends → Cut calls → Cut (call ∷ calls)
    by true is rest = EndedPart [] call calls refl refl is (ap (λ (ends : Bool). put_first ends call (txns calls)) is)
    by false is (LastPart go parts) =
        LastPart (and_from (not (ends_one call)) (all_go_on calls) (ap not is) go) (ap (λ (ends : Bool). put_first ends call (txns calls)) is ∙ ap (put_first false call) parts)
    by false is (EndedPart part one later same go ends parts) =
        EndedPart (call ∷ part) one later (ap (λ (xs : List ShownCall). call ∷ xs) same) (and_from (not (ends_one call)) (all_go_on part) (ap not is) go) ends
        (ap (λ (b : Bool). put_first b call (txns calls)) is ∙ ap (put_first false call) parts)

-- WHERE A TRANSACTION BEGINS ----------------------------------------------------------------------

goes_on : (found index : ℕ) (xs : List ShownCall) → all_go_on xs ≡ true → behind_ends found index xs ≡ found
goes_on found index [] all = refl
goes_on found index (x ∷ xs) all =
    let parts = and_parts (not (ends_one x)) (all_go_on xs) all in
    ap (λ (ends : Bool). behind_ends (cond ends (index + 1) found) (index + 1) xs) (not-true (ends_one x) parts.0) ∙ goes_on found (index + 1) xs parts.1

ends_there : (found index : ℕ) (part : List ShownCall) (call : ShownCall) (xs : List ShownCall) → all_go_on part ≡ true → ends_one call ≡ true
    → behind_ends found index (part ++ call ∷ xs) ≡ behind_ends (index + length part + 1) (index + length part + 1) xs
ends_there found index [] call xs go ends =
    let same : index + 1 ≡ index + 0 + 1 = omega arith in
    ap (λ (b : Bool). behind_ends (cond b (index + 1) found) (index + 1) xs) ends ∙ ap (λ (n : ℕ). behind_ends n n xs) same
ends_there found index (x ∷ part) call xs go ends =
    let parts = and_parts (not (ends_one x)) (all_go_on part) go in
    let same : (index + 1) + length part + 1 ≡ index + length (x ∷ part) + 1 = omega arith in
    ap (λ (b : Bool). behind_ends (cond b (index + 1) found) (index + 1) (part ++ call ∷ xs)) (not-true (ends_one x) parts.0)
    ∙ (ends_there found (index + 1) part call xs parts.1 ends ∙ ap (λ (n : ℕ). behind_ends n n xs) same)

-- a transaction begins behind these calls
abbrev pub Begins : List ShownCall → Type 0
Begins before = (xs : List ShownCall) → behind_ends 0 0 (before ++ xs) ≡ behind_ends (length before) (length before) xs

pub begins_next : (before part : List ShownCall) (call : ShownCall) → Begins before → all_go_on part ≡ true → ends_one call ≡ true → Begins (before ++ (part ++ call ∷ []))
begins_next before part call begins go ends xs =
    ap (behind_ends 0 0) (append_assoc before (part ++ call ∷ []) xs ∙ ap (λ (rest : List ShownCall). before ++ rest) (append_assoc part (call ∷ []) xs))
    ∙ (begins (part ++ call ∷ xs) ∙ (ends_there (length before) (length before) part call xs go ends ∙ ap (λ (n : ℕ). behind_ends n n xs) long))
  where
    long : length before + length part + 1 ≡ length (before ++ (part ++ call ∷ []))
    long = omega (arith, length-append before (part ++ call ∷ []), length_push part call)

take_behind : (before rest : List ShownCall) (k : ℕ) → take (length before + k) (before ++ rest) ≡ before ++ take k rest
take_behind [] rest k = let same : 0 + k ≡ k = omega arith in ap (λ (n : ℕ). take n rest) same
take_behind (x ∷ before) rest k =
    let same : length (x ∷ before) + k ≡ suc (length before + k) = omega arith in ap (λ (n : ℕ). take n (x ∷ (before ++ rest))) same ∙ ap (λ (xs : List ShownCall). x ∷ xs) (take_behind before rest k)

take_goes : (k : ℕ) (xs : List ShownCall) → all_go_on xs ≡ true → all_go_on (take k xs) ≡ true
take_goes zero xs all = refl
take_goes (suc k) [] all = refl
take_goes (suc k) (x ∷ xs) all = let parts = and_parts (not (ends_one x)) (all_go_on xs) all in and_from (not (ends_one x)) (all_go_on (take k xs)) parts.0 (take_goes k xs parts.1)

-- so do those of the calls of a part, and of the next call of the last one
pub begins_in : (before part later : List ShownCall) (k : ℕ) → Begins before → all_go_on part ≡ true → k ≤ length part → begins_at (before ++ (part ++ later)) (length before + k) ≡ length before
begins_in before part later k begins go most =
    ap (behind_ends 0 0) (take_behind before (part ++ later) k)
    ∙ (begins (take k (part ++ later)) ∙ (ap (behind_ends (length before) (length before)) (take-append-le k part later most) ∙ goes_on (length before) (length before) (take k part) (take_goes k part go)))

-- WHICH CALL ENDS ONE -----------------------------------------------------------------------------

pub got_behind : (before rest : List ShownCall) (k : ℕ) → slice_get (before ++ rest) (length before + k) ≡ slice_get rest k
got_behind [] rest k = let same : 0 + k ≡ k = omega arith in ap (slice_get rest) same
got_behind (x ∷ before) rest k = let same : length (x ∷ before) + k ≡ suc (length before + k) = omega arith in ap (slice_get (x ∷ (before ++ rest))) same ∙ got_behind before rest k

clash : {A : Type 0} (call : ShownCall) → not (ends_one call) ≡ true → ends_one call ≡ true → A
clash call go ends = absurd (let never : false ≡ true = sym (not-true (ends_one call) go) ∙ ends in let none : ⊥ = cc in none)

pub end_place : (part : List ShownCall) (call : ShownCall) (later : List ShownCall) (k : ℕ) → all_go_on part ≡ true → k < length part + 1 → shows_at ends_transaction (part ++ call ∷ later) k ≡ true → k ≡ length part
end_place [] call later k go less shows = omega (arith, less)
end_place (x ∷ part) call later zero go less shows = clash x (and_parts (not (ends_one x)) (all_go_on part) go).0 shows
end_place (x ∷ part) call later (suc k) go less shows =
    let below : k < length part + 1 = omega (arith, less) in ap suc (end_place part call later k (and_parts (not (ends_one x)) (all_go_on part) go).1 below shows)

pub never_ends : {A : Type 0} (part : List ShownCall) (k : ℕ) → all_go_on part ≡ true → shows_at ends_transaction part k ≡ true → A
never_ends [] k go shows = absurd (let none : ⊥ = cc in none)
never_ends (x ∷ part) zero go shows = clash x (and_parts (not (ends_one x)) (all_go_on part) go).0 shows
never_ends (x ∷ part) (suc k) go shows = never_ends part k (and_parts (not (ends_one x)) (all_go_on part) go).1 shows
