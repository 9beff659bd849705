-- The request that is kept as the next one is the one that the script and the reports tell.
use Rattle.std.proofs.Common.{◌≡◌, ℕ, zero, suc, ◌+◌, ◌-◌, Bool, true, false, not, List, [], ◌∷◌, ◌++◌, Option, Some, None, length, drop, fold, refl, sym, ap, ◌∙◌, arith, add-one}
use Rattle.std.specs.Prelude.{slice_get, nat_lt, position, option_and_then, option_map, if◌then◌else◌, cond}
use Rattle.std.specs.List.{last_or, position_or_len}
use Rattle.std.specs.Option.{option_map_or}
use Rattle.std.proofs.lemmas.Bool.{ltb-true, ltb-false, lt-ltb, le-ltb}
use Rattle.std.proofs.lemmas.List.{drop_all}
use Rattle.std.proofs.lemmas.List.Sums.{fold_push}
use Rattle.outage_schedule.specs.declared.document.Request.{Request}
use Rattle.outage_schedule.specs.declared.request.RequestReport.{RequestReport}
use Rattle.run_clauses.specs.meaning.Copies.{is_repeated, with_copy, further_copies, copies_of, are_all_copies, is_over, next_place, next_of}
use Rattle.transcript_core.specs.declared.next_request.NextRequest.{NextRequest}
use Rattle.transcript_core.specs.Following.{at_place, place_behind, follows, IsNext}

-- LISTS -------------------------------------------------------------------------------------------

last_at_end : {A : Type 0} (a : A) (items : List A) (before : Option A) → slice_get (a ∷ items) (length items) ≡ last_or before (a ∷ items)
last_at_end a [] before = refl
last_at_end a (b ∷ items) before = last_at_end b items (Some a)

-- the last one stands at the last place
pub last_at : {A : Type 0} (items : List A) → slice_get items (length items - 1) ≡ last_or None items
last_at [] = refl
last_at (a ∷ items) = let here : suc (length items) - 1 ≡ length items = omega arith in ap (λ i. slice_get (a ∷ items) i) here ∙ last_at_end a items None

get_drop : {A : Type 0} (items : List A) (place : ℕ) → slice_get items place ≡ slice_get (drop place items) 0
get_drop [] zero = refl
get_drop [] (suc place) = refl
get_drop (a ∷ items) zero = refl
get_drop (a ∷ items) (suc place) = get_drop items place

drop_next : {A : Type 0} (items : List A) (place : ℕ) → drop (suc place) items ≡ drop 1 (drop place items)
drop_next [] zero = refl
drop_next [] (suc place) = refl
drop_next (a ∷ items) zero = refl
drop_next (a ∷ items) (suc place) = drop_next items place

position_next : {A : Type 0} (test : A → Bool) (a : A) (items : List A) → test a ≡ false → position test (a ∷ items) ≡ option_map suc (position test items)
position_next test a items fails = rw (fails, one-add (position_or_len test items)) (behind (position_or_len test items) (length items) (nat_lt (position_or_len test items) (length items)) refl)
  where
    one-add : (n : ℕ) → 1 + n ≡ suc n
    one-add n = omega arith

    behind : (at many : ℕ) (b : Bool) → nat_lt at many ≡ b → cond (nat_lt (suc at) (suc many)) (Some (suc at)) None ≡ option_map suc (cond b (Some at) None)
    behind at many true e = rw (lt-ltb (suc at) (suc many) (omega (arith, ltb-true at many e))) refl
    behind at many false e = rw (le-ltb (suc at) (suc many) (omega (arith, ltb-false at many e))) refl

position_here : {A : Type 0} (test : A → Bool) (a : A) (items : List A) → test a ≡ true → position test (a ∷ items) ≡ Some 0
position_here test a items passes = rw (passes, lt-ltb 0 (suc (length items)) (omega arith)) refl

-- BY WHAT IS LEFT OF THE SCRIPT -------------------------------------------------------------------

-- the requests from the next one on, and the further copies that it has
abbrev Ahead : Type 0
Ahead = List Request × ℕ

abbrev from : List Request → Ahead
from rest = (rest, option_map_or (λ request. request.again) (slice_get rest 0) 0)

abbrev goes : Ahead → RequestReport → Ahead
goes ahead report = if is_repeated ahead.1 report then (ahead.0, ahead.1 - 1) else from (drop 1 ahead.0)

record IsAhead (script : List Request) (next : NextRequest) (ahead : Ahead) : Type 0 where
  rest : drop next.place script ≡ ahead.0
  left : next.left ≡ ahead.1

starts_ahead : (script : List Request) (place : ℕ) (rest : List Request) → drop place script ≡ rest → IsAhead script (at_place script place) (from rest)
starts_ahead script place rest is = record { rest = is; left = ap (λ (found : Option Request). option_map_or (λ request. request.again) found 0) (get_drop script place ∙ ap (λ (r : List Request). slice_get r 0) is) }

behind_drop : (script : List Request) (place : ℕ) (b : Bool) → nat_lt place (length script) ≡ b → drop (if b then place + 1 else place) script ≡ drop 1 (drop place script)
behind_drop script place true within = ap (λ (k : ℕ). drop k script) (add-one place) ∙ drop_next script place
behind_drop script place false beyond = let none : drop place script ≡ [] = drop_all place script (ltb-false place (length script) beyond) in none ∙ sym (ap (λ (r : List Request). drop 1 r) none)

goes_ahead : (script : List Request) (next : NextRequest) (ahead : Ahead) (report : RequestReport) → IsAhead script next ahead → IsAhead script (follows script next report) (goes ahead report)
goes_ahead script next ahead report is = by (is_repeated next.left report) (is_repeated ahead.1 report) refl (ap (λ (n : ℕ). is_repeated n report) is.left)
  where
    by : (a b : Bool) → is_repeated ahead.1 report ≡ b → a ≡ is_repeated ahead.1 report
        → IsAhead script (if a then record next { left = next.left - 1 } else at_place script (place_behind script next.place)) (if b then (ahead.0, ahead.1 - 1) else from (drop 1 ahead.0))
    by true true e f = record { rest = is.rest; left = ap (λ (n : ℕ). n - 1) is.left }
    by false false e f = starts_ahead script (place_behind script next.place) (drop 1 ahead.0) (behind_drop script next.place (nat_lt next.place (length script)) refl ∙ ap (λ (r : List Request). drop 1 r) is.rest)
    by true false e f = absurd (let none : ⊥ = cc in none)
    by false true e f = absurd (let none : ⊥ = cc in none)

all_ahead : (script : List Request) (next : NextRequest) (ahead : Ahead) (reports : List RequestReport) → IsAhead script next ahead → IsAhead script (fold (follows script) next reports) (fold goes ahead reports)
all_ahead script next ahead [] is = is
all_ahead script next ahead (report ∷ reports) is = all_ahead script (follows script next report) (goes ahead report) reports (goes_ahead script next ahead report is)

-- THE COPIES --------------------------------------------------------------------------------------

abbrev first_of : Ahead → Option Request
first_of ahead = slice_get ahead.0 0

none_ahead : (allowed : ℕ) (reports : List RequestReport) → allowed ≡ 0 → first_of (fold goes ([], allowed) reports) ≡ None
none_ahead allowed [] e = refl
none_ahead allowed (report ∷ reports) e = rw e (none_ahead 0 reports refl)

-- the request, of which a copy was reported so where so many more were allowed, is next again or
-- those behind it go on
abbrev Copied : Request → List Request → ℕ → RequestReport → List RequestReport → Type 0
Copied request requests allowed copy reports =
    first_of (fold goes (goes (request ∷ requests, allowed) copy) reports)
    ≡ (if are_all_copies allowed (copy ∷ (further_copies allowed copy reports).0) then first_of (fold goes (from requests) (further_copies allowed copy reports).1) else Some request)

copied : (request : Request) (requests : List Request) (allowed : ℕ) (copy : RequestReport) (reports : List RequestReport) → Copied request requests allowed copy reports
copied request requests allowed copy [] = by (is_repeated allowed copy)
  where
    by : (b : Bool) → first_of (if b then (request ∷ requests, allowed - 1) else from requests) ≡ (if not b then first_of (from requests) else Some request)
    by true = refl
    by false = refl
copied request requests allowed copy (report ∷ reports) = by (is_repeated allowed copy) refl (copied request requests (allowed - 1) report reports)
  where
    by : (b : Bool) → is_repeated allowed copy ≡ b → Copied request requests (allowed - 1) report reports
        → first_of (fold goes (goes (if b then (request ∷ requests, allowed - 1) else from requests) report) reports)
        ≡ (if are_all_copies allowed (copy ∷ (with_copy b report reports (further_copies (allowed - 1) report reports)).0) then first_of (fold goes (from requests) (with_copy b report reports (further_copies (allowed - 1) report reports)).1) else Some request)
    by true e later = later
    by false e later = rw e refl

next_ahead : (script : List Request) (reports : List RequestReport) → first_of (fold goes (from script) reports) ≡ next_of script reports
next_ahead [] reports = none_ahead 0 reports refl
next_ahead (request ∷ requests) [] =
    sym (ap (option_and_then (slice_get (request ∷ requests))) (position_here (λ copies. not (is_over copies)) (record { request = request; reports = [] }) (copies_of requests []) refl))
next_ahead (request ∷ requests) (copy ∷ reports) =
    let further = further_copies request.again copy reports in
    copied request requests request.again copy reports
    ∙ by (are_all_copies request.again (copy ∷ further.0)) refl (next_ahead requests further.1)
  where
    behind : (place : Option ℕ) → option_and_then (slice_get (request ∷ requests)) (option_map suc place) ≡ option_and_then (slice_get requests) place
    behind None = refl
    behind (Some at) = refl

    by : (b : Bool) → are_all_copies request.again (copy ∷ (further_copies request.again copy reports).0) ≡ b → first_of (fold goes (from requests) (further_copies request.again copy reports).1) ≡ next_of requests (further_copies request.again copy reports).1
        → (if b then first_of (fold goes (from requests) (further_copies request.again copy reports).1) else Some request) ≡ next_of (request ∷ requests) (copy ∷ reports)
    by true over later =
        let further = further_copies request.again copy reports in
        later
        ∙ sym (
        ap (option_and_then (slice_get (request ∷ requests))) (position_next (λ copies. not (is_over copies)) (record { request = request; reports = copy ∷ further.0 }) (copies_of requests further.1) (ap not over))
        ∙ behind (next_place requests further.1)
        )
    by false more over =
        let further = further_copies request.again copy reports in
        sym (ap (option_and_then (slice_get (request ∷ requests))) (position_here (λ copies. not (is_over copies)) (record { request = request; reports = copy ∷ further.0 }) (copies_of requests further.1) (ap not more)))

pub next_is : (script : List Request) (reports : List RequestReport) (next : NextRequest) → IsNext script reports next → slice_get script next.place ≡ next_of script reports
next_is script reports next is =
    let ahead = all_ahead script (at_place script 0) (from script) reports (starts_ahead script 0 script refl) in
    ap (λ (n : NextRequest). slice_get script n.place) is ∙ get_drop script (fold (follows script) (at_place script 0) reports).place ∙ ap (λ (r : List Request). slice_get r 0) ahead.rest ∙ next_ahead script reports

pub next_followed : (script : List Request) (reports : List RequestReport) (next : NextRequest) (report : RequestReport) → IsNext script reports next → IsNext script (reports ++ report ∷ []) (follows script next report)
next_followed script reports next report is = ap (λ (n : NextRequest). follows script n report) is ∙ sym (fold_push (follows script) (at_place script 0) reports report)
