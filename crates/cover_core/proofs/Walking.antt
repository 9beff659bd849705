-- The submissions of a client, one report after the other.
use Rattle.std.proofs.Common.{◌≡◌, ℕ, zero, suc, ◌+◌, ◌-◌, Bool, true, false, List, [], ◌∷◌, ◌++◌, Option, Some, None, refl, sym, ap, ◌∙◌, append-nil, append_assoc, arith}
use Rattle.std.specs.Prelude.{not, position, slice_get, option_and_then, flat_map}
use Rattle.std.specs.List.{list_all}
use Rattle.std.proofs.lemmas.List.{map-append}
use Rattle.json_form.proofs.Offered.{first_true, second_true}
use Rattle.outage_schedule.specs.declared.document.Request.{Request}
use Rattle.outage_schedule.specs.declared.request.RequestReport.{RequestReport}
use Rattle.run_clauses.specs.meaning.Copies.{Copies, is_repeated, with_copy, further_copies, copies_of, are_all_copies, is_over, next_of}
use Rattle.shown_clauses.specs.meaning.Submissions.{Submission, submissions_of}
use Rattle.world_model.proofs.Offered.{counted, position_cons}

-- FURTHER COPIES ----------------------------------------------------------------------------------

-- no further copy of a request is behind those of one that is over
closed_more : (allowed : ℕ) (copy : RequestReport) (reports more : List RequestReport)
    → are_all_copies allowed (copy ∷ (further_copies allowed copy reports).0) ≡ true
    → further_copies allowed copy (reports ++ more) ≡ ((further_copies allowed copy reports).0, (further_copies allowed copy reports).1 ++ more)
closed_more allowed copy [] [] closed = refl
closed_more allowed copy [] (next ∷ more) closed = by (is_repeated allowed copy) closed
  where
    by : (again : Bool) → not again ≡ true
        → with_copy again next more (further_copies (allowed - 1) next more) ≡ ([], next ∷ more)
    by false is = refl
    by true is = absurd (let none : ⊥ = cc in none)
closed_more allowed copy (first ∷ reports) more closed = by (closed_more (allowed - 1) first reports more) (is_repeated allowed copy) closed
  where
    mine : List RequestReport
    mine = (further_copies (allowed - 1) first reports).0

    rest : List RequestReport
    rest = (further_copies (allowed - 1) first reports).1

    by : (are_all_copies (allowed - 1) (first ∷ mine) ≡ true → further_copies (allowed - 1) first (reports ++ more) ≡ (mine, rest ++ more))
        → (again : Bool) → are_all_copies allowed (copy ∷ (with_copy again first reports (mine, rest)).0) ≡ true
        → with_copy again first (reports ++ more) (further_copies (allowed - 1) first (reports ++ more))
        ≡ ((with_copy again first reports (mine, rest)).0, (with_copy again first reports (mine, rest)).1 ++ more)
    by later true is = ap (λ (all : List RequestReport × List RequestReport). (first ∷ all.0, all.1)) (later is)
    by later false is = refl

-- behind those of one that is not over, the next report is a further copy
record IsCopied (mine rest : List RequestReport) (report : RequestReport) (after : List RequestReport × List RequestReport) : Type 0 where
  none : rest ≡ []
  more : after ≡ (mine ++ report ∷ [], [])

open_more : (allowed : ℕ) (copy : RequestReport) (reports : List RequestReport) (report : RequestReport)
    → are_all_copies allowed (copy ∷ (further_copies allowed copy reports).0) ≡ false
    → IsCopied (further_copies allowed copy reports).0 (further_copies allowed copy reports).1 report (further_copies allowed copy (reports ++ report ∷ []))
open_more allowed copy [] report opens = by (is_repeated allowed copy) opens
  where
    by : (again : Bool) → not again ≡ false
        → IsCopied [] [] report (with_copy again report [] ([], []))
    by true is = record { none = refl; more = refl }
    by false is = absurd (let none : ⊥ = cc in none)
open_more allowed copy (first ∷ reports) report opens = by (open_more (allowed - 1) first reports report) (is_repeated allowed copy) refl opens
  where
    mine : List RequestReport
    mine = (further_copies (allowed - 1) first reports).0

    rest : List RequestReport
    rest = (further_copies (allowed - 1) first reports).1

    by : (are_all_copies (allowed - 1) (first ∷ mine) ≡ false → IsCopied mine rest report (further_copies (allowed - 1) first (reports ++ report ∷ [])))
        → (again : Bool) → is_repeated allowed copy ≡ again → are_all_copies allowed (copy ∷ (with_copy again first reports (mine, rest)).0) ≡ false
        → IsCopied (with_copy again first reports (mine, rest)).0 (with_copy again first reports (mine, rest)).1 report (with_copy again first (reports ++ report ∷ []) (further_copies (allowed - 1) first (reports ++ report ∷ [])))
    by later true again is =
        let copied = later is in
        record { none = copied.none; more = ap (λ (all : List RequestReport × List RequestReport). (first ∷ all.0, all.1)) copied.more }
    by later false again is = absurd (let over : not (is_repeated allowed copy) ≡ true = ap not again in let none : ⊥ = cc in none)

-- WHICH REQUEST FOLLOWS ---------------------------------------------------------------------------

abbrev is_left : Copies → Bool
is_left copies = not (is_over copies)

module _ (script : List Request) (request : Request) (first : Copies) (others : List Copies) where
  -- the request at the place that is found
  abbrev placed : Option ℕ → Option Request
  placed found = option_and_then (slice_get (request ∷ script)) found

  -- it is the first one, where that is not over
  first_follows : is_over first ≡ false → placed (position is_left (first ∷ others)) ≡ Some request
  first_follows opens = ap placed (position_cons is_left first others true (ap not opens))

  -- and else it is one behind it
  later_follows : is_over first ≡ true
      → placed (position is_left (first ∷ others)) ≡ option_and_then (slice_get script) (position is_left others)
  later_follows closed = ap placed (position_cons is_left first others false (ap not closed)) ∙ by (position is_left others)
    where
      by : (found : Option ℕ) → placed (counted found) ≡ option_and_then (slice_get script) found
      by None = refl
      by (Some place) = let next : place + 1 ≡ suc place = omega arith in ap (slice_get (request ∷ script)) next

-- SUBMISSIONS -------------------------------------------------------------------------------------

abbrev pub submissions_in : List Request → List RequestReport → List Submission
submissions_in script reports = flat_map submissions_of (copies_of script reports)

pub none_submitted : (script : List Request) → submissions_in script [] ≡ []
none_submitted [] = refl
none_submitted (request ∷ requests) = none_submitted requests

module _ (request : Request) (requests : List Request) (first : RequestReport) (reports : List RequestReport) where
  abbrev mine : List RequestReport
  mine = (further_copies request.again first reports).0

  abbrev rest : List RequestReport
  rest = (further_copies request.again first reports).1

  abbrev own : Copies
  own = record { request = request; reports = first ∷ mine }

  -- the submissions by the further copies and what is left
  abbrev as_split : List RequestReport × List RequestReport → List Submission
  as_split all = submissions_of (record { request = request; reports = first ∷ all.0 }) ++ submissions_in requests all.1

  -- where the request is over, it is so whatever comes behind
  behind_over : (more : List RequestReport) → is_over own ≡ true
      → submissions_in (request ∷ requests) (first ∷ (reports ++ more)) ≡ submissions_of own ++ submissions_in requests (rest ++ more)
  behind_over more closed = ap as_split (closed_more request.again first reports more closed)

  -- where it is not, the next report is of it
  one_copied : (report : RequestReport) → is_over own ≡ false
      → submissions_in (request ∷ requests) (first ∷ (reports ++ report ∷ [])) ≡ submissions_in (request ∷ requests) (first ∷ reports) ++ record { request = request; copy = report } ∷ []
  one_copied report opens =
      let copied = open_more request.again first reports report opens in
      let last : List Submission = record { request = request; copy = report } ∷ [] in
      ap as_split copied.more
      ∙ (ap (λ (all : List Submission). submissions_of (record { request = request; reports = first ∷ (mine ++ report ∷ []) }) ++ all) (none_submitted requests)
      ∙ (append-nil (submissions_of (record { request = request; reports = first ∷ (mine ++ report ∷ []) }))
      ∙ (map-append (λ (copy : RequestReport). record { request = request; copy = copy }) (first ∷ mine) (report ∷ [])
      ∙ ap (λ (all : List Submission). all ++ last) (sym (ap (λ (all : List Submission). submissions_of own ++ all) (ap (submissions_in requests) copied.none ∙ none_submitted requests) ∙ append-nil (submissions_of own))))))

-- One report more is that of the request that follows.
pub submissions_more : (script : List Request) (reports : List RequestReport) (request : Request) (report : RequestReport)
    → next_of script reports ≡ Some request
    → submissions_in script (reports ++ report ∷ []) ≡ submissions_in script reports ++ record { request = request; copy = report } ∷ []
submissions_more [] reports request report follows = absurd (let none : ⊥ = cc in none)
submissions_more (other ∷ requests) [] request report follows =
    let both : Some other ≡ Some request = sym (first_follows requests other (record { request = other; reports = [] }) (copies_of requests []) refl) ∙ follows in
    let same : other ≡ request = cc in
    ap (λ (rest : List Submission). record { request = other; copy = report } ∷ rest) (none_submitted requests)
    ∙ (ap (λ (r : Request). record { request = r; copy = report } ∷ []) same
    ∙ ap (λ (rest : List Submission). rest ++ record { request = request; copy = report } ∷ []) (sym (none_submitted requests)))
submissions_more (other ∷ requests) (first ∷ reports) request report follows =
    by (submissions_more requests (rest other requests first reports) request report) (is_over (own other requests first reports)) refl
  where
    by : (next_of requests (rest other requests first reports) ≡ Some request
        → submissions_in requests (rest other requests first reports ++ report ∷ []) ≡ submissions_in requests (rest other requests first reports) ++ record { request = request; copy = report } ∷ [])
        → (over : Bool) → is_over (own other requests first reports) ≡ over
        → submissions_in (other ∷ requests) (first ∷ (reports ++ report ∷ [])) ≡ submissions_in (other ∷ requests) (first ∷ reports) ++ record { request = request; copy = report } ∷ []
    by later false opens =
        let both : Some other ≡ Some request = sym (first_follows requests other (own other requests first reports) (copies_of requests (rest other requests first reports)) opens) ∙ follows in
        let same : other ≡ request = cc in
        one_copied other requests first reports report opens
        ∙ ap (λ (r : Request). submissions_in (other ∷ requests) (first ∷ reports) ++ record { request = r; copy = report } ∷ []) same
    by later true closed =
        behind_over other requests first reports (report ∷ []) closed
        ∙ (ap (λ (all : List Submission). submissions_of (own other requests first reports) ++ all)
        (later (sym (later_follows requests other (own other requests first reports) (copies_of requests (rest other requests first reports)) closed) ∙ follows))
        ∙ sym (append_assoc (submissions_of (own other requests first reports)) (submissions_in requests (rest other requests first reports)) (record { request = request; copy = report } ∷ [])))

-- Where no request follows, further reports are of none.
pub submissions_over : (script : List Request) (reports more : List RequestReport)
    → next_of script reports ≡ None
    → submissions_in script (reports ++ more) ≡ submissions_in script reports
submissions_over [] reports more over = refl
submissions_over (other ∷ requests) [] more over =
    let some : Some other ≡ None = sym (first_follows requests other (record { request = other; reports = [] }) (copies_of requests []) refl) ∙ over in
    absurd (let none : ⊥ = cc in none)
submissions_over (other ∷ requests) (first ∷ reports) more over =
    by (submissions_over requests (rest other requests first reports) more) (is_over (own other requests first reports)) refl
  where
    by : (next_of requests (rest other requests first reports) ≡ None → submissions_in requests (rest other requests first reports ++ more) ≡ submissions_in requests (rest other requests first reports))
        → (all : Bool) → is_over (own other requests first reports) ≡ all → submissions_in (other ∷ requests) (first ∷ (reports ++ more)) ≡ submissions_in (other ∷ requests) (first ∷ reports)
    by later false opens =
        let some : Some other ≡ None = sym (first_follows requests other (own other requests first reports) (copies_of requests (rest other requests first reports)) opens) ∙ over in
        absurd (let none : ⊥ = cc in none)
    by later true closed =
        behind_over other requests first reports more closed
        ∙ ap (λ (all : List Submission). submissions_of (own other requests first reports) ++ all)
        (later (sym (later_follows requests other (own other requests first reports) (copies_of requests (rest other requests first reports)) closed) ∙ over))

-- what all items pass, the one at a place passes
pub all_there : {A : Type 0} (test : A → Bool) (items : List A) (place : ℕ) (item : A)
    → slice_get items place ≡ Some item → list_all test items ≡ true → test item ≡ true
all_there test [] place item is all = absurd (let none : ⊥ = cc in none)
all_there test (first ∷ items) zero item is all = let same : first ≡ item = cc in ap test (sym same) ∙ first_true (test first) _ all
all_there test (first ∷ items) (suc place) item is all = all_there test items place item is (second_true (test first) _ all)
