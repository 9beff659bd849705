-- Each request that is over leaves its client fewer of them.
use Rattle.std.proofs.Common.{◌≡◌, refl, ap, Bool, true, false, ℕ, ◌+◌, ◌-◌, ◌≤◌, ◌<◌, ◌&&◌, length, length-append, List, [], ◌∷◌, ◌++◌, Option, Some, None, if◌then◌else◌, arith}
use Rattle.std.specs.Prelude.{not, nat_lt, position, slice_get, option_and_then}
use Rattle.std.specs.List.{list_any}
use Rattle.std.proofs.lemmas.Bool.{and_parts}
use Rattle.std.proofs.lemmas.Bool.Decides.{nat_tests}
use Rattle.outage_schedule.specs.declared.document.Request.{Request}
use Rattle.outage_schedule.specs.declared.request.RequestReport.{RequestReport}
use Rattle.run_clauses.specs.meaning.Copies.{Copies, may_be_repeated, is_last_uncommitted, is_repeated, with_copy, further_copies, copies_of, are_all_copies, is_over, next_of}
use Rattle.world_model.specs.Remaining.{copies_left, all_left}
use Rattle.world_model.proofs.events.Tests.{or_second}
use Rattle.world_model.proofs.finish.FirstBehind.{position_any}

-- FURTHER COPIES ----------------------------------------------------------------------------------

-- what one report more does to the copies of a request
pub data OneMore (allowed : ℕ) (copy : RequestReport) (mine rest : List RequestReport) (report : RequestReport) : List RequestReport × List RequestReport → Type 0 where
  -- it is a further copy, since the request was not over
  IsMine : are_all_copies allowed (copy ∷ mine) ≡ false → length mine < allowed → rest ≡ [] → OneMore allowed copy mine rest report (mine ++ report ∷ [], [])
  -- it is of a later request, since the request was over
  IsLater : are_all_copies allowed (copy ∷ mine) ≡ true → OneMore allowed copy mine rest report (mine, rest ++ report ∷ [])

repeated_some : (allowed : ℕ) (copy : RequestReport) → is_repeated allowed copy ≡ true → 0 < allowed
repeated_some allowed copy is =
    let some : nat_lt 0 allowed ≡ true = (and_parts (nat_lt 0 allowed) (may_be_repeated copy.failed && is_last_uncommitted copy.outcomes) is).0 in
    grind (arith, nat_tests)

pub one_more : (allowed : ℕ) (copy : RequestReport) (reports : List RequestReport) (report : RequestReport)
    → OneMore allowed copy (further_copies allowed copy reports).0 (further_copies allowed copy reports).1 report (further_copies allowed copy (reports ++ report ∷ []))
one_more allowed copy [] report = by (is_repeated allowed copy) refl
  where
    by : (again : Bool) → is_repeated allowed copy ≡ again → OneMore allowed copy [] [] report (with_copy again report [] ([], []))
    by true is = IsMine (ap not is) (repeated_some allowed copy is) refl
    by false is = IsLater (ap not is)
one_more allowed copy (first ∷ reports) report = by (is_repeated allowed copy) refl (one_more (allowed - 1) first reports report)
  where
    mine : List RequestReport
    mine = (further_copies (allowed - 1) first reports).0

    rest : List RequestReport
    rest = (further_copies (allowed - 1) first reports).1

    behind : (more : List RequestReport × List RequestReport) → is_repeated allowed copy ≡ true → OneMore (allowed - 1) first mine rest report more
        → OneMore allowed copy (first ∷ mine) rest report (with_copy true first (reports ++ report ∷ []) more)
    behind _ is (IsMine opens few none) =
        let some : 0 < allowed = repeated_some allowed copy is in
        IsMine opens (omega arith) none
    behind _ is (IsLater closed) = IsLater closed

    by : (again : Bool) → is_repeated allowed copy ≡ again → OneMore (allowed - 1) first mine rest report (further_copies (allowed - 1) first (reports ++ report ∷ []))
        → OneMore allowed copy (with_copy again first reports (mine, rest)).0 (with_copy again first reports (mine, rest)).1 report (with_copy again first (reports ++ report ∷ []) (further_copies (allowed - 1) first (reports ++ report ∷ [])))
    by true is more = behind (further_copies (allowed - 1) first (reports ++ report ∷ [])) is more
    by false is more = IsLater (ap not is)

-- SCRIPTS -----------------------------------------------------------------------------------------

left_if : (over : Bool) (allowed count : ℕ) → over ≡ false → (if over then 0 else allowed + 1 - count) ≡ allowed + 1 - count
left_if true allowed count is = absurd (let none : ⊥ = cc in none)
left_if false allowed count is = refl

left_over_none : (over : Bool) (allowed count : ℕ) → over ≡ true → (if over then 0 else allowed + 1 - count) ≡ 0
left_over_none true allowed count is = refl
left_over_none false allowed count is = absurd (let none : ⊥ = cc in none)

left_most : (over : Bool) (allowed count : ℕ) → (if over then 0 else allowed + 1 - count) ≤ allowed + 1 - count
left_most true allowed count = omega arith
left_most false allowed count = omega arith

abbrev pub is_left : Copies → Bool
is_left copies = not (is_over copies)

pub fewer_left : (script : List Request) (reports : List RequestReport) (report : RequestReport) → list_any is_left (copies_of script reports) ≡ true
    → all_left (copies_of script (reports ++ report ∷ [])) + 1 ≤ all_left (copies_of script reports)
fewer_left [] reports report any = absurd (let none : ⊥ = cc in none)
fewer_left (request ∷ requests) [] report any =
    let most : copies_left (record { request = request; reports = report ∷ [] }) ≤ request.again + 1 - length (report ∷ []) = left_most (are_all_copies request.again (report ∷ [])) request.again (length (report ∷ [])) in
    omega arith
fewer_left (request ∷ requests) (first ∷ reports) report any =
    by (further_copies request.again first (reports ++ report ∷ [])) (λ left. fewer_left requests (further_copies request.again first reports).1 report left) (one_more request.again first reports report)
  where
    mine : List RequestReport
    mine = (further_copies request.again first reports).0

    rest : List RequestReport
    rest = (further_copies request.again first reports).1

    rest_any : is_over (record { request = request; reports = first ∷ mine }) ≡ true → list_any is_left (copies_of requests rest) ≡ true
    rest_any closed = or_second (is_left (record { request = request; reports = first ∷ mine })) (list_any is_left (copies_of requests rest)) (ap not closed) any

    by : (more : List RequestReport × List RequestReport) → (list_any is_left (copies_of requests rest) ≡ true → all_left (copies_of requests (rest ++ report ∷ [])) + 1 ≤ all_left (copies_of requests rest))
        → OneMore request.again first mine rest report more → all_left (record { request = request; reports = first ∷ more.0 } ∷ copies_of requests more.1) + 1 ≤ all_left (record { request = request; reports = first ∷ mine } ∷ copies_of requests rest)
    by _ later (IsMine opens few none) =
        let most : copies_left (record { request = request; reports = first ∷ (mine ++ report ∷ []) }) ≤ request.again + 1 - length (first ∷ (mine ++ report ∷ [])) =
        left_most (are_all_copies request.again (first ∷ (mine ++ report ∷ []))) request.again (length (first ∷ (mine ++ report ∷ []))) in
        let long : length (mine ++ report ∷ []) ≡ length mine + length (report ∷ []) = length-append mine (report ∷ []) in
        let old : copies_left (record { request = request; reports = first ∷ mine }) ≡ request.again + 1 - length (first ∷ mine) = left_if (are_all_copies request.again (first ∷ mine)) request.again (length (first ∷ mine)) opens in
        let others : all_left (copies_of requests rest) ≡ all_left (copies_of requests []) = ap (λ (left : List RequestReport). all_left (copies_of requests left)) none in
        omega arith
    by _ later (IsLater closed) =
        let old : copies_left (record { request = request; reports = first ∷ mine }) ≡ 0 = left_over_none (are_all_copies request.again (first ∷ mine)) request.again (length (first ∷ mine)) closed in
        let others : all_left (copies_of requests (rest ++ report ∷ [])) + 1 ≤ all_left (copies_of requests rest) = later (rest_any closed) in
        omega arith

-- the request that follows is one that is left
pub next_left : (script : List Request) (reports : List RequestReport) (request : Request) → next_of script reports ≡ Some request → list_any is_left (copies_of script reports) ≡ true
next_left script reports request is = by (position is_left (copies_of script reports)) refl is
  where
    by : (found : Option ℕ) → position is_left (copies_of script reports) ≡ found → option_and_then (slice_get script) found ≡ Some request → list_any is_left (copies_of script reports) ≡ true
    by None at is = absurd (let none : ⊥ = cc in none)
    by (Some place) at is = position_any is_left (copies_of script reports) place at
