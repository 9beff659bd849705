-- The submissions of a client are its requests that are over, in order, each with its report.
use Rattle.std.proofs.Common.{◌≡◌, refl, sym, ap, ◌∙◌, append-nil, append_assoc, Bool, true, false, ℕ, suc, ◌+◌, ◌-◌, List, [], ◌∷◌, ◌++◌, map, Option, Some, None, arith}
use Rattle.std.specs.Prelude.{not, position, slice_get, option_and_then, flat_map}
use Rattle.std.proofs.lemmas.List.{map-append}
use Rattle.outage_schedule.specs.declared.document.Request.{Request}
use Rattle.outage_schedule.specs.declared.request.RequestReport.{RequestReport}
use Rattle.run_clauses.specs.meaning.Copies.{Copies, is_repeated, with_copy, further_copies, copies_of, are_all_copies, is_over, next_of}
use Rattle.shown_clauses.specs.meaning.Submissions.{Submission, submissions_of}
use Rattle.world_model.specs.meaning.Clients.{Past, reports_of}
use Rattle.world_model.proofs.Offered.{counted, position_cons}
use Rattle.shown_laws.specs.Submitted.{submission_of}
use Rattle.shown_laws.specs.Tellings.{FollowsFrom}

-- FURTHER COPIES ----------------------------------------------------------------------------------

-- what one report more does to the copies of a request
pub data OneMore (allowed : ℕ) (copy : RequestReport) (mine rest : List RequestReport) (report : RequestReport) : List RequestReport × List RequestReport → Type 0 where
  -- it is a further copy, since the request was not over
  IsMine : are_all_copies allowed (copy ∷ mine) ≡ false → rest ≡ [] → OneMore allowed copy mine rest report (mine ++ report ∷ [], [])
  -- it is of a later request, since the request was over
  IsLater : are_all_copies allowed (copy ∷ mine) ≡ true → OneMore allowed copy mine rest report (mine, rest ++ report ∷ [])

pub one_more : (allowed : ℕ) (copy : RequestReport) (reports : List RequestReport) (report : RequestReport)
    → OneMore allowed copy (further_copies allowed copy reports).0 (further_copies allowed copy reports).1 report (further_copies allowed copy (reports ++ report ∷ []))
one_more allowed copy [] report = by (is_repeated allowed copy) refl
  where
    by : (again : Bool) → is_repeated allowed copy ≡ again → OneMore allowed copy [] [] report (with_copy again report [] ([], []))
    by true is = IsMine (ap not is) refl
    by false is = IsLater (ap not is)
one_more allowed copy (first ∷ reports) report = by (is_repeated allowed copy) refl (one_more (allowed - 1) first reports report)
  where
    mine : List RequestReport
    mine = (further_copies (allowed - 1) first reports).0

    rest : List RequestReport
    rest = (further_copies (allowed - 1) first reports).1

    behind : (more : List RequestReport × List RequestReport) → OneMore (allowed - 1) first mine rest report more → OneMore allowed copy (first ∷ mine) rest report (with_copy true first (reports ++ report ∷ []) more)
    behind _ (IsMine opens none) = IsMine opens none
    behind _ (IsLater closed) = IsLater closed

    by : (again : Bool) → is_repeated allowed copy ≡ again → OneMore (allowed - 1) first mine rest report (further_copies (allowed - 1) first (reports ++ report ∷ []))
        → OneMore allowed copy (with_copy again first reports (mine, rest)).0 (with_copy again first reports (mine, rest)).1 report (with_copy again first (reports ++ report ∷ []) (further_copies (allowed - 1) first (reports ++ report ∷ [])))
    by true is more = behind (further_copies (allowed - 1) first (reports ++ report ∷ [])) more
    by false is more = IsLater (ap not is)

-- WHICH REQUEST FOLLOWS ---------------------------------------------------------------------------

abbrev pub is_left : Copies → Bool
is_left copies = not (is_over copies)

module _ (script : List Request) (request : Request) (first : Copies) (others : List Copies) where
  -- the request at the place that is found
  abbrev placed : Option ℕ → Option Request
  placed found = option_and_then (slice_get (request ∷ script)) found

  -- it is the first one, where that is not over
  pub first_follows : is_over first ≡ false → placed (position is_left (first ∷ others)) ≡ Some request
  first_follows opens = ap placed (position_cons is_left first others true (ap not opens))

  -- and else it is one behind it
  pub later_follows : is_over first ≡ true → placed (position is_left (first ∷ others)) ≡ option_and_then (slice_get script) (position is_left others)
  later_follows closed = ap placed (position_cons is_left first others false (ap not closed)) ∙ by (position is_left others)
    where
      by : (found : Option ℕ) → placed (counted found) ≡ option_and_then (slice_get script) found
      by None = refl
      by (Some place) = let next : place + 1 ≡ suc place = omega arith in ap (slice_get (request ∷ script)) next

-- SUBMISSIONS -------------------------------------------------------------------------------------

abbrev pub submissions_in : List Request → List RequestReport → List Submission
submissions_in script reports = flat_map submissions_of (copies_of script reports)

none_submitted : (script : List Request) → submissions_in script [] ≡ []
none_submitted [] = refl
none_submitted (request ∷ requests) = none_submitted requests

-- one more of the copies of a request, where no submission stands behind them
copy_more : (other request : Request) (first : RequestReport) (mine : List RequestReport) (report : RequestReport) (behind left : List Submission) → other ≡ request → behind ≡ [] → left ≡ []
    → submissions_of (record { request = other; reports = first ∷ (mine ++ report ∷ []) }) ++ behind ≡ (submissions_of (record { request = other; reports = first ∷ mine }) ++ left) ++ record { request = request; copy = report } ∷ []
copy_more other request first mine report behind left same none gone = whole ∙ (more ∙ its)
  where
    whole : submissions_of (record { request = other; reports = first ∷ (mine ++ report ∷ []) }) ++ behind ≡ submissions_of (record { request = other; reports = first ∷ (mine ++ report ∷ []) })
    whole = ap (λ (all : List Submission). submissions_of (record { request = other; reports = first ∷ (mine ++ report ∷ []) }) ++ all) none ∙ append-nil (submissions_of (record { request = other; reports = first ∷ (mine ++ report ∷ []) }))

    more : submissions_of (record { request = other; reports = first ∷ (mine ++ report ∷ []) }) ≡ submissions_of (record { request = other; reports = first ∷ mine }) ++ record { request = other; copy = report } ∷ []
    more = map-append (λ (copy : RequestReport). record { request = other; copy = copy }) (first ∷ mine) (report ∷ [])

    its : submissions_of (record { request = other; reports = first ∷ mine }) ++ record { request = other; copy = report } ∷ []
        ≡ (submissions_of (record { request = other; reports = first ∷ mine }) ++ left) ++ record { request = request; copy = report } ∷ []
    its =
        ap (λ (r : Request). submissions_of (record { request = other; reports = first ∷ mine }) ++ record { request = r; copy = report } ∷ []) same
        ∙ ap (λ (all : List Submission). all ++ record { request = request; copy = report } ∷ [])
        (sym (ap (λ (all : List Submission). submissions_of (record { request = other; reports = first ∷ mine }) ++ all) gone ∙ append-nil (submissions_of (record { request = other; reports = first ∷ mine }))))

-- One report more is that of the request that follows.
submissions_more : (script : List Request) (reports : List RequestReport) (request : Request) (report : RequestReport) → next_of script reports ≡ Some request
    → submissions_in script (reports ++ report ∷ []) ≡ submissions_in script reports ++ record { request = request; copy = report } ∷ []
submissions_more [] reports request report follows = absurd (let none : ⊥ = cc in none)
submissions_more (other ∷ requests) [] request report follows =
    let both : Some other ≡ Some request = sym (first_follows requests other (record { request = other; reports = [] }) (copies_of requests []) refl) ∙ follows in
    let same : other ≡ request = cc in
    ap (λ (rest : List Submission). record { request = other; copy = report } ∷ rest) (none_submitted requests)
    ∙ (ap (λ (r : Request). record { request = r; copy = report } ∷ []) same
    ∙ ap (λ (rest : List Submission). rest ++ record { request = request; copy = report } ∷ []) (sym (none_submitted requests)))
submissions_more (other ∷ requests) (first ∷ reports) request report follows =
    by (further_copies other.again first (reports ++ report ∷ [])) (λ next. submissions_more requests (further_copies other.again first reports).1 request report next) (one_more other.again first reports report)
  where
    mine : List RequestReport
    mine = (further_copies other.again first reports).0

    rest : List RequestReport
    rest = (further_copies other.again first reports).1

    own : Copies
    own = record { request = other; reports = first ∷ mine }

    last : List Submission
    last = record { request = request; copy = report } ∷ []

    by : (more : List RequestReport × List RequestReport) → (next_of requests rest ≡ Some request → submissions_in requests (rest ++ report ∷ []) ≡ submissions_in requests rest ++ last) → OneMore other.again first mine rest report more
        → submissions_of (record { request = other; reports = first ∷ more.0 }) ++ submissions_in requests more.1 ≡ (submissions_of own ++ submissions_in requests rest) ++ last
    by _ later (IsMine opens none) =
        let both : Some other ≡ Some request = sym (first_follows requests other own (copies_of requests rest) opens) ∙ follows in
        let same : other ≡ request = cc in
        let left : submissions_in requests rest ≡ [] = ap (submissions_in requests) none ∙ none_submitted requests in
        copy_more other request first mine report (submissions_in requests []) (submissions_in requests rest) same (none_submitted requests) left
    by _ later (IsLater closed) =
        ap (λ (all : List Submission). submissions_of own ++ all) (later (sym (later_follows requests other own (copies_of requests rest) closed) ∙ follows))
        ∙ sym (append_assoc (submissions_of own) (submissions_in requests rest) last)

past_from : (script : List Request) (before : List RequestReport) (past : List Past) → FollowsFrom script before past → submissions_in script (before ++ reports_of past) ≡ submissions_in script before ++ map submission_of past
past_from script before [] follows = ap (submissions_in script) (append-nil before) ∙ sym (append-nil (submissions_in script before))
past_from script before (one ∷ past) follows =
    ap (submissions_in script) (sym (append_assoc before (one.report ∷ []) (reports_of past)))
    ∙ (past_from script (before ++ one.report ∷ []) past follows.1
    ∙ (ap (λ (all : List Submission). all ++ map submission_of past) (submissions_more script before one.request one.report follows.0)
    ∙ append_assoc (submissions_in script before) (submission_of one ∷ []) (map submission_of past)))

-- The reports of a client that follows its script are those of its requests, each one's its own.
pub past_submitted : (script : List Request) (past : List Past) → FollowsFrom script [] past → submissions_in script (reports_of past) ≡ map submission_of past
past_submitted script past follows = past_from script [] past follows ∙ ap (λ (all : List Submission). all ++ map submission_of past) (none_submitted script)
