-- The reports that were put one after the other are the copies of the requests.
use Rattle.std.proofs.Common.{◌≡◌, refl, sym, ap, ◌∙◌, append-nil, append_assoc, ℕ, suc, ◌-◌, Bool, true, false, not, eqb, length, List, [], ◌∷◌, ◌++◌, map, fold, Some, None, arith}
use Rattle.std.specs.Prelude.{◌&&◌, ◌==◌, flat_map}
use Rattle.std.specs.List.{list_all}
use Rattle.std.proofs.lemmas.Bool.{ne_eqb}
use Rattle.outage_schedule.specs.declared.document.Request.{Request}
use Rattle.outage_schedule.specs.declared.request.RequestReport.{RequestReport}
use Rattle.run_clauses.specs.meaning.Copies.{is_repeated, with_copy, further_copies, copies_of, left_over, are_all_copies, is_over, is_in_script_order}
use Rattle.shown_clauses.specs.meaning.Fronts.{is_empty}
use Rattle.shown_clauses.specs.meaning.Submissions.{Submission, submissions_of}
use Rattle.report_parts.specs.Submitting.{Last, Submitting, further_if, with_first_of, with_report_of, with_report, submitted, is_none_due, is_complete}

abbrev sub : Request → RequestReport → Submission
sub request copy = record { request = request; copy = copy }

-- behind a copy of a request
abbrev behind : List Request → ℕ → Request → RequestReport → Bool → List Submission → Submitting
behind script allowed request copy over found = record { script = script; last = Some (record { allowed = allowed; request = request; copy = copy }); over = over; found = found }

abbrev nobodys : List Submission → Submitting
nobodys found = record { script = []; last = None; over = true; found = found }

nobodys_stay : (reports : List RequestReport) (found : List Submission) → fold with_report (nobodys found) reports ≡ nobodys found
nobodys_stay [] found = refl
nobodys_stay (report ∷ reports) found = nobodys_stay reports found

none_submitted : (script : List Request) → flat_map submissions_of (copies_of script []) ≡ []
none_submitted [] = refl
none_submitted (request ∷ script) = none_submitted script

-- the further copies, and what the others are of
abbrev rest_of : List Request → Request → List RequestReport × List RequestReport → List Submission
rest_of script request cut = map (sub request) cut.0 ++ flat_map submissions_of (copies_of script cut.1)

abbrev FoundFrom : List RequestReport → Type 0
FoundFrom reports =
    (script : List Request) (allowed : ℕ) (request : Request) (copy : RequestReport) (over : Bool) (found : List Submission)
    → (fold with_report (behind script allowed request copy over found) reports).found ≡ found ++ rest_of script request (further_copies allowed copy reports)

found_more : (report : RequestReport) (reports : List RequestReport) → FoundFrom reports → FoundFrom (report ∷ reports)
found_more report reports rest script allowed request copy over found = by (is_repeated allowed copy) refl
  where
    start : Submitting
    start = behind script allowed request copy over found

    next : (others : List Request) → (fold with_report (with_first_of (behind others allowed request copy over found) report others) reports).found ≡ found ++ flat_map submissions_of (copies_of others (report ∷ reports))
    next [] = ap (λ (put : Submitting). put.found) (nobodys_stay reports found) ∙ sym (append-nil found)
    next (one ∷ others) =
        rest others one.again one report over (found ++ sub one report ∷ [])
        ∙ append_assoc found (sub one report ∷ []) (rest_of others one (further_copies one.again report reports))

    by : (b : Bool) → is_repeated allowed copy ≡ b
        → (fold with_report start (report ∷ reports)).found ≡ found ++ rest_of script request (further_copies allowed copy (report ∷ reports))
    by true is =
        ap (λ c. (fold with_report (with_report_of start report (further_if c (record { allowed = allowed; request = request; copy = copy }))) reports).found) is
        ∙ (rest script (allowed - 1) request report over (found ++ sub request report ∷ [])
        ∙ (append_assoc found (sub request report ∷ []) (rest_of script request (further_copies (allowed - 1) report reports))
        ∙ sym (ap (λ c. found ++ rest_of script request (with_copy c report reports (further_copies (allowed - 1) report reports))) is)))
    by false is =
        ap (λ c. (fold with_report (with_report_of start report (further_if c (record { allowed = allowed; request = request; copy = copy }))) reports).found) is
        ∙ (next script
        ∙ sym (ap (λ c. found ++ rest_of script request (with_copy c report reports (further_copies (allowed - 1) report reports))) is))

found_from : (reports : List RequestReport) → FoundFrom reports
found_from [] script allowed request copy over found = sym (append-nil found) ∙ ap (λ (more : List Submission). found ++ more) (sym (none_submitted script))
found_from (report ∷ reports) script allowed request copy over found = found_more report reports (found_from reports) script allowed request copy over found

pub submitted_all : (script : List Request) (reports : List RequestReport) → (submitted script reports).found ≡ flat_map submissions_of (copies_of script reports)
submitted_all script [] = sym (none_submitted script)
submitted_all [] (report ∷ reports) = ap (λ (put : Submitting). put.found) (nobodys_stay reports [])
submitted_all (request ∷ script) (report ∷ reports) = found_from reports script request.again request report false (sub request report ∷ [])

-- ---- the order of the script

abbrev ordered : List Request → List RequestReport → Bool
ordered script reports = list_all is_over (copies_of script reports) && (length (left_over script reports) == 0)

nobodys_wrong : (reports : List RequestReport) (found : List Submission) → is_complete (fold with_report (nobodys found) reports) ≡ false
nobodys_wrong reports found = ap is_complete (nobodys_stay reports found)

ends : (script : List Request) (b : Bool) (last : Last) → (is_empty script && (is_none_due (further_if b last) && true)) ≡ (not b && ordered script [])
ends [] true last = refl
ends [] false last = refl
ends (request ∷ script) true last = refl
ends (request ∷ script) false last = refl

and_apart : (a b c : Bool) → ((a && b) && c) ≡ (a && (b && c))
and_apart true b c = refl
and_apart false b c = refl

abbrev OrderFrom : List RequestReport → Type 0
OrderFrom reports =
    (script : List Request) (allowed : ℕ) (request : Request) (copy : RequestReport) (found : List Submission)
    → is_complete (fold with_report (behind script allowed request copy false found) reports)
    ≡ (are_all_copies allowed (copy ∷ (further_copies allowed copy reports).0) && ordered script (further_copies allowed copy reports).1)

order_more : (report : RequestReport) (reports : List RequestReport) → OrderFrom reports → OrderFrom (report ∷ reports)
order_more report reports rest script allowed request copy found = by (is_repeated allowed copy) refl
  where
    start : Submitting
    start = behind script allowed request copy false found

    left : (n : ℕ) → eqb (suc n) 0 ≡ false
    left n = ne_eqb (suc n) 0 (λ e. omega (arith, e))

    next : (others : List Request) → is_complete (fold with_report (with_first_of (behind others allowed request copy false found) report others) reports) ≡ ordered others (report ∷ reports)
    next [] = nobodys_wrong reports found ∙ sym (left (length reports))
    next (one ∷ others) =
        rest others one.again one report (found ++ sub one report ∷ [])
        ∙ sym (and_apart (are_all_copies one.again (report ∷ (further_copies one.again report reports).0)) (list_all is_over (copies_of others (further_copies one.again report reports).1)) (length (left_over others (further_copies one.again report reports).1) == 0))

    by : (b : Bool) → is_repeated allowed copy ≡ b
        → is_complete (fold with_report start (report ∷ reports))
        ≡ (are_all_copies allowed (copy ∷ (further_copies allowed copy (report ∷ reports)).0) && ordered script (further_copies allowed copy (report ∷ reports)).1)
    by true is =
        ap (λ c. is_complete (fold with_report (with_report_of start report (further_if c (record { allowed = allowed; request = request; copy = copy }))) reports)) is
        ∙ (rest script (allowed - 1) request report (found ++ sub request report ∷ [])
        ∙ sym (ap (λ c. let cut = with_copy c report reports (further_copies (allowed - 1) report reports) in are_all_copies allowed (copy ∷ cut.0) && ordered script cut.1) is))
    by false is =
        ap (λ c. is_complete (fold with_report (with_report_of start report (further_if c (record { allowed = allowed; request = request; copy = copy }))) reports)) is
        ∙ (next script
        ∙ sym ((ap (λ c. let cut = with_copy c report reports (further_copies (allowed - 1) report reports) in are_all_copies allowed (copy ∷ cut.0) && ordered script cut.1) is)
        ∙ ap (λ c. not c && ordered script (report ∷ reports)) is))

order_from : (reports : List RequestReport) → OrderFrom reports
order_from [] script allowed request copy found = ends script (is_repeated allowed copy) (record { allowed = allowed; request = request; copy = copy })
order_from (report ∷ reports) script allowed request copy found = order_more report reports (order_from reports) script allowed request copy found

pub submitted_in_order : (script : List Request) (reports : List RequestReport) → is_complete (submitted script reports) ≡ is_in_script_order script reports
submitted_in_order [] [] = refl
submitted_in_order (request ∷ script) [] = refl
submitted_in_order [] (report ∷ reports) = nobodys_wrong reports [] ∙ sym (ne_eqb (suc (length reports)) 0 (λ e. omega (arith, e)))
submitted_in_order (request ∷ script) (report ∷ reports) =
    order_from reports script request.again request report (sub request report ∷ [])
    ∙ sym (and_apart (are_all_copies request.again (report ∷ (further_copies request.again report reports).0)) (list_all is_over (copies_of script (further_copies request.again report reports).1)) (length (left_over script (further_copies request.again report reports).1) == 0))
