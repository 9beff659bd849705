-- Which request a report is of: one report more is a copy of the request that follows those before
-- it.
use Rattle.std.proofs.Common.{◌≡◌, refl, sym, ap, subst, ◌∙◌, Bool, true, false, ℕ, suc, ◌+◌, ◌-◌, ◌&&◌, List, [], ◌∷◌, ◌++◌, Option, Some, None, arith}
use Rattle.std.specs.Prelude.{not, nat_lt, position, slice_get, option_and_then}
use Rattle.std.specs.List.{list_all}
use Rattle.std.proofs.lemmas.Bool.{and_parts, and_from}
use Rattle.outage_schedule.specs.declared.document.Request.{Request}
use Rattle.outage_schedule.specs.declared.request.RequestReport.{RequestReport}
use Rattle.run_clauses.specs.meaning.Copies.{Copies, may_be_repeated, is_last_uncommitted, is_repeated, with_copy, further_copies, copies_of, is_over, next_of}
use Rattle.world_model.proofs.Offered.{weaker_all, CopiesLeftOneMore as OneMore, IsMine, IsLater, is_left, one_more, counted, position_cons}

-- FURTHER COPIES ----------------------------------------------------------------------------------

-- each but the last ended in an error with which it is submitted again
abbrev pub are_repeated : List RequestReport → Bool
are_repeated [] = true
are_repeated (copy ∷ []) = true
are_repeated (copy ∷ next ∷ others) = may_be_repeated copy.failed && are_repeated (next ∷ others)

further_repeated : (allowed : ℕ) (copy : RequestReport) (reports : List RequestReport) → are_repeated (copy ∷ (further_copies allowed copy reports).0) ≡ true
further_repeated allowed copy [] = refl
further_repeated allowed copy (report ∷ reports) = by (is_repeated allowed copy) refl (further_repeated (allowed - 1) report reports)
  where
    by : (again : Bool) → is_repeated allowed copy ≡ again → are_repeated (report ∷ (further_copies (allowed - 1) report reports).0) ≡ true → are_repeated (copy ∷ (with_copy again report reports (further_copies (allowed - 1) report reports)).0) ≡ true
    by false is later = refl
    by true is later =
        let failed = and_parts (may_be_repeated copy.failed) (is_last_uncommitted copy.outcomes) (and_parts (nat_lt 0 allowed) (may_be_repeated copy.failed && is_last_uncommitted copy.outcomes) is).1 in
        and_from (may_be_repeated copy.failed) (are_repeated (report ∷ (further_copies (allowed - 1) report reports).0)) failed.0 later

pub copies_repeated : (script : List Request) (reports : List RequestReport) → list_all (λ (copies : Copies). are_repeated copies.reports) (copies_of script reports) ≡ true
copies_repeated [] reports = refl
copies_repeated (request ∷ requests) [] = copies_repeated requests []
copies_repeated (request ∷ requests) (first ∷ reports) =
    and_from (are_repeated (first ∷ (further_copies request.again first reports).0)) (list_all (λ (copies : Copies). are_repeated copies.reports) (copies_of requests (further_copies request.again first reports).1))
    (further_repeated request.again first reports) (copies_repeated requests (further_copies request.again first reports).1)

-- the requests are those of the script
pub requests_all : (test : Request → Bool) (script : List Request) (reports : List RequestReport) → list_all test script ≡ true → list_all (λ (copies : Copies). test copies.request) (copies_of script reports) ≡ true
requests_all test [] reports all = refl
requests_all test (request ∷ requests) [] all =
    let parts = and_parts (test request) (list_all test requests) all in
    and_from (test request) (list_all (λ (copies : Copies). test copies.request) (copies_of requests [])) parts.0 (requests_all test requests [] parts.1)
requests_all test (request ∷ requests) (first ∷ reports) all =
    let parts = and_parts (test request) (list_all test requests) all in
    and_from (test request) (list_all (λ (copies : Copies). test copies.request) (copies_of requests (further_copies request.again first reports).1)) parts.0
    (requests_all test requests (further_copies request.again first reports).1 parts.1)

-- ONE REPORT MORE ---------------------------------------------------------------------------------

module _ (script : List Request) (request : Request) (first : Copies) (others : List Copies) where
  -- the request at the place that is found
  abbrev placed : Option ℕ → Option Request
  placed found = option_and_then (slice_get (request ∷ script)) found

  -- it is the first one, where that is not over
  pub first_follows : is_over first ≡ false → placed (position is_left (first ∷ others)) ≡ Some request
  first_follows opens = ap placed (position_cons is_left first others true (ap not opens))

  -- and else it is one behind it
  pub later_follows : is_over first ≡ true → placed (position is_left (first ∷ others)) ≡ option_and_then (slice_get script) (position is_left others)
  later_follows closed = ap placed (position_cons is_left first others false (ap not closed)) ∙ by (position is_left others)
    where
      by : (found : Option ℕ) → placed (counted found) ≡ option_and_then (slice_get script) found
      by None = refl
      by (Some place) = let next : place + 1 ≡ suc place = omega arith in ap (slice_get (request ∷ script)) next

-- Where a test holds of the copies of each request, another one does behind one more report: it
-- does where nothing is added, and where the report is added to the copies of the request that
-- follows.
module _ (old new : Copies → Bool) (kept : (copies : Copies) → old copies ≡ true → new copies ≡ true) (request : Request) (report : RequestReport)
    (grown : (mine : List RequestReport) → old (record { request = request; reports = mine }) ≡ true → new (record { request = request; reports = mine ++ report ∷ [] }) ≡ true) where
  pub one_copy : (script : List Request) (reports : List RequestReport) → next_of script reports ≡ Some request → list_all old (copies_of script reports) ≡ true → list_all new (copies_of script (reports ++ report ∷ [])) ≡ true
  one_copy [] reports follows all = refl
  one_copy (other ∷ requests) [] follows all =
      let parts = and_parts (old (record { request = other; reports = [] })) (list_all old (copies_of requests [])) all in
      let both : Some other ≡ Some request = sym (first_follows requests other (record { request = other; reports = [] }) (copies_of requests []) refl) ∙ follows in
      let same : request ≡ other = cc in
      and_from (new (record { request = other; reports = report ∷ [] })) (list_all new (copies_of requests []))
      (subst (λ (r : Request). old (record { request = r; reports = [] }) ≡ true → new (record { request = r; reports = report ∷ [] }) ≡ true) same (grown []) parts.0)
      (weaker_all old new (copies_of requests []) kept parts.1)
  one_copy (other ∷ requests) (first ∷ reports) follows all =
      by (further_copies other.again first (reports ++ report ∷ [])) (λ next. one_copy requests (further_copies other.again first reports).1 next parts.1) (one_more other.again first reports report)
    where
      mine : List RequestReport
      mine = (further_copies other.again first reports).0

      rest : List RequestReport
      rest = (further_copies other.again first reports).1

      own : Copies
      own = record { request = other; reports = first ∷ mine }

      parts : (old own ≡ true) × (list_all old (copies_of requests rest) ≡ true)
      parts = and_parts (old own) (list_all old (copies_of requests rest)) all

      by : (more : List RequestReport × List RequestReport) → (next_of requests rest ≡ Some request → list_all new (copies_of requests (rest ++ report ∷ [])) ≡ true) → OneMore other.again first mine rest report more
          → list_all new (record { request = other; reports = first ∷ more.0 } ∷ copies_of requests more.1) ≡ true
      by _ later (IsMine opens few none) =
          let both : Some other ≡ Some request = sym (first_follows requests other own (copies_of requests rest) opens) ∙ follows in
          let same : request ≡ other = cc in
          and_from (new (record { request = other; reports = first ∷ (mine ++ report ∷ []) })) (list_all new (copies_of requests []))
          (subst (λ (r : Request). old (record { request = r; reports = first ∷ mine }) ≡ true → new (record { request = r; reports = first ∷ (mine ++ report ∷ []) }) ≡ true) same (grown (first ∷ mine)) parts.0)
          (weaker_all old new (copies_of requests []) kept (subst (λ (left : List RequestReport). list_all old (copies_of requests left) ≡ true) none parts.1))
      by _ later (IsLater closed) =
          and_from (new own) (list_all new (copies_of requests (rest ++ report ∷ []))) (kept own parts.0)
          (later (sym (later_follows requests other own (copies_of requests rest) closed) ∙ follows))
