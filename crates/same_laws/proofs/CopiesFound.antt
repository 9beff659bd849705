-- What holds of each copy of a script's requests holds of each request that was submitted, with its
-- report.
use Rattle.std.proofs.Common.{◌≡◌, refl, sym, ap, subst, ◌∙◌, Bool, true, false, ℕ, suc, zero, ◌-◌, append_assoc, map, List, [], ◌∷◌, ◌++◌, Some}
use Rattle.std.specs.Prelude.{not, slice_get}
use Rattle.std.specs.List.{list_all}
use Rattle.std.proofs.lemmas.Bool.{and_parts, and_from}
use Rattle.std.proofs.lemmas.List.Folds.{list_all-append}
use Rattle.outage_schedule.specs.declared.document.Client.{Client as Scripted}
use Rattle.outage_schedule.specs.declared.document.Request.{Request}
use Rattle.outage_schedule.specs.declared.request.RequestReport.{RequestReport}
use Rattle.run_clauses.specs.meaning.Copies.{Copies, are_all_copies, copies_by_client, copies_of, further_copies, is_repeated, next_of, with_copy}
use Rattle.world_model.specs.meaning.Clients.{Client, Past, reports_of}
use Rattle.invariant_laws.proofs.Offered.{first_follows, later_follows}
use Rattle.same_laws.proofs.SameEnd.{of_copies, of_past}
use Rattle.same_laws.proofs.ScriptsExact.{AreScripts}

-- ONE REPORT AMONG OTHERS -------------------------------------------------------------------------

-- a report with more behind it: it is a further copy, where the request was not over, or of a later
-- request
data OneOf (allowed : ℕ) (copy : RequestReport) (mine rest : List RequestReport) (report : RequestReport) (more : List RequestReport) : List RequestReport × List RequestReport → Type 0 where
  IsMine : (further left : List RequestReport) → are_all_copies allowed (copy ∷ mine) ≡ false → OneOf allowed copy mine rest report more (mine ++ report ∷ further, left)
  IsLater : are_all_copies allowed (copy ∷ mine) ≡ true → OneOf allowed copy mine rest report more (mine, rest ++ report ∷ more)

one_of : (allowed : ℕ) (copy : RequestReport) (reports : List RequestReport) (report : RequestReport) (more : List RequestReport)
    → OneOf allowed copy (further_copies allowed copy reports).0 (further_copies allowed copy reports).1 report more (further_copies allowed copy (reports ++ report ∷ more))
one_of allowed copy [] report more = by (is_repeated allowed copy) refl
  where
    by : (again : Bool) → is_repeated allowed copy ≡ again → OneOf allowed copy [] [] report more (with_copy again report more (further_copies (allowed - 1) report more))
    by true is = IsMine (further_copies (allowed - 1) report more).0 (further_copies (allowed - 1) report more).1 (ap not is)
    by false is = IsLater (ap not is)
one_of allowed copy (first ∷ reports) report more = by (is_repeated allowed copy) refl (one_of (allowed - 1) first reports report more)
  where
    mine : List RequestReport
    mine = (further_copies (allowed - 1) first reports).0

    rest : List RequestReport
    rest = (further_copies (allowed - 1) first reports).1

    behind : (found : List RequestReport × List RequestReport) → OneOf (allowed - 1) first mine rest report more found → OneOf allowed copy (first ∷ mine) rest report more (with_copy true first (reports ++ report ∷ more) found)
    behind _ (IsMine further left opens) = IsMine further left opens
    behind _ (IsLater closed) = IsLater closed

    by : (again : Bool) → is_repeated allowed copy ≡ again → OneOf (allowed - 1) first mine rest report more (further_copies (allowed - 1) first (reports ++ report ∷ more))
        → OneOf allowed copy (with_copy again first reports (mine, rest)).0 (with_copy again first reports (mine, rest)).1 report more (with_copy again first (reports ++ report ∷ more) (further_copies (allowed - 1) first (reports ++ report ∷ more)))
    by true is found = behind (further_copies (allowed - 1) first (reports ++ report ∷ more)) found
    by false is found = IsLater (ap not is)

module _ (test : Request → RequestReport → Bool) where
  found_in : (request : Request) (report : RequestReport) (front back : List RequestReport) → list_all (test request) (front ++ report ∷ back) ≡ true → test request report ≡ true
  found_in request report front back all =
      (and_parts (test request report) (list_all (test request) back)
      (and_parts (list_all (test request) front) (list_all (test request) (report ∷ back)) (sym (list_all-append (test request) front (report ∷ back)) ∙ all)).1).0

  found_so : (script : List Request) (before : List RequestReport) (request : Request) (report : RequestReport) (more : List RequestReport) → next_of script before ≡ Some request
      → list_all (of_copies test) (copies_of script (before ++ report ∷ more)) ≡ true → test request report ≡ true
  found_so [] before request report more follows all = absurd (let none : ⊥ = cc in none)
  found_so (other ∷ requests) [] request report more follows all =
      let both : Some other ≡ Some request = sym (first_follows requests other (record { request = other; reports = [] }) (copies_of requests []) refl) ∙ follows in
      let same : other ≡ request = cc in
      let parts = and_parts (list_all (test other) (report ∷ (further_copies other.again report more).0)) (list_all (of_copies test) (copies_of requests (further_copies other.again report more).1)) all in
      subst (λ (r : Request). test r report ≡ true) same (and_parts (test other report) (list_all (test other) (further_copies other.again report more).0) parts.0).0
  found_so (other ∷ requests) (first ∷ reports) request report more follows all =
      by (further_copies other.again first (reports ++ report ∷ more)) (one_of other.again first reports report more) all
      (λ next later. found_so requests (further_copies other.again first reports).1 request report more next later)
    where
      mine : List RequestReport
      mine = (further_copies other.again first reports).0

      rest : List RequestReport
      rest = (further_copies other.again first reports).1

      own : Copies
      own = record { request = other; reports = first ∷ mine }

      by : (found : List RequestReport × List RequestReport) → OneOf other.again first mine rest report more found → list_all (of_copies test) (record { request = other; reports = first ∷ found.0 } ∷ copies_of requests found.1) ≡ true
          → (next_of requests rest ≡ Some request → list_all (of_copies test) (copies_of requests (rest ++ report ∷ more)) ≡ true → test request report ≡ true) → test request report ≡ true
      by _ (IsMine further left opens) all again =
          let both : Some other ≡ Some request = sym (first_follows requests other own (copies_of requests rest) opens) ∙ follows in
          let same : other ≡ request = cc in
          let parts = and_parts (list_all (test other) (first ∷ (mine ++ report ∷ further))) (list_all (of_copies test) (copies_of requests left)) all in
          subst (λ (r : Request). test r report ≡ true) same (found_in other report (first ∷ mine) further parts.0)
      by _ (IsLater closed) all again =
          again (sym (later_follows requests other own (copies_of requests rest) closed) ∙ follows) (and_parts (list_all (test other) (first ∷ mine)) (list_all (of_copies test) (copies_of requests (rest ++ report ∷ more))) all).1

  -- OF A CLIENT -----------------------------------------------------------------------------------

  past_found : (script : List Request) (before : List RequestReport) (past : List Past) → AreScripts script before past → list_all (of_copies test) (copies_of script (before ++ reports_of past)) ≡ true → list_all (of_past test) past ≡ true
  past_found script before [] are all = refl
  past_found script before (one ∷ past) are all =
      and_from (of_past test one) (list_all (of_past test) past) (found_so script before one.request one.report (reports_of past) are.0 all)
      (past_found script (before ++ one.report ∷ []) past are.1
      (ap (λ (reports : List RequestReport). list_all (of_copies test) (copies_of script reports)) (append_assoc before (one.report ∷ []) (reports_of past)) ∙ all))

  pub clients_found : (scripts : List Scripted) (clients : List Client) (index : ℕ) (script : Scripted) (client : Client) → slice_get scripts index ≡ Some script → slice_get clients index ≡ Some client → AreScripts script.requests [] client.past
      → list_all (list_all (of_copies test)) (copies_by_client scripts (map (λ (one : Client). reports_of one.past) clients)) ≡ true → list_all (of_past test) client.past ≡ true
  clients_found [] clients index script client at here are all = absurd (let none : ⊥ = cc in none)
  clients_found (one ∷ scripts) [] index script client at here are all = absurd (let none : ⊥ = cc in none)
  clients_found (one ∷ scripts) (other ∷ clients) zero script client at here are all =
      let a : one ≡ script = cc in
      let b : other ≡ client = cc in
      let parts = and_parts (list_all (of_copies test) (copies_of one.requests (reports_of other.past))) (list_all (list_all (of_copies test)) (copies_by_client scripts (map (λ (c : Client). reports_of c.past) clients))) all in
      past_found script.requests [] client.past are (subst (λ (c : Client). list_all (of_copies test) (copies_of script.requests (reports_of c.past)) ≡ true) b (subst (λ (s : Scripted). list_all (of_copies test) (copies_of s.requests (reports_of other.past)) ≡ true) a parts.0))
  clients_found (one ∷ scripts) (other ∷ clients) (suc index) script client at here are all =
      clients_found scripts clients index script client at here are
      (and_parts (list_all (of_copies test) (copies_of one.requests (reports_of other.past))) (list_all (list_all (of_copies test)) (copies_by_client scripts (map (λ (c : Client). reports_of c.past) clients))) all).1
