-- How many calls of each request were shown, and how many of them were protected.
use Rattle.std.specs.Prelude.{ℕ, ◌+◌, Bool, is_none, List, [], ◌∷◌, ◌++◌, length, map, filter}
use Rattle.svc_values.specs.declared.call.Call.{Call}
use Rattle.outage_schedule.specs.declared.document.ServiceOf.{ServiceOf}
use Rattle.outage_schedule.specs.declared.document.Document.{Document}
use Rattle.outage_schedule.specs.declared.request.ShownCall.{ShownCall}
use Rattle.outage_schedule.specs.declared.report.Report.{Report}
use Rattle.shown_clauses.specs.meaning.Submissions.{Submission, submissions_by_client}
use Rattle.shown_clauses.specs.meaning.Facts.{Fact, Submitted, Showed}
use Rattle.shown_clauses.specs.meaning.Reasons.{reason_of}

-- no reason stands against a replay after these facts of a request
abbrev pub is_protected : ServiceOf → List Fact → Bool
is_protected service facts = is_none (reason_of service facts)

-- A shown call is protected where no reason stood at its submission, the reasons of that
-- submission included. `before` are the facts of the
-- request before this call: each call was submitted before it was shown, and behind the showing of
-- the one before it. (At which tick is no
-- matter to a reason.)
abbrev pub protections : ServiceOf → List Fact → ℕ → List Call → List ShownCall → List Bool
protections service before index calls [] = []
protections service before index [] shown = []
protections service before index (call ∷ calls) (one ∷ shown) =
    let submitted : List Fact = before ++ Submitted call index 0 ∷ [] in
    let shown_then : List Fact = submitted ++ Showed call one.answers ∷ [] in
    is_protected service submitted ∷ protections service shown_then (index + 1) calls shown

-- of one report: its shown calls, and the protected ones of these
pub record Counts : Type 0 where
  pub calls : ℕ
  pub protected : ℕ

abbrev pub counts_of : ServiceOf → Submission → Counts
counts_of service submission =
    let calls : List Call = submission.request.calls in
    let shown : List ShownCall = submission.copy.calls in
    let flags : List Bool = protections service [] 0 calls shown in
    record { calls = length shown; protected = length (filter (λ flag. flag) flags) }

-- `Cover`: for each client, one for each report
abbrev pub cover : Document → Report → List (List Counts)
cover document report =
    map (map (counts_of document.service)) (submissions_by_client document report)
