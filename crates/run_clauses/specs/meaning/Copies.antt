-- The copies of a request: its reports.
use Rattle.std.specs.Prelude.{ℕ, ◌-◌, ◌==◌, ◌&&◌, Bool, true, false, not, nat_lt, nat_le, List, [], ◌∷◌, length, position, Option, Some, None, is_none, option_and_then, slice_get}
use Rattle.std.specs.List.{list_all, last_or}
use Rattle.std.specs.Option.{option_map_or}
use Rattle.outage_schedule.specs.declared.document.Request.{Request}
use Rattle.outage_schedule.specs.declared.document.Client.{Client}
use Rattle.outage_schedule.specs.declared.document.Document.{Document}
use Rattle.outage_schedule.specs.declared.failure.Failure.{Failure}
use Rattle.outage_schedule.specs.declared.failure.Failure.TheVariants as failure
use Rattle.outage_schedule.specs.declared.request.Outcome.{Outcome}
use Rattle.outage_schedule.specs.declared.request.RequestReport.{RequestReport}
use Rattle.outage_schedule.specs.declared.report.Report.{Report}
use Rattle.svc_values.specs.meaning.Same.{same_bool}

-- it failed with Disabled, Mismatch, Replays or ReplayTimeout
abbrev pub may_be_repeated : Option Failure → Bool
may_be_repeated (Some (failure.Disabled why event)) = true
may_be_repeated (Some (failure.Mismatch call seen now)) = true
may_be_repeated (Some (failure.Replays limit event)) = true
may_be_repeated (Some (failure.ReplayTimeout first ready)) = true
may_be_repeated _ = false

-- the last outcome says committed false
abbrev pub is_last_uncommitted : List Outcome → Bool
is_last_uncommitted outcomes = option_map_or (λ outcome. not outcome.committed)
    (last_or None outcomes) false

-- A further copy follows the copy, where so many more are allowed.
abbrev pub is_repeated : ℕ → RequestReport → Bool
is_repeated allowed copy = nat_lt 0 allowed
    && (may_be_repeated copy.failed && is_last_uncommitted copy.outcomes)

-- the reports that stand first here as further copies, and those that are left
abbrev pub with_copy : Bool → RequestReport → List RequestReport
    → List RequestReport × List RequestReport → List RequestReport × List RequestReport
with_copy true report reports more = (report ∷ more.0, more.1)
with_copy false report reports more = ([], report ∷ reports)

abbrev pub further_copies : ℕ → RequestReport → List RequestReport
    → List RequestReport × List RequestReport
further_copies allowed copy [] = ([], [])
further_copies allowed copy (report ∷ reports) =
    with_copy (is_repeated allowed copy) report reports
    (further_copies (allowed - 1) report reports)

-- A request with its copies, in order.
pub record Copies : Type 0 where
  pub request : Request
  pub reports : List RequestReport

-- the requests of a script, each with its copies
abbrev pub copies_of : List Request → List RequestReport → List Copies
copies_of [] reports = []
copies_of (request ∷ requests) [] = record {
  request = request;
  reports = [];
} ∷ copies_of requests []
copies_of (request ∷ requests) (first ∷ reports) =
    record { request = request; reports = first ∷ (further_copies request.again first reports).0 }
    ∷ copies_of requests (further_copies request.again first reports).1

-- the reports that are of no request of the script
abbrev pub left_over : List Request → List RequestReport → List RequestReport
left_over [] reports = reports
left_over (request ∷ requests) [] = []
left_over (request ∷ requests) (first ∷ reports) =
    left_over requests (further_copies request.again first reports).1

-- a first copy is there, and no further one follows the last, where so many are allowed
abbrev pub are_all_copies : ℕ → List RequestReport → Bool
are_all_copies allowed [] = false
are_all_copies allowed (copy ∷ []) = not (is_repeated allowed copy)
are_all_copies allowed (copy ∷ next ∷ copies) = are_all_copies (allowed - 1) (next ∷ copies)

-- all copies of the request are there
abbrev pub is_over : Copies → Bool
is_over copies = are_all_copies copies.request.again copies.reports

-- The place in its script of the request that a client submits next: that of the last report where
-- a further copy follows it, and else the first one without a report.
abbrev pub next_place : List Request → List RequestReport → Option ℕ
next_place script transcript = position (λ copies. not (is_over copies))
    (copies_of script transcript)

-- `next_of`
abbrev pub next_of : List Request → List RequestReport → Option Request
next_of script transcript = option_and_then (slice_get script) (next_place script transcript)

-- ---- over all clients

abbrev pub copies_by_client : List Client → List (List RequestReport) → List (List Copies)
copies_by_client [] transcripts = []
copies_by_client (client ∷ clients) [] = copies_of client.requests [] ∷ copies_by_client clients []
copies_by_client (client ∷ clients) (transcript ∷ transcripts) =
    copies_of client.requests transcript ∷ copies_by_client clients transcripts

-- it holds of each request of each client, with its copies
abbrev pub each_copies : (Copies → Bool) → Document → Report → Bool
each_copies test document report = list_all (list_all test)
    (copies_by_client document.clients report.clients)

-- ---- what `Whole` says of the reports themselves

-- The reports of a client are the copies of its requests, in script order, each request with a
-- first copy and each further one exactly where it follows.
abbrev pub is_in_script_order : List Request → List RequestReport → Bool
is_in_script_order script transcript = list_all is_over (copies_of script transcript)
    && (length (left_over script transcript) == 0)

abbrev pub are_in_script_order : List Client → List (List RequestReport) → Bool
are_in_script_order [] [] = true
are_in_script_order (client ∷ clients) (transcript ∷ transcripts) =
    is_in_script_order client.requests transcript && are_in_script_order clients transcripts
are_in_script_order _ _ = false

-- all calls of the script are shown where `failed` is null, and fewer where it is not
abbrev pub shows_script : Request → RequestReport → Bool
shows_script request copy = nat_le (length copy.calls) (length request.calls)
    && same_bool (length copy.calls == length request.calls) (is_none copy.failed)

abbrev pub show_script : Copies → Bool
show_script copies = list_all (shows_script copies.request) copies.reports

-- the first two sentences of `Whole`
abbrev pub has_its_reports : Document → Report → Bool
has_its_reports document report = are_in_script_order document.clients report.clients
    && each_copies show_script document report
