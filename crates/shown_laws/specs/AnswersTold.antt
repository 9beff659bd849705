-- The calls that a request was shown, each with the reply or the outcome that answered it.
use Rattle.std.specs.Prelude.{◌&&◌, Bool, true, false}
use Rattle.std.specs.List.{list_all, list_any}
use Rattle.svc_values.specs.meaning.Calls.{is_lone_commit}
use Rattle.svc_values.specs.meaning.Identifiers.{same_session}
use Rattle.svc_values.specs.meaning.Same.{same_call}
use Rattle.outage_schedule.specs.declared.item.Item.{Item}
use Rattle.outage_schedule.specs.declared.item.Item.TheVariants as item
use Rattle.outage_schedule.specs.declared.request.RequestReport.{RequestReport}
use Rattle.run_clauses.specs.meaning.Tried.{holds}
use Rattle.shown_clauses.specs.meaning.Parts.{Part}
use Rattle.shown_clauses.specs.meaning.Showings.{Shown, shown_calls, says_completed, calls_served}
use Rattle.shown_laws.specs.PartsTold.{HoldsOfParts}
use Rattle.shown_laws.specs.ReportsTold.{HoldsOfReports, of_parts}

-- A reply is of the script's call at its place, by a session of the report. For an outcome the
-- report has one that says committed and completed of that identifier.
abbrev pub is_answered : RequestReport → Shown → Item → Bool
is_answered copy one (item.Call replay call answers draws) =
    same_call one.call call && list_any (same_session one.showing.session) copy.sessions
is_answered copy one (item.Outcome x result) = list_any (says_completed x) copy.outcomes
is_answered copy one _ = false

abbrev pub calls_answered : Part → Bool
calls_answered part = list_all (λ one. is_answered part.submission.copy one one.showing.item)
    (shown_calls part)

abbrev pub CallsAreAnswered : Type 0
CallsAreAnswered = HoldsOfParts calls_answered

abbrev pub ReportsAnswerCalls : Type 0
ReportsAnswerCalls = HoldsOfReports (of_parts calls_answered)

-- A call that an outcome showed is a lone commit, and the identifier is one under which its
-- transaction was tried.
abbrev pub is_lone : Shown → Item → Bool
is_lone one (item.Outcome x result) = is_lone_commit one.call && holds one.tried x
is_lone one _ = true

abbrev pub outcomes_lone : Part → Bool
outcomes_lone part = list_all (λ one. is_lone one one.showing.item) (shown_calls part)

abbrev pub OutcomesAreLone : Type 0
OutcomesAreLone = HoldsOfParts outcomes_lone

-- So each call was served: by its reply, or as a lone commit whose outcome the report has.
abbrev pub CallsAreServed : Type 0
CallsAreServed = HoldsOfParts calls_served

abbrev pub ReportsServeCalls : Type 0
ReportsServeCalls = HoldsOfReports (of_parts calls_served)
