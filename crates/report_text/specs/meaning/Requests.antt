-- What the requests of clients were shown.
use Rattle.std.specs.Prelude.{[], ◌∷◌, codes}
use Rattle.serde_json.specs.Data.{Data}
use Rattle.json_form.specs.meaning.Writing.{flag, list, list_by, members}
use Rattle.outage_schedule.specs.declared.request.ShownCall.{ShownCall}
use Rattle.outage_schedule.specs.declared.request.Outcome.{Outcome}
use Rattle.outage_schedule.specs.declared.request.RequestReport.{RequestReport}
use Rattle.report_text.specs.meaning.Values.{identifier_value, session_value}
use Rattle.report_text.specs.meaning.Answers.{answers_value, draws_value}
use Rattle.report_text.specs.meaning.Failures.{failed_value}

-- [answers,draws,identifier]
unfoldable pub shown_value : ShownCall → Data
shown_value one = list (answers_value one.answers ∷ draws_value one.draws
    ∷ identifier_value one.ltxid ∷ [])

-- [identifier,committed,completed]
unfoldable pub outcome_value : Outcome → Data
outcome_value one = list (identifier_value one.ltxid ∷ flag one.committed ∷ flag one.completed ∷ [])

unfoldable pub request_value : RequestReport → Data
request_value request = members (
    (codes "calls", list_by shown_value request.calls)
    ∷ (codes "failed", failed_value request.failed)
    ∷ (codes "outcomes", list_by outcome_value request.outcomes)
    ∷ (codes "sessions", list_by session_value request.sessions)
    ∷ (codes "tried", list_by (list_by identifier_value) request.tried)
    ∷ [])
