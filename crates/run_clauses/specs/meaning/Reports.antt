-- What a request is reported to have shown, from its steps.
use Rattle.std.specs.Prelude.{List, map, filter_map, Option, Some, None, option_and_then}
use Rattle.std.specs.List.{last_or}
use Rattle.svc_values.specs.declared.frame.Down.TheVariants as down
use Rattle.request_bounds.specs.declared.rule.Why.{Why}
use Rattle.request_bounds.specs.declared.rule.Why.TheVariants as why
use Rattle.outage_schedule.specs.declared.failure.Reason.{Reason}
use Rattle.outage_schedule.specs.declared.failure.Reason.TheVariants as reason
use Rattle.outage_schedule.specs.declared.failure.Failure.{Failure}
use Rattle.outage_schedule.specs.declared.failure.Failure.TheVariants as failure
use Rattle.svc_values.specs.declared.entry.SessionId.{SessionId}
use Rattle.outage_schedule.specs.declared.request.ShownCall.{ShownCall}
use Rattle.outage_schedule.specs.declared.request.Outcome.{Outcome}
use Rattle.outage_schedule.specs.declared.request.RequestReport.{RequestReport}
use Rattle.outage_schedule.specs.declared.document.Request.{Request}
use Rattle.client_model.specs.declared.act.Shown.{Shown}
use Rattle.client_model.specs.declared.act.Failed.{Failed}
use Rattle.client_model.specs.declared.act.Failed.TheVariants as failed
use Rattle.client_model.specs.declared.input.Input.{Input}
use Rattle.client_model.specs.declared.input.Input.TheVariants.{Lent, Took}
use Rattle.client_model.specs.meaning.Terms.{Terms}
use Rattle.client_model.specs.meaning.Conversation.{Done}
use Rattle.client_model.specs.meaning.Account.{Outcome as Heard, Account, account_of}
use Rattle.client_model.specs.meaning.Tried.{tried_of}
use Rattle.svc_values.specs.meaning.Identifiers.{session_of}

abbrev pub reason_of : Why → Reason
reason_of why.Off = reason.Off
reason_of why.AfterCommit = reason.AfterCommit
reason_of (why.Restricted call) = reason.Restricted call
reason_of (why.Settings call) = reason.Settings call
reason_of (why.Asked call) = reason.Asked call
reason_of (why.Full limit) = reason.Full limit
reason_of (why.StateLost call) = reason.StateLost call

-- An error as it is reported. (No run of an honest service has BadPeer, and a report has no word
-- for it.)
abbrev pub failure_of : Failed → Option Failure
failure_of (failed.Disabled because event) = Some (failure.Disabled (reason_of because) event)
failure_of (failed.Mismatch call seen now) = Some (failure.Mismatch call seen now)
failure_of (failed.Incomplete ltxid) = Some (failure.Incomplete ltxid)
failure_of (failed.Retries tries) = Some (failure.Retries tries)
failure_of (failed.ReplayTimeout first ready) = Some (failure.ReplayTimeout first ready)
failure_of (failed.Replays limit event) = Some (failure.Replays limit event)
failure_of (failed.PoolWait first now) = Some (failure.PoolWait first now)
failure_of (failed.Unknown ltxid) = Some (failure.Unknown ltxid)
failure_of (failed.BadPeer tag) = None

-- the error of the last step
abbrev pub failed_in : List Done → Option Failed
failed_in steps = option_and_then (λ done. done.act.failed) (last_or None steps)

abbrev pub shown_call : Shown → ShownCall
shown_call shown = record { answers = shown.answers; draws = shown.draws; ltxid = shown.ltxid }

abbrev pub told_outcome : Heard → Outcome
told_outcome outcome = record {
  ltxid = outcome.ltxid;
  committed = outcome.committed;
  completed = outcome.completed;
}

-- the session that was lent, or whose Hello was taken
abbrev pub reached : Input → Option SessionId
reached (Lent connection ltxid) = Some (session_of ltxid)
reached (Took (down.Hello ltxid) alive) = Some (session_of ltxid)
reached _ = None

-- what an account of the steps tells
abbrev pub reported : Account → List Done → RequestReport
reported account steps = record {
  calls = map shown_call account.shown;
  failed = option_and_then failure_of (failed_in steps);
  outcomes = map told_outcome account.outcomes;
  sessions = filter_map (λ done. reached done.input) steps;
  tried = tried_of steps;
}

abbrev pub report_of : Terms → Request → List Done → RequestReport
report_of terms request steps = reported (account_of terms request.calls steps) steps
