-- The limits that the reports of requests keep to.
use Rattle.std.specs.Prelude.{◌&&◌, ◌==◌, Bool, true, length}
use Rattle.std.specs.List.{list_all}
use Rattle.outage_schedule.specs.declared.failure.Reason.{Reason}
use Rattle.outage_schedule.specs.declared.failure.Reason.TheVariants as reason
use Rattle.outage_schedule.specs.declared.failure.Failure.{Failure}
use Rattle.outage_schedule.specs.declared.failure.Failure.TheVariants as failure
use Rattle.outage_schedule.specs.declared.request.ShownCall.{ShownCall}
use Rattle.outage_schedule.specs.declared.request.Outcome.{Outcome}
use Rattle.outage_schedule.specs.declared.request.RequestReport.{RequestReport}
use Rattle.report_limits.specs.meaning.Limits.{fits_u64, fits_identifier, fits_session, fits_replies}
use Rattle.report_limits.specs.meaning.Notes.{if_there}

abbrev pub fits_reason : Reason → Bool
fits_reason (reason.Restricted i) = fits_u64 i
fits_reason (reason.Settings i) = fits_u64 i
fits_reason (reason.Asked i) = fits_u64 i
fits_reason (reason.Full limit) = fits_u64 limit
fits_reason (reason.StateLost i) = fits_u64 i
fits_reason _ = true

-- a digest has 32 octets
abbrev pub fits_failure : Failure → Bool
fits_failure (failure.Disabled why event) = fits_reason why && fits_u64 event
fits_failure (failure.Mismatch i seen now) =
    fits_u64 i && ((length seen == 32) && (length now == 32))
fits_failure (failure.Incomplete x) = fits_identifier x
fits_failure (failure.Retries tries) = fits_u64 tries
fits_failure (failure.ReplayTimeout first ready) = fits_u64 first && fits_u64 ready
fits_failure (failure.Replays limit event) = fits_u64 limit && fits_u64 event
fits_failure (failure.PoolWait first now) = fits_u64 first && fits_u64 now
fits_failure (failure.Unknown x) = fits_identifier x

abbrev pub fits_shown : ShownCall → Bool
fits_shown one = fits_replies one.answers one.draws && fits_identifier one.ltxid

abbrev pub fits_outcome : Outcome → Bool
fits_outcome one = fits_identifier one.ltxid

abbrev pub fits_request : RequestReport → Bool
fits_request request =
    list_all fits_shown request.calls && (if_there fits_failure request.failed
    && (list_all fits_outcome request.outcomes
    && (list_all fits_session request.sessions
    && list_all (list_all fits_identifier) request.tried)))
