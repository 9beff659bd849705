-- The reasons against a replay, each with what it comes from.
use Rattle.std.specs.Prelude.{ℕ, ◌+◌, Bool, true, false, nat_le, List, [], ◌∷◌, Option, Some, None, if◌then◌else◌}
use Rattle.std.specs.Option.{option_or}
use Rattle.svc_values.specs.declared.answer.Answer.{Answer}
use Rattle.svc_values.specs.declared.call.Call.{Call}
use Rattle.svc_values.specs.declared.call.Call.TheVariants as call
use Rattle.outage_schedule.specs.declared.document.Failover.{Failover}
use Rattle.outage_schedule.specs.declared.document.Failover.TheVariants as failover
use Rattle.outage_schedule.specs.declared.document.Consistency.{Consistency}
use Rattle.outage_schedule.specs.declared.document.Consistency.TheVariants as consistency
use Rattle.outage_schedule.specs.declared.document.ServiceOf.{ServiceOf}
use Rattle.outage_schedule.specs.declared.failure.Reason.{Reason}
use Rattle.outage_schedule.specs.declared.failure.Reason.TheVariants as reason
use Rattle.shown_clauses.specs.meaning.Turns.{ends_decided}
use Rattle.shown_clauses.specs.meaning.Facts.{Fact, Submitted, Showed}

-- Off: at the first submitted call, where failover is `none`. (At each, and so the earliest is at
-- the first.)
abbrev pub off_at : Failover → Option Reason
off_at failover.Off = Some reason.Off
off_at _ = None

-- Restricted(i), Asked(i): at the submission of call i, an `alter`, a `disable`
abbrev pub asked_at : Call → ℕ → Option Reason
asked_at (call.Alter line) index = Some (reason.Restricted index)
asked_at call.Disable index = Some (reason.Asked index)
asked_at _ index = None

-- Settings(i): at the submission of call i, a `set`, where failover is `transaction` and
-- consistency is static
abbrev pub settings_at : Failover → Consistency → Call → ℕ → Option Reason
settings_at failover.Transaction consistency.Static (call.Set name value) index =
    Some (reason.Settings index)
settings_at _ _ _ index = None

-- AfterCommit: at the showing of answers that end with Committed or Conflict, where failover is
-- `transaction` and consistency is dynamic
abbrev pub after_commit_at : Failover → Consistency → Option Reason
after_commit_at failover.Transaction consistency.Dynamic = Some reason.AfterCommit
after_commit_at _ _ = None

-- Full(record): at the showing of a call that doesn't end so, where `record` calls were shown since
-- the last one that did, or since the request began
abbrev pub full_at : ℕ → ℕ → Option Reason
full_at limit since = if nat_le limit since then Some (reason.Full limit) else None

-- of several at one submission or showing, the first in the table
abbrev pub submission_reason : ServiceOf → Call → ℕ → Option Reason
submission_reason service call index =
    option_or (off_at service.failover) (option_or (asked_at call index)
    (settings_at service.failover service.consistency call index))

abbrev pub showing_reason : ServiceOf → ℕ → List Answer → Option Reason
showing_reason service since answers =
    if ends_decided answers then after_commit_at service.failover service.consistency else
    full_at service.record_limit since

-- how many calls were shown since the last one that ended with Committed or Conflict
abbrev pub since_now : ℕ → List Answer → ℕ
since_now since answers = if ends_decided answers then 0 else since + 1

-- the earliest of these
abbrev pub reason_from : ServiceOf → ℕ → List Fact → Option Reason
reason_from service since [] = None
reason_from service since (Submitted call index tick ∷ facts) =
    option_or (submission_reason service call index) (reason_from service since facts)
reason_from service since (Showed call answers ∷ facts) =
    option_or (showing_reason service since answers)
    (reason_from service (since_now since answers) facts)

-- the reason that stands after these facts of a request, from its first on
abbrev pub reason_of : ServiceOf → List Fact → Option Reason
reason_of service facts = reason_from service 0 facts

-- the rule keeps settings
abbrev pub keeps_settings : Failover → Bool
keeps_settings failover.Auto = true
keeps_settings _ = false
