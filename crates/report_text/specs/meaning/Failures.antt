-- The errors that requests show.
use Rattle.std.specs.Prelude.{[], ◌∷◌, Option, Some, None, codes}
use Rattle.serde_json.specs.Data.{Data}
use Rattle.json_form.specs.meaning.Writing.{whole, null}
use Rattle.outage_schedule.specs.declared.failure.Reason.{Reason}
use Rattle.outage_schedule.specs.declared.failure.Reason.TheVariants as reason
use Rattle.outage_schedule.specs.declared.failure.Failure.{Failure}
use Rattle.outage_schedule.specs.declared.failure.Failure.TheVariants as failure
use Rattle.report_text.specs.meaning.Parts.{headed, lone}
use Rattle.report_text.specs.meaning.Values.{digits, identifier_value}

-- why a request is not replayed: a word, and the number of a call or a limit
unfoldable pub reason_value : Reason → Data
reason_value reason.Off = lone (codes "off")
reason_value reason.AfterCommit = lone (codes "aftercommit")
reason_value (reason.Restricted i) = headed (codes "restricted") (whole i ∷ [])
reason_value (reason.Settings i) = headed (codes "settings") (whole i ∷ [])
reason_value (reason.Asked i) = headed (codes "asked") (whole i ∷ [])
reason_value (reason.Full limit) = headed (codes "full") (whole limit ∷ [])
reason_value (reason.StateLost i) = headed (codes "statelost") (whole i ∷ [])

unfoldable pub failure_value : Failure → Data
failure_value (failure.Disabled why event) =
    headed (codes "disabled") (reason_value why ∷ whole event ∷ [])
failure_value (failure.Mismatch i seen now) =
    headed (codes "mismatch") (whole i ∷ digits seen ∷ digits now ∷ [])
failure_value (failure.Incomplete x) = headed (codes "incomplete") (identifier_value x ∷ [])
failure_value (failure.Retries tries) = headed (codes "retries") (whole tries ∷ [])
failure_value (failure.ReplayTimeout first ready) =
    headed (codes "replaytimeout") (whole first ∷ whole ready ∷ [])
failure_value (failure.Replays limit event) =
    headed (codes "replays") (whole limit ∷ whole event ∷ [])
failure_value (failure.PoolWait first now) =
    headed (codes "poolwait") (whole first ∷ whole now ∷ [])
failure_value (failure.Unknown x) = headed (codes "unknown") (identifier_value x ∷ [])

abbrev pub failed_value : Option Failure → Data
failed_value None = null
failed_value (Some error) = failure_value error
