-- The errors that requests show.
use Rattle.std.specs.Prelude.{ℕ, List, [], ◌∷◌, Option, Some, None, Result, Ok, ⊤, codes}
use Rattle.serde_json.specs.Data.{Data}
use Rattle.serde_json.specs.Find.{as_null}
use Rattle.json_form.specs.meaning.Faults.{Fault, ◌>>=◌}
use Rattle.json_form.specs.meaning.Texts.{head_of}
use Rattle.json_form.specs.meaning.Arrays.{fixed, part}
use Rattle.outage_schedule.specs.declared.failure.Failure.{Failure}
use Rattle.outage_schedule.specs.declared.failure.Failure.TheVariants as failure
use Rattle.outage_schedule.specs.declared.failure.Reason.{Reason}
use Rattle.outage_schedule.specs.declared.failure.Reason.TheVariants as reason
use Rattle.entry_forms.specs.declared.failure.FailureWord.{FailureWord}
use Rattle.entry_forms.specs.declared.failure.FailureWord.TheVariants as word
use Rattle.entry_forms.specs.declared.failure.ReasonWord.{ReasonWord}
use Rattle.entry_forms.specs.declared.failure.ReasonWord.TheVariants as why
use Rattle.answer_forms.specs.meaning.Parts.{number_in, octets_in, identifier_in}

-- ---- why a request is not replayed

abbrev pub reason_words : List (List ℕ × ReasonWord)
reason_words =
    (codes "off", why.Off) ∷ (codes "aftercommit", why.AfterCommit)
    ∷ (codes "restricted", why.Restricted)
    ∷ (codes "settings", why.Settings) ∷ (codes "asked", why.Asked) ∷ (codes "full", why.Full)
    ∷ (codes "statelost", why.StateLost) ∷ []

-- the word alone
abbrev pub lone_reason : Reason → Data → Result Reason Fault
lone_reason one d = fixed 1 d >>= λ _. Ok one

-- the word and a number
unfoldable pub number_behind : Data → Result ℕ Fault
number_behind d = fixed 2 d >>= λ ds. part 1 number_in ds

abbrev pub reason_by : ReasonWord → Data → Result Reason Fault
reason_by why.Off d = lone_reason reason.Off d
reason_by why.AfterCommit d = lone_reason reason.AfterCommit d
reason_by why.Restricted d = number_behind d >>= λ n. Ok (reason.Restricted n)
reason_by why.Settings d = number_behind d >>= λ n. Ok (reason.Settings n)
reason_by why.Asked d = number_behind d >>= λ n. Ok (reason.Asked n)
reason_by why.Full d = number_behind d >>= λ n. Ok (reason.Full n)
reason_by why.StateLost d = number_behind d >>= λ n. Ok (reason.StateLost n)

unfoldable pub reason_in : Data → Result Reason Fault
reason_in d = head_of reason_words d >>= λ w. reason_by w d

-- ---- errors

abbrev pub failure_words : List (List ℕ × FailureWord)
failure_words =
    (codes "disabled", word.Disabled) ∷ (codes "mismatch", word.Mismatch)
    ∷ (codes "incomplete", word.Incomplete)
    ∷ (codes "retries", word.Retries) ∷ (codes "replaytimeout", word.ReplayTimeout)
    ∷ (codes "replays", word.Replays) ∷ (codes "poolwait", word.PoolWait)
    ∷ (codes "unknown", word.Unknown) ∷ []

-- ["disabled",why,event]
unfoldable pub disabled_in : Data → Result Failure Fault
disabled_in d =
    fixed 3 d >>= λ ds. part 1 reason_in ds >>= λ why. part 2 number_in ds >>= λ event.
    Ok (failure.Disabled why event)

-- ["mismatch",call,seen,now]
unfoldable pub mismatch_in : Data → Result Failure Fault
mismatch_in d =
    fixed 4 d >>= λ ds. part 1 number_in ds >>= λ i. part 2 (octets_in 32) ds >>= λ seen.
    part 3 (octets_in 32) ds >>= λ now. Ok (failure.Mismatch i seen now)

-- ["incomplete",identifier]
unfoldable pub incomplete_in : Data → Result Failure Fault
incomplete_in d = fixed 2 d >>= λ ds. part 1 identifier_in ds >>= λ x. Ok (failure.Incomplete x)

-- ["retries",tries]
unfoldable pub retries_in : Data → Result Failure Fault
retries_in d = fixed 2 d >>= λ ds. part 1 number_in ds >>= λ tries. Ok (failure.Retries tries)

-- ["replaytimeout",first,ready]
unfoldable pub timeout_in : Data → Result Failure Fault
timeout_in d =
    fixed 3 d >>= λ ds. part 1 number_in ds >>= λ first. part 2 number_in ds >>= λ ready.
    Ok (failure.ReplayTimeout first ready)

-- ["replays",limit,event]
unfoldable pub replays_in : Data → Result Failure Fault
replays_in d =
    fixed 3 d >>= λ ds. part 1 number_in ds >>= λ limit. part 2 number_in ds >>= λ event.
    Ok (failure.Replays limit event)

-- ["poolwait",first,now]
unfoldable pub wait_in : Data → Result Failure Fault
wait_in d =
    fixed 3 d >>= λ ds. part 1 number_in ds >>= λ first. part 2 number_in ds >>= λ now.
    Ok (failure.PoolWait first now)

-- ["unknown",identifier]
unfoldable pub unknown_in : Data → Result Failure Fault
unknown_in d = fixed 2 d >>= λ ds. part 1 identifier_in ds >>= λ x. Ok (failure.Unknown x)

abbrev pub failure_by : FailureWord → Data → Result Failure Fault
failure_by word.Disabled = disabled_in
failure_by word.Mismatch = mismatch_in
failure_by word.Incomplete = incomplete_in
failure_by word.Retries = retries_in
failure_by word.ReplayTimeout = timeout_in
failure_by word.Replays = replays_in
failure_by word.PoolWait = wait_in
failure_by word.Unknown = unknown_in

unfoldable pub failure_in : Data → Result Failure Fault
failure_in d = head_of failure_words d >>= λ w. failure_by w d

abbrev pub null_or_failure : Data → Option ⊤ → Result (Option Failure) Fault
null_or_failure d (Some _) = Ok None
null_or_failure d None = failure_in d >>= λ one. Ok (Some one)

-- null, or an array that begins with a word
abbrev pub failed_in : Data → Result (Option Failure) Fault
failed_in d = null_or_failure d (as_null d)
