-- What the requests of clients were shown.
use Rattle.std.specs.Prelude.{ℕ, List, [], ◌∷◌, Result, Ok, codes}
use Rattle.serde_json.specs.Data.{Data}
use Rattle.json_form.specs.meaning.Faults.{Fault, ◌>>=◌}
use Rattle.json_form.specs.meaning.Values.{bool_of}
use Rattle.json_form.specs.meaning.Arrays.{each_of, list_of, fixed, part}
use Rattle.json_form.specs.meaning.Objects.{object_with, all_there, member_in}
use Rattle.svc_values.specs.declared.entry.Ltxid.{Ltxid}
use Rattle.outage_schedule.specs.declared.request.ShownCall.{ShownCall}
use Rattle.outage_schedule.specs.declared.request.Outcome.{Outcome}
use Rattle.outage_schedule.specs.declared.request.RequestReport.{RequestReport}
use Rattle.answer_forms.specs.meaning.Parts.{identifier_in, identifiers_in, sessions_in}
use Rattle.answer_forms.specs.meaning.Answers.{answers_in}
use Rattle.answer_forms.specs.meaning.Draws.{draws_in}
use Rattle.entry_forms.specs.meaning.Failures.{failed_in}

-- [answers,draws,identifier]
unfoldable pub shown_in : Data → Result ShownCall Fault
shown_in d =
    fixed 3 d >>= λ ds. part 0 answers_in ds >>= λ answers. part 1 draws_in ds >>= λ draws.
    part 2 identifier_in ds >>= λ x. Ok (record { answers = answers; draws = draws; ltxid = x })

-- [identifier,committed,completed]
unfoldable pub outcome_in : Data → Result Outcome Fault
outcome_in d =
    fixed 3 d >>= λ ds. part 0 identifier_in ds >>= λ x. part 1 bool_of ds >>= λ committed.
    part 2 bool_of ds >>= λ completed.
    Ok (record { ltxid = x; committed = committed; completed = completed })

abbrev pub calls_in : Data → Result (List ShownCall) Fault
calls_in d = list_of (each_of shown_in) d

abbrev pub outcomes_in : Data → Result (List Outcome) Fault
outcomes_in d = list_of (each_of outcome_in) d

abbrev pub tried_in : Data → Result (List (List Ltxid)) Fault
tried_in d = list_of (each_of identifiers_in) d

abbrev pub request_members : List (List ℕ)
request_members =
    codes "calls" ∷ codes "failed" ∷ codes "outcomes" ∷ codes "sessions" ∷ codes "tried" ∷ []

unfoldable pub request_in : Data → Result RequestReport Fault
request_in d =
    object_with request_members d >>= λ ms. all_there request_members ms >>= λ _.
    member_in (codes "calls") calls_in ms >>= λ calls. member_in (codes "failed") failed_in
    ms >>= λ failed.
    member_in (codes "outcomes") outcomes_in ms >>= λ outcomes.
    member_in (codes "sessions") sessions_in ms >>= λ sessions. member_in (codes "tried") tried_in
    ms >>= λ tried.
    Ok (record {
      calls = calls;
      failed = failed;
      outcomes = outcomes;
      sessions = sessions;
      tried = tried;
    })

-- the requests of one client, and those of all clients
abbrev pub transcript_in : Data → Result (List RequestReport) Fault
transcript_in d = list_of (each_of request_in) d

abbrev pub clients_in : Data → Result (List (List RequestReport)) Fault
clients_in d = list_of (each_of transcript_in) d
