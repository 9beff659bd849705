-- Entries without their writes, tables, and what requests were shown are read back.
use Rattle.std.proofs.Common.{◌≡◌, ℕ, List, [], refl, ap, codes}
use Rattle.std.specs.Prelude.{Option, Some, None, if◌then◌else◌}
use Rattle.std.specs.List.{AllByRecursion}
use Rattle.std.specs.Str.{bytes_eq}
use Rattle.serde_json.specs.Data.{Data}
use Rattle.json_form.specs.meaning.Writing.{list_by}
use Rattle.svc_values.specs.declared.entry.Ltxid.{Ltxid}
use Rattle.svc_values.specs.declared.entry.Piece.{Piece}
use Rattle.svc_values.specs.declared.entry.Entry.{Entry}
use Rattle.outage_schedule.specs.declared.report.ReportTable.{ReportTable}
use Rattle.outage_schedule.specs.declared.failure.Reason.{Reason}
use Rattle.outage_schedule.specs.declared.failure.Reason.TheVariants as reason
use Rattle.outage_schedule.specs.declared.failure.Failure.{Failure}
use Rattle.outage_schedule.specs.declared.failure.Failure.TheVariants as failure
use Rattle.outage_schedule.specs.declared.request.ShownCall.{ShownCall}
use Rattle.outage_schedule.specs.declared.request.Outcome.{Outcome}
use Rattle.outage_schedule.specs.declared.request.RequestReport.{RequestReport}
use Rattle.report_text.specs.meaning.Values.{identifier_value, session_value}
use Rattle.report_text.specs.meaning.Entries.{piece_value, entry_value, table_value}
use Rattle.report_text.specs.meaning.Failures.{reason_value, failure_value, failed_value}
use Rattle.report_text.specs.meaning.Requests.{shown_value, outcome_value, request_value}
use Rattle.report_text.specs.meaning.Octets.{PieceOfBytes, EntryOfBytes, TableOfBytes, FailedOfBytes, ShownOfBytes, RequestOfBytes}
use Rattle.report_text.specs.Laws.{shown_entry}
use Rattle.report_text.proofs.Places.{nat_in, text_in, flag_in, items, part, members_in, value_at, digits_in, list_in, digits_back, list_back, all_back}
use Rattle.report_text.proofs.ValuesBack.{row_in, rows_back, settings_in, settings_back, identifier_in, identifier_back, session_in, session_back, answers_in, answers_back, draws_in, draws_back}
use Rattle.report_text.proofs.CallsBack.{call_in, call_back}

abbrev piece_in : Data → Piece
piece_in d = record { call = call_in (part 0 (items d)); answers = answers_in (part 1 (items d)); draws = draws_in (part 2 (items d)) }

piece_back : (x : Piece) → PieceOfBytes x → piece_in (piece_value x) ≡ x
unfolding piece_value
piece_back x ok = rw (call_back x.call ok.0, answers_back x.answers ok.1.0, draws_back x.draws ok.1.1) refl

abbrev pub entry_in : Data → Entry
entry_in d = record {
  ltxid = identifier_in (value_at (codes "ltxid") (members_in d));
  completed = flag_in (value_at (codes "completed") (members_in d));
  settings = settings_in (value_at (codes "settings") (members_in d));
  pieces = list_in piece_in (value_at (codes "pieces") (members_in d));
  writes = [];
}

pub entry_back : (x : Entry) → EntryOfBytes x → entry_in (entry_value x) ≡ shown_entry x
unfolding entry_value
entry_back x ok = rw (list_back PieceOfBytes piece_in piece_value piece_back x.pieces ok.0, settings_back x.settings ok.1) refl

abbrev pub table_in : Data → ReportTable
table_in d = record { name = text_in (part 0 (items d)); rows = list_in row_in (part 1 (items d)) }

pub table_back : (x : ReportTable) → TableOfBytes x → table_in (table_value x) ≡ x
unfolding table_value
table_back x ok = rw (rows_back x.rows ok) refl

-- why a request is not replayed, of the word and the number behind it
abbrev reason_of : List ℕ → ℕ → Reason
reason_of word n =
    if bytes_eq word (codes "off") then reason.Off
    else if bytes_eq word (codes "aftercommit") then reason.AfterCommit
    else if bytes_eq word (codes "restricted") then reason.Restricted n
    else if bytes_eq word (codes "settings") then reason.Settings n
    else if bytes_eq word (codes "asked") then reason.Asked n
    else if bytes_eq word (codes "full") then reason.Full n
    else reason.StateLost n

abbrev reason_in : Data → Reason
reason_in d = reason_of (text_in (part 0 (items d))) (nat_in (part 1 (items d)))

reason_back : (why : Reason) → reason_in (reason_value why) ≡ why
unfolding reason_value
reason_back reason.Off = refl
reason_back reason.AfterCommit = refl
reason_back (reason.Restricted i) = refl
reason_back (reason.Settings i) = refl
reason_back (reason.Asked i) = refl
reason_back (reason.Full limit) = refl
reason_back (reason.StateLost i) = refl

-- an error, of its word and its parts, and none where there is no word
abbrev failed_of : List ℕ → List Data → Option Failure
failed_of word ds =
    if bytes_eq word [] then None
    else if bytes_eq word (codes "disabled") then Some (failure.Disabled (reason_in (part 1 ds)) (nat_in (part 2 ds)))
    else if bytes_eq word (codes "mismatch") then Some (failure.Mismatch (nat_in (part 1 ds)) (digits_in (part 2 ds)) (digits_in (part 3 ds)))
    else if bytes_eq word (codes "incomplete") then Some (failure.Incomplete (identifier_in (part 1 ds)))
    else if bytes_eq word (codes "retries") then Some (failure.Retries (nat_in (part 1 ds)))
    else if bytes_eq word (codes "replaytimeout") then Some (failure.ReplayTimeout (nat_in (part 1 ds)) (nat_in (part 2 ds)))
    else if bytes_eq word (codes "replays") then Some (failure.Replays (nat_in (part 1 ds)) (nat_in (part 2 ds)))
    else if bytes_eq word (codes "poolwait") then Some (failure.PoolWait (nat_in (part 1 ds)) (nat_in (part 2 ds)))
    else Some (failure.Unknown (identifier_in (part 1 ds)))

abbrev failed_in : Data → Option Failure
failed_in d = failed_of (text_in (part 0 (items d))) (items d)

failed_back : (x : Option Failure) → FailedOfBytes x → failed_in (failed_value x) ≡ x
unfolding failure_value
failed_back None ok = refl
failed_back (Some (failure.Disabled why event)) ok = ap (λ (why : Reason). Some (failure.Disabled why event)) (reason_back why)
failed_back (Some (failure.Mismatch i seen now)) ok = rw (digits_back seen ok.0, digits_back now ok.1) refl
failed_back (Some (failure.Incomplete x)) ok = refl
failed_back (Some (failure.Retries tries)) ok = refl
failed_back (Some (failure.ReplayTimeout first ready)) ok = refl
failed_back (Some (failure.Replays limit event)) ok = refl
failed_back (Some (failure.PoolWait first now)) ok = refl
failed_back (Some (failure.Unknown x)) ok = refl

abbrev shown_in : Data → ShownCall
shown_in d = record { answers = answers_in (part 0 (items d)); draws = draws_in (part 1 (items d)); ltxid = identifier_in (part 2 (items d)) }

shown_back : (x : ShownCall) → ShownOfBytes x → shown_in (shown_value x) ≡ x
unfolding shown_value
shown_back x ok = rw (answers_back x.answers ok.0, draws_back x.draws ok.1) refl

abbrev outcome_in : Data → Outcome
outcome_in d = record { ltxid = identifier_in (part 0 (items d)); committed = flag_in (part 1 (items d)); completed = flag_in (part 2 (items d)) }

outcome_back : (x : Outcome) → outcome_in (outcome_value x) ≡ x
unfolding outcome_value
outcome_back x = refl

abbrev pub identifiers_in : Data → List Ltxid
identifiers_in d = list_in identifier_in d

pub identifiers_back : (xs : List Ltxid) → identifiers_in (list_by identifier_value xs) ≡ xs
identifiers_back xs = all_back identifier_in identifier_value identifier_back xs

abbrev request_in : Data → RequestReport
request_in d = record {
  calls = list_in shown_in (value_at (codes "calls") (members_in d));
  failed = failed_in (value_at (codes "failed") (members_in d));
  outcomes = list_in outcome_in (value_at (codes "outcomes") (members_in d));
  sessions = list_in session_in (value_at (codes "sessions") (members_in d));
  tried = list_in identifiers_in (value_at (codes "tried") (members_in d));
}

request_back : (x : RequestReport) → RequestOfBytes x → request_in (request_value x) ≡ x
unfolding request_value
request_back x ok = rw (
  list_back ShownOfBytes shown_in shown_value shown_back x.calls ok.0,
  failed_back x.failed ok.1,
  all_back outcome_in outcome_value outcome_back x.outcomes,
  all_back session_in session_value session_back x.sessions,
  all_back identifiers_in (list_by identifier_value) identifiers_back x.tried,
) refl

abbrev pub transcript_in : Data → List RequestReport
transcript_in d = list_in request_in d

pub transcript_back : (xs : List RequestReport) → AllByRecursion RequestOfBytes xs → transcript_in (list_by request_value xs) ≡ xs
transcript_back xs all = list_back RequestOfBytes request_in request_value request_back xs all
