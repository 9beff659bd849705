-- Entries without their writes, tables, errors and what requests were shown are read of what is
-- written of them.
use Rattle.std.proofs.Common.{◌≡◌, ◌==◌, ◌&&◌, List, [], ◌∷◌, ◌++◌, map, length, true, Option, Some, None, Ok, refl, sym, ap, ◌∙◌, append_assoc, append-nil}
use Rattle.std.specs.List.{AllByRecursion, list_all}
use Rattle.serde_json.specs.Find.{as_null}
use Rattle.serde_json.specs.View.{items_of}
use Rattle.json_form.specs.meaning.Arrays.{each_after, part}
use Rattle.json_form.specs.meaning.Objects.{required, member_in}
use Rattle.json_form.specs.meaning.Writing.{list_by}
use Rattle.json_form.proofs.Offered.{first_true, second_true}
use Rattle.svc_values.specs.declared.value.Value.{Value}
use Rattle.svc_values.specs.declared.entry.Ltxid.{Ltxid}
use Rattle.svc_values.specs.declared.entry.SessionId.{SessionId}
use Rattle.svc_values.specs.declared.entry.Piece.{Piece}
use Rattle.svc_values.specs.declared.entry.Entry.{Entry}
use Rattle.svc_values.specs.meaning.Calls.{is_made}
use Rattle.outage_schedule.specs.declared.report.ReportTable.{ReportTable}
use Rattle.outage_schedule.specs.declared.failure.Reason.{Reason}
use Rattle.outage_schedule.specs.declared.failure.Reason.TheVariants as reason
use Rattle.outage_schedule.specs.declared.failure.Failure.{Failure}
use Rattle.outage_schedule.specs.declared.failure.Failure.TheVariants as failure
use Rattle.outage_schedule.specs.declared.request.ShownCall.{ShownCall}
use Rattle.outage_schedule.specs.declared.request.Outcome.{Outcome}
use Rattle.outage_schedule.specs.declared.request.RequestReport.{RequestReport}
use Rattle.answer_forms.specs.meaning.Parts.{identifier_in, identifiers_in, session_in, sessions_in, row_in}
use Rattle.entry_forms.specs.meaning.Failures.{number_behind, reason_in, disabled_in, mismatch_in, incomplete_in, retries_in, timeout_in, replays_in, wait_in, unknown_in, failure_in, failed_in}
use Rattle.entry_forms.specs.meaning.Requests.{shown_in, outcome_in, calls_in, outcomes_in, tried_in, request_in, transcript_in, clients_in}
use Rattle.entry_forms.specs.meaning.Entries.{piece_in, pieces_in, entry_in, entries_in, table_rows_in, table_in, tables_in}
use Rattle.told_reports.specs.Keeping.{is_entry}
use Rattle.report_text.specs.meaning.Values.{identifier_value, session_value, row_value}
use Rattle.report_text.specs.meaning.Entries.{piece_value, entry_value, table_value}
use Rattle.report_text.specs.meaning.Failures.{reason_value, failure_value, failed_value}
use Rattle.report_text.specs.meaning.Requests.{shown_value, outcome_value, request_value}
use Rattle.report_text.specs.meaning.Octets.{ValueOfBytes, RowsOfBytes, PieceOfBytes, EntryOfBytes, TableOfBytes, FailedOfBytes, ShownOfBytes, RequestOfBytes}
use Rattle.report_text.specs.Laws.{shown_entry}
use Rattle.report_limits.specs.meaning.Limits.{fits_u64, fits_row, fits_identifier, fits_session, fits_settings, fits_replies}
use Rattle.reading_laws.specs.Calls.{fits_call}
use Rattle.report_limits.specs.meaning.Notes.{if_there}
use Rattle.reading_laws.specs.Reports.{fits_piece, fits_entry}
use Rattle.report_limits.specs.meaning.Reports.{fits_table}
use Rattle.report_limits.specs.meaning.Requests.{fits_reason, fits_failure, fits_shown, fits_outcome, fits_request}
use Rattle.reading_laws.proofs.ListsBack.{number_back, octets_back, list_back, plain_back, joined, both_of}
use Rattle.reading_laws.proofs.ValuesBack.{name_back, row_back, settings_back, identifier_back, session_back, answers_back, draws_back}
use Rattle.reading_laws.proofs.CallsBack.{call_back}

-- ---- entries

abbrev MadePiece : Piece → Type 0
MadePiece x = PieceOfBytes x × (is_made x.call ≡ true)

piece_back : (x : Piece) → MadePiece x → fits_piece x ≡ true → piece_in (piece_value x) ≡ Ok x
unfolding piece_value piece_in part
piece_back x ok fits =
    let replies = second_true (fits_call x.call) (fits_replies x.answers x.draws) fits in
    let fits_parts = both_of _ _ fits in
    let replies_parts = both_of _ _ replies in
    rw (call_back x.call ok.0.0 fits_parts.0 ok.1, answers_back x.answers ok.0.1.0 replies_parts.0, draws_back x.draws ok.0.1.1 replies_parts.1) refl

pieces_back : (xs : List Piece) → AllByRecursion PieceOfBytes xs → list_all fits_piece xs ≡ true → list_all (λ (x : Piece). is_made x.call) xs ≡ true
    → pieces_in (list_by piece_value xs) ≡ Ok xs
pieces_back xs ok fits made = list_back MadePiece fits_piece piece_in piece_value piece_back xs (joined PieceOfBytes (λ (x : Piece). is_made x.call) xs ok made) fits

entry_back : (x : Entry) → EntryOfBytes x → fits_entry x ≡ true → is_entry x ≡ true → entry_in (entry_value x) ≡ Ok (shown_entry x)
unfolding entry_value entry_in member_in required
entry_back x ok fits kept =
    let rest = second_true (fits_identifier x.ltxid) (fits_settings x.settings && list_all fits_piece x.pieces) fits in
    let fits_parts = both_of _ _ fits in
    let rest_parts = both_of _ _ rest in
    let kept_parts = both_of _ _ kept in
    rw (
      identifier_back x.ltxid fits_parts.0,
      pieces_back x.pieces ok.0 rest_parts.1 kept_parts.1,
      settings_back x.settings ok.1 rest_parts.0 kept_parts.0,
    ) refl

-- the entries that are left, behind those that were read
entries_rest : (before rest : List Entry) → AllByRecursion EntryOfBytes rest → list_all fits_entry rest ≡ true → list_all is_entry rest ≡ true
    → each_after (λ _. entry_in) before (items_of (map entry_value rest)) ≡ Ok (before ++ map shown_entry rest)
entries_rest before [] ok fits kept = ap Ok (sym (append-nil before))
entries_rest before (x ∷ rest) ok fits kept =
    let fits_parts = both_of _ _ fits in
    let kept_parts = both_of _ _ kept in
    rw (entry_back x ok.0 fits_parts.0 kept_parts.0)
    (entries_rest (before ++ shown_entry x ∷ []) rest ok.1 (second_true _ _ fits) (second_true _ _ kept) ∙ ap Ok (append_assoc before (shown_entry x ∷ []) (map shown_entry rest)))

pub entries_back : (xs : List Entry) → AllByRecursion EntryOfBytes xs → list_all fits_entry xs ≡ true → list_all is_entry xs ≡ true
    → entries_in (list_by entry_value xs) ≡ Ok (map shown_entry xs)
entries_back xs ok fits kept = entries_rest [] xs ok fits kept

-- ---- tables

table_rows_back : (rows : List (List Value)) → RowsOfBytes rows → list_all fits_row rows ≡ true → table_rows_in (list_by row_value rows) ≡ Ok rows
table_rows_back rows ok fits = list_back (AllByRecursion ValueOfBytes) fits_row row_in row_value row_back rows ok fits

table_back : (x : ReportTable) → TableOfBytes x → fits_table x ≡ true → table_in (table_value x) ≡ Ok x
unfolding table_value table_in part
table_back x ok fits =
    let fits_parts = both_of _ _ fits in
    rw (name_back x.name fits_parts.0, table_rows_back x.rows ok fits_parts.1) refl

pub tables_back : (xs : List ReportTable) → AllByRecursion TableOfBytes xs → list_all fits_table xs ≡ true → tables_in (list_by table_value xs) ≡ Ok xs
tables_back xs ok fits = list_back TableOfBytes fits_table table_in table_value table_back xs ok fits

-- ---- errors

reason_back : (why : Reason) → fits_reason why ≡ true → reason_in (reason_value why) ≡ Ok why
unfolding reason_value reason_in number_behind part
reason_back reason.Off fits = refl
reason_back reason.AfterCommit fits = refl
reason_back (reason.Restricted i) fits = rw (number_back i fits) refl
reason_back (reason.Settings i) fits = rw (number_back i fits) refl
reason_back (reason.Asked i) fits = rw (number_back i fits) refl
reason_back (reason.Full limit) fits = rw (number_back limit fits) refl
reason_back (reason.StateLost i) fits = rw (number_back i fits) refl

failure_back : (x : Failure) → FailedOfBytes (Some x) → fits_failure x ≡ true → failure_in (failure_value x) ≡ Ok x
unfolding failure_value failure_in disabled_in mismatch_in incomplete_in retries_in timeout_in replays_in wait_in unknown_in part
failure_back (failure.Disabled why event) ok fits =
    let fits_parts = both_of _ _ fits in
    rw (reason_back why fits_parts.0, number_back event fits_parts.1) refl
failure_back (failure.Mismatch i seen now) ok fits =
    let long = second_true (fits_u64 i) ((length seen == 32) && (length now == 32)) fits in
    let fits_parts = both_of _ _ fits in
    let long_parts = both_of (length seen == 32) (length now == 32) long in
    rw (number_back i fits_parts.0, octets_back seen ok.0, long_parts.0, octets_back now ok.1, long_parts.1) refl
failure_back (failure.Incomplete x) ok fits = rw (identifier_back x fits) refl
failure_back (failure.Retries tries) ok fits = rw (number_back tries fits) refl
failure_back (failure.ReplayTimeout first ready) ok fits =
    let fits_parts = both_of _ _ fits in
    rw (number_back first fits_parts.0, number_back ready fits_parts.1) refl
failure_back (failure.Replays limit event) ok fits =
    let fits_parts = both_of _ _ fits in
    rw (number_back limit fits_parts.0, number_back event fits_parts.1) refl
failure_back (failure.PoolWait first now) ok fits =
    let fits_parts = both_of _ _ fits in
    rw (number_back first fits_parts.0, number_back now fits_parts.1) refl
failure_back (failure.Unknown x) ok fits = rw (identifier_back x fits) refl

pub no_null : (x : Failure) → as_null (failure_value x) ≡ None
unfolding failure_value
no_null (failure.Disabled why event) = refl
no_null (failure.Mismatch i seen now) = refl
no_null (failure.Incomplete x) = refl
no_null (failure.Retries tries) = refl
no_null (failure.ReplayTimeout first ready) = refl
no_null (failure.Replays limit event) = refl
no_null (failure.PoolWait first now) = refl
no_null (failure.Unknown x) = refl

failed_back : (x : Option Failure) → FailedOfBytes x → if_there fits_failure x ≡ true → failed_in (failed_value x) ≡ Ok x
failed_back None ok fits = refl
failed_back (Some error) ok fits = rw (no_null error, failure_back error ok fits) refl

-- ---- requests

shown_back : (x : ShownCall) → ShownOfBytes x → fits_shown x ≡ true → shown_in (shown_value x) ≡ Ok x
unfolding shown_value shown_in part
shown_back x ok fits =
    let replies = first_true (fits_replies x.answers x.draws) (fits_identifier x.ltxid) fits in
    let replies_parts = both_of _ _ replies in
    let fits_parts = both_of _ _ fits in
    rw (answers_back x.answers ok.0 replies_parts.0, draws_back x.draws ok.1 replies_parts.1, identifier_back x.ltxid fits_parts.1) refl

outcome_back : (x : Outcome) → fits_outcome x ≡ true → outcome_in (outcome_value x) ≡ Ok x
unfolding outcome_value outcome_in part
outcome_back x fits = rw (identifier_back x.ltxid fits) refl

pub identifiers_back : (xs : List Ltxid) → list_all fits_identifier xs ≡ true → identifiers_in (list_by identifier_value xs) ≡ Ok xs
identifiers_back xs fits = plain_back fits_identifier identifier_in identifier_value identifier_back xs fits

calls_back : (xs : List ShownCall) → AllByRecursion ShownOfBytes xs → list_all fits_shown xs ≡ true → calls_in (list_by shown_value xs) ≡ Ok xs
calls_back xs ok fits = list_back ShownOfBytes fits_shown shown_in shown_value shown_back xs ok fits

outcomes_back : (xs : List Outcome) → list_all fits_outcome xs ≡ true → outcomes_in (list_by outcome_value xs) ≡ Ok xs
outcomes_back xs fits = plain_back fits_outcome outcome_in outcome_value outcome_back xs fits

sessions_back : (xs : List SessionId) → list_all fits_session xs ≡ true → sessions_in (list_by session_value xs) ≡ Ok xs
sessions_back xs fits = plain_back fits_session session_in session_value session_back xs fits

tried_back : (xs : List (List Ltxid)) → list_all (list_all fits_identifier) xs ≡ true → tried_in (list_by (list_by identifier_value) xs) ≡ Ok xs
tried_back xs fits = plain_back (list_all fits_identifier) identifiers_in (list_by identifier_value) identifiers_back xs fits

request_back : (x : RequestReport) → RequestOfBytes x → fits_request x ≡ true → request_in (request_value x) ≡ Ok x
unfolding request_value request_in member_in required
request_back x ok fits =
    let second = second_true (list_all fits_shown x.calls) _ fits in
    let third = second_true (if_there fits_failure x.failed) _ second in
    let fourth = second_true (list_all fits_outcome x.outcomes) _ third in
    let fits_parts = both_of _ _ fits in
    let second_parts = both_of _ _ second in
    let third_parts = both_of _ _ third in
    let fourth_parts = both_of _ _ fourth in
    rw (
      calls_back x.calls ok.0 fits_parts.0,
      failed_back x.failed ok.1 second_parts.0,
      outcomes_back x.outcomes third_parts.0,
      sessions_back x.sessions fourth_parts.0,
      tried_back x.tried fourth_parts.1,
    ) refl

transcript_back : (xs : List RequestReport) → AllByRecursion RequestOfBytes xs → list_all fits_request xs ≡ true → transcript_in (list_by request_value xs) ≡ Ok xs
transcript_back xs ok fits = list_back RequestOfBytes fits_request request_in request_value request_back xs ok fits

pub clients_back : (xs : List (List RequestReport)) → AllByRecursion (AllByRecursion RequestOfBytes) xs → list_all (list_all fits_request) xs ≡ true
    → clients_in (list_by (list_by request_value) xs) ≡ Ok xs
clients_back xs ok fits = list_back (AllByRecursion RequestOfBytes) (list_all fits_request) transcript_in (list_by request_value) transcript_back xs ok fits
