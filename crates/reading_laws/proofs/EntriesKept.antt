-- What entries, tables, errors and requests keep to that were read.
use Rattle.std.proofs.Common.{◌≡◌, ◌==◌, List, length, true, Option, Some, None, Ok, refl, codes}
use Rattle.std.specs.Prelude.{⊤}
use Rattle.std.specs.List.{AllByRecursion, list_all}
use Rattle.serde_json.specs.Data.{Data}
use Rattle.serde_json.specs.Find.{as_null}
use Rattle.json_form.specs.meaning.Values.{bool_of}
use Rattle.json_form.specs.meaning.Texts.{head_of}
use Rattle.json_form.specs.meaning.Arrays.{fixed, part}
use Rattle.json_form.specs.meaning.Objects.{object_with, all_there, member_in}
use Rattle.json_form.proofs.Offered.{both_true}
use Rattle.json_form.specs.declared.hexadecimal.Digits.TheVariants as case
use Rattle.svc_values.specs.declared.value.Value.{Value}
use Rattle.svc_values.specs.declared.entry.Ltxid.{Ltxid}
use Rattle.svc_values.specs.declared.entry.SessionId.{SessionId}
use Rattle.svc_values.specs.declared.entry.Piece.{Piece}
use Rattle.svc_values.specs.declared.entry.Entry.{Entry}
use Rattle.outage_schedule.specs.declared.report.ReportTable.{ReportTable}
use Rattle.outage_schedule.specs.declared.failure.Reason.{Reason}
use Rattle.outage_schedule.specs.declared.failure.Reason.TheVariants as reason
use Rattle.outage_schedule.specs.declared.failure.Failure.{Failure}
use Rattle.outage_schedule.specs.declared.request.ShownCall.{ShownCall}
use Rattle.outage_schedule.specs.declared.request.Outcome.{Outcome}
use Rattle.outage_schedule.specs.declared.request.RequestReport.{RequestReport}
use Rattle.call_forms.specs.meaning.Values.{name_of}
use Rattle.entry_forms.specs.declared.failure.FailureWord.{FailureWord}
use Rattle.entry_forms.specs.declared.failure.FailureWord.TheVariants as word
use Rattle.entry_forms.specs.declared.failure.ReasonWord.{ReasonWord}
use Rattle.entry_forms.specs.declared.failure.ReasonWord.TheVariants as why
use Rattle.answer_forms.specs.meaning.Parts.{number_in, octets_in, identifier_in, identifiers_in, session_in, sessions_in, settings_in, call_in, row_in}
use Rattle.answer_forms.specs.meaning.Answers.{answers_in}
use Rattle.answer_forms.specs.meaning.Draws.{draws_in}
use Rattle.entry_forms.specs.meaning.Failures.{reason_words, number_behind, reason_by, reason_in, failure_words, disabled_in, mismatch_in, incomplete_in, retries_in, timeout_in, replays_in, wait_in, unknown_in, failure_by, failure_in, null_or_failure, failed_in}
use Rattle.entry_forms.specs.meaning.Requests.{shown_in, outcome_in, calls_in, outcomes_in, tried_in, request_members, request_in, transcript_in, clients_in}
use Rattle.entry_forms.specs.meaning.Entries.{piece_in, pieces_in, entry_members, entry_in, entries_in, table_rows_in, table_in, tables_in}
use Rattle.report_text.specs.meaning.Octets.{RowsOfBytes, PieceOfBytes, EntryOfBytes, TableOfBytes, FailedOfBytes, ShownOfBytes, RequestOfBytes, ValueOfBytes}
use Rattle.report_limits.specs.meaning.Limits.{fits_row, fits_identifier, fits_session}
use Rattle.report_limits.specs.meaning.Notes.{if_there}
use Rattle.reading_laws.specs.Reports.{fits_piece, fits_entry}
use Rattle.report_limits.specs.meaning.Reports.{fits_table}
use Rattle.report_limits.specs.meaning.Requests.{fits_reason, fits_failure, fits_shown, fits_outcome, fits_request}
use Rattle.reading_laws.proofs.IfRead.{IfRead, then_kept, any_kept, part_kept, part_then_kept, member_then_kept, list_kept, apart, all_fit, weaker}
use Rattle.reading_laws.proofs.ValuesKept.{NumberKept, number_kept, NameKept, name_kept, SizedKept, sized_kept, RowKept, row_kept, IdentifierKept, identifier_kept, SessionKept, session_kept, SettingsKept, settings_kept, AnswersKept, answers_kept, DrawsKept, draws_kept}
use Rattle.reading_laws.proofs.CallsKept.{CallKept, call_kept}

-- ---- entries and tables

abbrev PieceKept : Piece → Type 0
PieceKept x = PieceOfBytes x × (fits_piece x ≡ true)

piece_kept : (d : Data) → IfRead PieceKept (piece_in d)
unfolding piece_in
piece_kept d =
    any_kept PieceKept (fixed 3 d) _ (λ ds. part_then_kept CallKept PieceKept 0 call_in ds _ (call_kept case.Lower) (λ call c.
    part_then_kept AnswersKept PieceKept 1 answers_in ds _ answers_kept (λ answers a. part_then_kept DrawsKept PieceKept 2 draws_in ds _ draws_kept (λ draws b.
    ((c.0, (a.0, b.0)), both_true _ _ c.1 (both_true _ _ a.1 b.1))))))

abbrev PiecesKept : List Piece → Type 0
PiecesKept xs = AllByRecursion PieceOfBytes xs × (list_all fits_piece xs ≡ true)

pieces_kept : (d : Data) → IfRead PiecesKept (pieces_in d)
pieces_kept d = weaker _ PiecesKept (pieces_in d) (apart PieceOfBytes fits_piece) (list_kept PieceKept piece_in piece_kept d)

abbrev EntryKept : Entry → Type 0
EntryKept x = EntryOfBytes x × (fits_entry x ≡ true)

entry_kept : (d : Data) → IfRead EntryKept (entry_in d)
unfolding entry_in
entry_kept d =
    any_kept EntryKept (object_with entry_members d) _ (λ ms. any_kept EntryKept (all_there entry_members ms) _ (λ _.
    any_kept EntryKept (member_in (codes "completed") bool_of ms) _ (λ completed. member_then_kept IdentifierKept EntryKept (codes "ltxid") identifier_in ms _ identifier_kept (λ x h.
    member_then_kept PiecesKept EntryKept (codes "pieces") pieces_in ms _ pieces_kept (λ pieces p. member_then_kept SettingsKept EntryKept (codes "settings") settings_in ms _ settings_kept (λ settings s.
    ((p.0, s.0), both_true _ _ h (both_true _ _ s.1 p.1))))))))

abbrev pub EntriesKept : List Entry → Type 0
EntriesKept xs = AllByRecursion EntryOfBytes xs × (list_all fits_entry xs ≡ true)

pub entries_kept : (d : Data) → IfRead EntriesKept (entries_in d)
entries_kept d = weaker _ EntriesKept (entries_in d) (apart EntryOfBytes fits_entry) (list_kept EntryKept entry_in entry_kept d)

abbrev RowsKept : List (List Value) → Type 0
RowsKept rows = RowsOfBytes rows × (list_all fits_row rows ≡ true)

rows_kept : (d : Data) → IfRead RowsKept (table_rows_in d)
rows_kept d = weaker _ RowsKept (table_rows_in d) (apart (AllByRecursion ValueOfBytes) fits_row) (list_kept RowKept row_in row_kept d)

abbrev TableKept : ReportTable → Type 0
TableKept x = TableOfBytes x × (fits_table x ≡ true)

table_kept : (d : Data) → IfRead TableKept (table_in d)
unfolding table_in
table_kept d =
    any_kept TableKept (fixed 2 d) _ (λ ds. part_then_kept NameKept TableKept 0 name_of ds _ name_kept (λ name h.
    part_then_kept RowsKept TableKept 1 table_rows_in ds _ rows_kept (λ rows k. (k.0, both_true _ _ h k.1))))

abbrev pub TablesKept : List ReportTable → Type 0
TablesKept xs = AllByRecursion TableOfBytes xs × (list_all fits_table xs ≡ true)

pub tables_kept : (d : Data) → IfRead TablesKept (tables_in d)
tables_kept d = weaker _ TablesKept (tables_in d) (apart TableOfBytes fits_table) (list_kept TableKept table_in table_kept d)

-- ---- errors

abbrev ReasonKept : Reason → Type 0
ReasonKept one = fits_reason one ≡ true

behind_kept : (d : Data) → IfRead NumberKept (number_behind d)
unfolding number_behind
behind_kept d = any_kept NumberKept (fixed 2 d) _ (λ ds. part_kept NumberKept 1 number_in ds number_kept)

reason_by_kept : (w : ReasonWord) (d : Data) → IfRead ReasonKept (reason_by w d)
reason_by_kept why.Off d = any_kept ReasonKept (fixed 1 d) (λ _. Ok reason.Off) (λ _. refl)
reason_by_kept why.AfterCommit d = any_kept ReasonKept (fixed 1 d) (λ _. Ok reason.AfterCommit) (λ _. refl)
reason_by_kept why.Restricted d = then_kept NumberKept ReasonKept (number_behind d) _ (behind_kept d) (λ n h. h)
reason_by_kept why.Settings d = then_kept NumberKept ReasonKept (number_behind d) _ (behind_kept d) (λ n h. h)
reason_by_kept why.Asked d = then_kept NumberKept ReasonKept (number_behind d) _ (behind_kept d) (λ n h. h)
reason_by_kept why.Full d = then_kept NumberKept ReasonKept (number_behind d) _ (behind_kept d) (λ n h. h)
reason_by_kept why.StateLost d = then_kept NumberKept ReasonKept (number_behind d) _ (behind_kept d) (λ n h. h)

reason_kept : (d : Data) → IfRead ReasonKept (reason_in d)
unfolding reason_in
reason_kept d = any_kept ReasonKept (head_of reason_words d) _ (λ w. reason_by_kept w d)

abbrev FailedKept : Option Failure → Type 0
FailedKept o = FailedOfBytes o × (if_there fits_failure o ≡ true)

abbrev FailureKept : Failure → Type 0
FailureKept x = FailedKept (Some x)

failure_by_kept : (w : FailureWord) (d : Data) → IfRead FailureKept (failure_by w d)
unfolding disabled_in mismatch_in incomplete_in retries_in timeout_in replays_in wait_in unknown_in
failure_by_kept word.Disabled d =
    any_kept FailureKept (fixed 3 d) _ (λ ds. part_then_kept ReasonKept FailureKept 1 reason_in ds _ reason_kept (λ why h.
    part_then_kept NumberKept FailureKept 2 number_in ds _ number_kept (λ event g. (tt, both_true _ _ h g))))
failure_by_kept word.Mismatch d =
    any_kept FailureKept (fixed 4 d) _ (λ ds. part_then_kept NumberKept FailureKept 1 number_in ds _ number_kept (λ i h.
    part_then_kept (SizedKept 32) FailureKept 2 (octets_in 32) ds _ (sized_kept 32) (λ seen s. part_then_kept (SizedKept 32) FailureKept 3 (octets_in 32) ds _ (sized_kept 32) (λ now n.
    ((s.0, n.0), both_true _ _ h (both_true (length seen == 32) (length now == 32) s.1 n.1))))))
failure_by_kept word.Incomplete d = any_kept FailureKept (fixed 2 d) _ (λ ds. part_then_kept IdentifierKept FailureKept 1 identifier_in ds _ identifier_kept (λ x h. (tt, h)))
failure_by_kept word.Retries d = any_kept FailureKept (fixed 2 d) _ (λ ds. part_then_kept NumberKept FailureKept 1 number_in ds _ number_kept (λ tries h. (tt, h)))
failure_by_kept word.ReplayTimeout d =
    any_kept FailureKept (fixed 3 d) _ (λ ds. part_then_kept NumberKept FailureKept 1 number_in ds _ number_kept (λ first h.
    part_then_kept NumberKept FailureKept 2 number_in ds _ number_kept (λ ready g. (tt, both_true _ _ h g))))
failure_by_kept word.Replays d =
    any_kept FailureKept (fixed 3 d) _ (λ ds. part_then_kept NumberKept FailureKept 1 number_in ds _ number_kept (λ limit h.
    part_then_kept NumberKept FailureKept 2 number_in ds _ number_kept (λ event g. (tt, both_true _ _ h g))))
failure_by_kept word.PoolWait d =
    any_kept FailureKept (fixed 3 d) _ (λ ds. part_then_kept NumberKept FailureKept 1 number_in ds _ number_kept (λ first h.
    part_then_kept NumberKept FailureKept 2 number_in ds _ number_kept (λ now g. (tt, both_true _ _ h g))))
failure_by_kept word.Unknown d = any_kept FailureKept (fixed 2 d) _ (λ ds. part_then_kept IdentifierKept FailureKept 1 identifier_in ds _ identifier_kept (λ x h. (tt, h)))

failure_kept : (d : Data) → IfRead FailureKept (failure_in d)
unfolding failure_in
failure_kept d = any_kept FailureKept (head_of failure_words d) _ (λ w. failure_by_kept w d)

null_or_kept : (d : Data) (o : Option ⊤) → IfRead FailedKept (null_or_failure d o)
null_or_kept d (Some _) = (tt, refl)
null_or_kept d None = then_kept FailureKept FailedKept (failure_in d) (λ one. Ok (Some one)) (failure_kept d) (λ x k. k)

failed_kept : (d : Data) → IfRead FailedKept (failed_in d)
failed_kept d = null_or_kept d (as_null d)

-- ---- requests

abbrev ShownKept : ShownCall → Type 0
ShownKept x = ShownOfBytes x × (fits_shown x ≡ true)

shown_kept : (d : Data) → IfRead ShownKept (shown_in d)
unfolding shown_in
shown_kept d =
    any_kept ShownKept (fixed 3 d) _ (λ ds. part_then_kept AnswersKept ShownKept 0 answers_in ds _ answers_kept (λ answers a.
    part_then_kept DrawsKept ShownKept 1 draws_in ds _ draws_kept (λ draws b. part_then_kept IdentifierKept ShownKept 2 identifier_in ds _ identifier_kept (λ x h.
    ((a.0, b.0), both_true _ _ (both_true _ _ a.1 b.1) h)))))

abbrev OutcomeKept : Outcome → Type 0
OutcomeKept x = fits_outcome x ≡ true

outcome_kept : (d : Data) → IfRead OutcomeKept (outcome_in d)
unfolding outcome_in
outcome_kept d =
    any_kept OutcomeKept (fixed 3 d) _ (λ ds. part_then_kept IdentifierKept OutcomeKept 0 identifier_in ds _ identifier_kept (λ x h.
    any_kept OutcomeKept (part 1 bool_of ds) _ (λ committed. any_kept OutcomeKept (part 2 bool_of ds) _ (λ completed. h))))

abbrev CallsKept : List ShownCall → Type 0
CallsKept xs = AllByRecursion ShownOfBytes xs × (list_all fits_shown xs ≡ true)

calls_kept : (d : Data) → IfRead CallsKept (calls_in d)
calls_kept d = weaker _ CallsKept (calls_in d) (apart ShownOfBytes fits_shown) (list_kept ShownKept shown_in shown_kept d)

abbrev OutcomesKept : List Outcome → Type 0
OutcomesKept xs = list_all fits_outcome xs ≡ true

outcomes_kept : (d : Data) → IfRead OutcomesKept (outcomes_in d)
outcomes_kept d = weaker _ OutcomesKept (outcomes_in d) (all_fit fits_outcome) (list_kept OutcomeKept outcome_in outcome_kept d)

abbrev SessionsKept : List SessionId → Type 0
SessionsKept xs = list_all fits_session xs ≡ true

sessions_kept : (d : Data) → IfRead SessionsKept (sessions_in d)
sessions_kept d = weaker _ SessionsKept (sessions_in d) (all_fit fits_session) (list_kept SessionKept session_in session_kept d)

abbrev pub IdentifiersKept : List Ltxid → Type 0
IdentifiersKept xs = list_all fits_identifier xs ≡ true

pub identifiers_kept : (d : Data) → IfRead IdentifiersKept (identifiers_in d)
identifiers_kept d = weaker _ IdentifiersKept (identifiers_in d) (all_fit fits_identifier) (list_kept IdentifierKept identifier_in identifier_kept d)

abbrev TriedKept : List (List Ltxid) → Type 0
TriedKept xs = list_all (list_all fits_identifier) xs ≡ true

tried_kept : (d : Data) → IfRead TriedKept (tried_in d)
tried_kept d = weaker _ TriedKept (tried_in d) (all_fit (list_all fits_identifier)) (list_kept IdentifiersKept identifiers_in identifiers_kept d)

abbrev RequestKept : RequestReport → Type 0
RequestKept x = RequestOfBytes x × (fits_request x ≡ true)

request_kept : (d : Data) → IfRead RequestKept (request_in d)
unfolding request_in
request_kept d =
    any_kept RequestKept (object_with request_members d) _ (λ ms. any_kept RequestKept (all_there request_members ms) _ (λ _.
    member_then_kept CallsKept RequestKept (codes "calls") calls_in ms _ calls_kept (λ calls c. member_then_kept FailedKept RequestKept (codes "failed") failed_in ms _ failed_kept (λ failed f.
    member_then_kept OutcomesKept RequestKept (codes "outcomes") outcomes_in ms _ outcomes_kept (λ outcomes o.
    member_then_kept SessionsKept RequestKept (codes "sessions") sessions_in ms _ sessions_kept (λ sessions s. member_then_kept TriedKept RequestKept (codes "tried") tried_in ms _ tried_kept (λ tried t.
    ((c.0, f.0), both_true _ _ c.1 (both_true _ _ f.1 (both_true _ _ o (both_true _ _ s t)))))))))))

abbrev TranscriptKept : List RequestReport → Type 0
TranscriptKept xs = AllByRecursion RequestOfBytes xs × (list_all fits_request xs ≡ true)

transcript_kept : (d : Data) → IfRead TranscriptKept (transcript_in d)
transcript_kept d = weaker _ TranscriptKept (transcript_in d) (apart RequestOfBytes fits_request) (list_kept RequestKept request_in request_kept d)

abbrev pub ClientsKept : List (List RequestReport) → Type 0
ClientsKept xs = AllByRecursion (AllByRecursion RequestOfBytes) xs × (list_all (list_all fits_request) xs ≡ true)

pub clients_kept : (d : Data) → IfRead ClientsKept (clients_in d)
clients_kept d = weaker _ ClientsKept (clients_in d) (apart (AllByRecursion RequestOfBytes) (list_all fits_request)) (list_kept TranscriptKept transcript_in transcript_kept d)
