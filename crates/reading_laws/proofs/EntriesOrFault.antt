-- Of entries, tables, errors and what requests were shown nothing else is read than what was
-- written.
use Rattle.std.proofs.Common.{List, [], ◌∷◌, ◌++◌, map, length, Option, Some, None, Ok, refl, sym, subst, decimal, append_assoc, append-nil}
use Rattle.serde_json.specs.View.{items_of}
use Rattle.json_form.specs.meaning.Arrays.{each_after}
use Rattle.json_form.specs.meaning.Objects.{required}
use Rattle.json_form.specs.meaning.Writing.{list_by}
use Rattle.svc_values.specs.declared.value.Value.{Value}
use Rattle.svc_values.specs.declared.entry.Ltxid.{Ltxid}
use Rattle.svc_values.specs.declared.entry.SessionId.{SessionId}
use Rattle.svc_values.specs.declared.entry.Piece.{Piece}
use Rattle.svc_values.specs.declared.entry.Entry.{Entry}
use Rattle.outage_schedule.specs.declared.report.ReportTable.{ReportTable}
use Rattle.outage_schedule.specs.declared.failure.Reason.{Reason}
use Rattle.outage_schedule.specs.declared.failure.Reason.TheVariants as reason
use Rattle.outage_schedule.specs.declared.failure.Failure.{Failure}
use Rattle.outage_schedule.specs.declared.failure.Failure.TheVariants as failure
use Rattle.outage_schedule.specs.declared.request.ShownCall.{ShownCall}
use Rattle.outage_schedule.specs.declared.request.Outcome.{Outcome}
use Rattle.outage_schedule.specs.declared.request.RequestReport.{RequestReport}
use Rattle.answer_forms.specs.meaning.Parts.{identifier_in, identifiers_in, session_in, sessions_in, row_in}
use Rattle.entry_forms.specs.meaning.Failures.{number_behind, reason_in, disabled_in, mismatch_in, incomplete_in, retries_in, timeout_in, replays_in, wait_in, unknown_in, failure_in, failed_in}
use Rattle.entry_forms.specs.meaning.Requests.{shown_in, outcome_in, calls_in, outcomes_in, tried_in, request_in, transcript_in, clients_in}
use Rattle.entry_forms.specs.meaning.Entries.{piece_in, pieces_in, entry_in, entries_in, table_rows_in, table_in, tables_in}
use Rattle.report_text.specs.meaning.Values.{identifier_value, session_value, row_value}
use Rattle.report_text.specs.meaning.Entries.{piece_value, entry_value, table_value}
use Rattle.report_text.specs.meaning.Failures.{reason_value, failure_value, failed_value}
use Rattle.report_text.specs.meaning.Requests.{shown_value, outcome_value, request_value}
use Rattle.report_text.specs.Laws.{shown_entry}
use Rattle.reading_laws.proofs.EntriesBack.{no_null}
use Rattle.reading_laws.proofs.ValuesOrFault.{number_so, sized_so, name_so, row_so, settings_so, identifier_so, session_so, answers_so, draws_so}
use Rattle.reading_laws.proofs.CallsOrFault.{call_so}
use Rattle.reading_laws.proofs.OrFault.{OrFault, and_then, within_then, part_so, part_then, member_then, list_so}

-- ---- entries

piece_so : (x : Piece) → OrFault x (piece_in (piece_value x))
unfolding piece_value piece_in
piece_so x =
    part_then _ _ _ _ _ x.call _ refl (call_so x.call)
    (part_then _ _ _ _ _ x.answers _ refl (answers_so x.answers) (part_then _ _ _ _ _ x.draws _ refl (draws_so x.draws) refl))

pieces_so : (xs : List Piece) → OrFault xs (pieces_in (list_by piece_value xs))
pieces_so xs = list_so piece_in piece_value piece_so xs

entry_so : (x : Entry) → OrFault (shown_entry x) (entry_in (entry_value x))
unfolding entry_value entry_in required
entry_so x =
    member_then _ _ _ _ _ x.completed _ refl refl (member_then _ _ _ _ _ x.ltxid _ refl (identifier_so x.ltxid)
    (member_then _ _ _ _ _ x.pieces _ refl (pieces_so x.pieces) (member_then _ _ _ _ _ x.settings _ refl (settings_so x.settings) refl)))

-- the entries that are left, behind those that were read
entries_rest : (before rest : List Entry) → OrFault (before ++ map shown_entry rest) (each_after (λ _. entry_in) before (items_of (map entry_value rest)))
entries_rest before [] = sym (append-nil before)
entries_rest before (x ∷ rest) =
    within_then (decimal (length before)) (entry_in (entry_value x)) (λ y. each_after (λ _. entry_in) (before ++ y ∷ []) (items_of (map entry_value rest)))
    (shown_entry x) (before ++ map shown_entry (x ∷ rest)) (entry_so x)
    (subst (λ l. OrFault l (each_after (λ _. entry_in) (before ++ shown_entry x ∷ []) (items_of (map entry_value rest)))) (append_assoc before (shown_entry x ∷ []) (map shown_entry rest))
    (entries_rest (before ++ shown_entry x ∷ []) rest))

pub entries_so : (xs : List Entry) → OrFault (map shown_entry xs) (entries_in (list_by entry_value xs))
entries_so xs = entries_rest [] xs

-- ---- tables

table_rows_so : (rows : List (List Value)) → OrFault rows (table_rows_in (list_by row_value rows))
table_rows_so rows = list_so row_in row_value row_so rows

table_so : (x : ReportTable) → OrFault x (table_in (table_value x))
unfolding table_value table_in
table_so x = part_then _ _ _ _ _ _ _ refl (name_so x.name) (part_then _ _ _ _ _ x.rows _ refl (table_rows_so x.rows) refl)

pub tables_so : (xs : List ReportTable) → OrFault xs (tables_in (list_by table_value xs))
tables_so xs = list_so table_in table_value table_so xs

-- ---- errors

reason_so : (why : Reason) → OrFault why (reason_in (reason_value why))
unfolding reason_value reason_in number_behind
reason_so reason.Off = refl
reason_so reason.AfterCommit = refl
reason_so (reason.Restricted i) = and_then _ _ i _ (part_so _ _ _ _ _ refl (number_so i)) refl
reason_so (reason.Settings i) = and_then _ _ i _ (part_so _ _ _ _ _ refl (number_so i)) refl
reason_so (reason.Asked i) = and_then _ _ i _ (part_so _ _ _ _ _ refl (number_so i)) refl
reason_so (reason.Full limit) = and_then _ _ limit _ (part_so _ _ _ _ _ refl (number_so limit)) refl
reason_so (reason.StateLost i) = and_then _ _ i _ (part_so _ _ _ _ _ refl (number_so i)) refl

failure_so : (x : Failure) → OrFault x (failure_in (failure_value x))
unfolding failure_value failure_in disabled_in mismatch_in incomplete_in retries_in timeout_in replays_in wait_in unknown_in
failure_so (failure.Disabled why event) = part_then _ _ _ _ _ why _ refl (reason_so why) (part_then _ _ _ _ _ _ _ refl (number_so event) refl)
failure_so (failure.Mismatch i seen now) =
    part_then _ _ _ _ _ _ _ refl (number_so i) (part_then _ _ _ _ _ seen _ refl (sized_so 32 seen) (part_then _ _ _ _ _ now _ refl (sized_so 32 now) refl))
failure_so (failure.Incomplete x) = part_then _ _ _ _ _ _ _ refl (identifier_so x) refl
failure_so (failure.Retries tries) = part_then _ _ _ _ _ _ _ refl (number_so tries) refl
failure_so (failure.ReplayTimeout first ready) = part_then _ _ _ _ _ _ _ refl (number_so first) (part_then _ _ _ _ _ _ _ refl (number_so ready) refl)
failure_so (failure.Replays limit event) = part_then _ _ _ _ _ _ _ refl (number_so limit) (part_then _ _ _ _ _ _ _ refl (number_so event) refl)
failure_so (failure.PoolWait first now) = part_then _ _ _ _ _ _ _ refl (number_so first) (part_then _ _ _ _ _ _ _ refl (number_so now) refl)
failure_so (failure.Unknown x) = part_then _ _ _ _ _ _ _ refl (identifier_so x) refl

failed_so : (x : Option Failure) → OrFault x (failed_in (failed_value x))
failed_so None = refl
failed_so (Some error) = rw (no_null error) (and_then (failure_in (failure_value error)) (λ one. Ok (Some one)) error (Some error) (failure_so error) refl)

-- ---- requests

shown_so : (x : ShownCall) → OrFault x (shown_in (shown_value x))
unfolding shown_value shown_in
shown_so x =
    part_then _ _ _ _ _ x.answers _ refl (answers_so x.answers)
    (part_then _ _ _ _ _ x.draws _ refl (draws_so x.draws) (part_then _ _ _ _ _ _ _ refl (identifier_so x.ltxid) refl))

outcome_so : (x : Outcome) → OrFault x (outcome_in (outcome_value x))
unfolding outcome_value outcome_in
outcome_so x = part_then _ _ _ _ _ _ _ refl (identifier_so x.ltxid) (part_then _ _ _ _ _ x.committed _ refl refl (part_then _ _ _ _ _ x.completed _ refl refl refl))

pub identifiers_so : (xs : List Ltxid) → OrFault xs (identifiers_in (list_by identifier_value xs))
identifiers_so xs = list_so identifier_in identifier_value identifier_so xs

calls_so : (xs : List ShownCall) → OrFault xs (calls_in (list_by shown_value xs))
calls_so xs = list_so shown_in shown_value shown_so xs

outcomes_so : (xs : List Outcome) → OrFault xs (outcomes_in (list_by outcome_value xs))
outcomes_so xs = list_so outcome_in outcome_value outcome_so xs

sessions_so : (xs : List SessionId) → OrFault xs (sessions_in (list_by session_value xs))
sessions_so xs = list_so session_in session_value session_so xs

tried_so : (xs : List (List Ltxid)) → OrFault xs (tried_in (list_by (list_by identifier_value) xs))
tried_so xs = list_so identifiers_in (list_by identifier_value) identifiers_so xs

request_so : (x : RequestReport) → OrFault x (request_in (request_value x))
unfolding request_value request_in required
request_so x =
    member_then _ _ _ _ _ x.calls _ refl (calls_so x.calls) (member_then _ _ _ _ _ x.failed _ refl (failed_so x.failed)
    (member_then _ _ _ _ _ x.outcomes _ refl (outcomes_so x.outcomes) (member_then _ _ _ _ _ x.sessions _ refl (sessions_so x.sessions)
    (member_then _ _ _ _ _ x.tried _ refl (tried_so x.tried) refl))))

transcript_so : (xs : List RequestReport) → OrFault xs (transcript_in (list_by request_value xs))
transcript_so xs = list_so request_in request_value request_so xs

pub clients_so : (xs : List (List RequestReport)) → OrFault xs (clients_in (list_by (list_by request_value) xs))
clients_so xs = list_so transcript_in (list_by request_value) transcript_so xs
