-- The failures, requests, notes and items of a report are of the form that is read back from its
-- text, and so is the whole.
use Rattle.std.proofs.Common.{ℕ, zero, suc, true, false, List, Bool, refl}
use Rattle.std.specs.Prelude.{Option, Some, None}
use Rattle.serde_json.specs.Data.{Data}
use Rattle.serde_json.specs.Read.{max_depth}
use Rattle.serde_json.specs.View.{items_of}
use Rattle.svc_values.specs.declared.entry.SessionId.{SessionId}
use Rattle.svc_values.specs.declared.entry.Ltxid.{Ltxid}
use Rattle.outage_schedule.specs.declared.failure.Reason.{Reason}
use Rattle.outage_schedule.specs.declared.failure.Reason.TheVariants as reason
use Rattle.outage_schedule.specs.declared.failure.Failure.{Failure}
use Rattle.outage_schedule.specs.declared.failure.Failure.TheVariants as failure
use Rattle.outage_schedule.specs.declared.request.ShownCall.{ShownCall}
use Rattle.outage_schedule.specs.declared.request.Outcome.{Outcome}
use Rattle.outage_schedule.specs.declared.request.RequestReport.{RequestReport}
use Rattle.outage_schedule.specs.declared.note.GoNote.{GoNote}
use Rattle.outage_schedule.specs.declared.note.GoNote.TheVariants as did
use Rattle.outage_schedule.specs.declared.note.Reached.{Reached}
use Rattle.outage_schedule.specs.declared.note.AskResult.{AskResult}
use Rattle.outage_schedule.specs.declared.note.AskResult.TheVariants as told
use Rattle.outage_schedule.specs.declared.note.NoteRun.{NoteRun}
use Rattle.outage_schedule.specs.declared.note.OutsideNote.{OutsideNote}
use Rattle.outage_schedule.specs.declared.note.Note.{Note}
use Rattle.outage_schedule.specs.declared.note.Note.TheVariants as note
use Rattle.outage_schedule.specs.declared.item.Item.{Item}
use Rattle.outage_schedule.specs.declared.item.Item.TheVariants as item
use Rattle.outage_schedule.specs.declared.item.Served.{Served}
use Rattle.outage_schedule.specs.declared.report.ReportTable.{ReportTable}
use Rattle.outage_schedule.specs.declared.report.Report.{Report}
use Rattle.json_form.specs.Forms.{IsForm, AreItems}
use Rattle.json_form.specs.meaning.Writing.{text, whole, list_by}
use Rattle.json_form.proofs.Offered.{levels, items_form}
use Rattle.report_text.specs.meaning.Values.{row_value, identifier_value, session_value}
use Rattle.report_text.specs.meaning.Entries.{entry_value, table_value}
use Rattle.report_text.specs.meaning.Failures.{reason_value, failure_value, failed_value}
use Rattle.report_text.specs.meaning.Requests.{shown_value, outcome_value, request_value}
use Rattle.report_text.specs.meaning.Notes.{did_values, reached_values, told_values, asked_values, run_value, outside_value, word_if, opened_value, note_value}
use Rattle.report_text.specs.meaning.Items.{item_value, served_value}
use Rattle.report_text.specs.meaning.Report.{report_value}
use Rattle.report_text.proofs.ReportBack.{whole_of, not_zero}
use Rattle.report_text.proofs.Forms.{row_form, settings_form, identifier_form, session_form, answers_form, draws_form, call_form, entry_form}

reason_form : (deep : ℕ) (x : Reason) → IsForm (suc deep) (reason_value x)
unfolding reason_value
reason_form deep reason.Off = (tt, tt)
reason_form deep reason.AfterCommit = (tt, tt)
reason_form deep (reason.Restricted i) = (tt, (tt, tt))
reason_form deep (reason.Settings i) = (tt, (tt, tt))
reason_form deep (reason.Asked i) = (tt, (tt, tt))
reason_form deep (reason.Full limit) = (tt, (tt, tt))
reason_form deep (reason.StateLost i) = (tt, (tt, tt))

failure_form : (deep : ℕ) (x : Failure) → IsForm (levels 2 deep) (failure_value x)
unfolding failure_value
failure_form deep (failure.Disabled why event) = (tt, (reason_form deep why, (tt, tt)))
failure_form deep (failure.Mismatch i seen now) = (tt, (tt, (tt, (tt, tt))))
failure_form deep (failure.Incomplete x) = (tt, (identifier_form deep x, tt))
failure_form deep (failure.Retries tries) = (tt, (tt, tt))
failure_form deep (failure.ReplayTimeout first ready) = (tt, (tt, (tt, tt)))
failure_form deep (failure.Replays limit event) = (tt, (tt, (tt, tt)))
failure_form deep (failure.PoolWait first now) = (tt, (tt, (tt, tt)))
failure_form deep (failure.Unknown x) = (tt, (identifier_form deep x, tt))

failed_form : (deep : ℕ) (x : Option Failure) → IsForm (levels 2 deep) (failed_value x)
failed_form deep None = tt
failed_form deep (Some error) = failure_form deep error

shown_form : (deep : ℕ) (x : ShownCall) → IsForm (levels 6 deep) (shown_value x)
unfolding shown_value
shown_form deep x = (answers_form deep x.answers, (draws_form (levels 3 deep) x.draws, (identifier_form (levels 4 deep) x.ltxid, tt)))

outcome_form : (deep : ℕ) (x : Outcome) → IsForm (levels 2 deep) (outcome_value x)
unfolding outcome_value
outcome_form deep x = (identifier_form deep x.ltxid, (tt, (tt, tt)))

identifiers_form : (deep : ℕ) (xs : List Ltxid) → IsForm (levels 2 deep) (list_by identifier_value xs)
identifiers_form deep xs = items_form (suc deep) identifier_value (identifier_form deep) xs

request_form : (deep : ℕ) (x : RequestReport) → IsForm (levels 8 deep) (request_value x)
unfolding request_value
request_form deep x = (
  refl,
  (
    items_form (levels 6 deep) shown_value (shown_form deep) x.calls,
    (
      failed_form (levels 5 deep) x.failed,
      (
        items_form (levels 6 deep) outcome_value (outcome_form (levels 4 deep)) x.outcomes,
        (
          items_form (levels 6 deep) session_value (session_form (levels 5 deep)) x.sessions,
          (
            items_form (levels 6 deep) (list_by identifier_value) (identifiers_form (levels 4 deep)) x.tried,
            tt,
          ),
        ),
      ),
    ),
  ),
)

requests_form : (deep : ℕ) (xs : List RequestReport) → IsForm (levels 9 deep) (list_by request_value xs)
requests_form deep xs = items_form (levels 8 deep) request_value (request_form deep) xs

did_form : (deep : ℕ) (step : GoNote) → AreItems deep (items_of (did_values step))
did_form deep did.Idle = (tt, tt)
did_form deep did.Wait = (tt, tt)
did_form deep did.NoFrame = (tt, tt)
did_form deep did.Early = (tt, tt)
did_form deep did.Down = (tt, tt)
did_form deep (did.Open k) = (tt, (tt, (tt, tt)))
did_form deep (did.Lent k) = (tt, (tt, (tt, tt)))
did_form deep (did.Took k sent) = (tt, (tt, (tt, tt)))
did_form deep (did.Lost k) = (tt, (tt, tt))

reached_form : (deep : ℕ) (bytes : Option Reached) → AreItems deep (items_of (reached_values bytes))
reached_form deep None = (tt, tt)
reached_form deep (Some bytes) = (tt, (tt, tt))

told_form : (deep : ℕ) (result : AskResult) → AreItems deep (items_of (told_values result))
told_form deep (told.Committed completed) = (tt, (tt, tt))
told_form deep told.Uncommitted = (tt, tt)
told_form deep (told.ServerAhead next) = (tt, (tt, tt))
told_form deep (told.ClientAhead next) = (tt, (tt, tt))
told_form deep (told.Forgotten horizon) = (tt, (tt, tt))

asked_form : (deep : ℕ) (result : Option AskResult) → AreItems deep (items_of (asked_values result))
asked_form deep None = (tt, tt)
asked_form deep (Some result) = told_form deep result

run_form : (deep : ℕ) (x : NoteRun) → IsForm (levels 6 deep) (run_value x)
unfolding run_value
run_form deep x = (answers_form deep x.answers, (draws_form (levels 3 deep) x.draws, tt))

outside_form : (deep : ℕ) (ran : Option OutsideNote) → IsForm (levels 8 deep) (outside_value ran)
outside_form deep None = (tt, (tt, tt))
outside_form deep (Some ran) = (tt, (identifier_form (levels 6 deep) ran.ltxid, (items_form (levels 6 deep) run_value (run_form deep) ran.runs, tt)))

word_form : (deep : ℕ) (holds : Bool) (word : List ℕ) → AreItems deep (items_of (word_if holds word))
word_form deep true word = (tt, tt)
word_form deep false word = tt

opened_form : (deep : ℕ) (incarnation : Option ℕ) → IsForm deep (opened_value incarnation)
opened_form deep None = tt
opened_form deep (Some incarnation) = tt

note_form : (deep : ℕ) (x : Note) → IsForm (levels 8 deep) (note_value x)
unfolding note_value
note_form deep (note.Go client step) = (tt, (tt, did_form _ step))
note_form deep (note.Serve k name) = (tt, (tt, (tt, tt)))
note_form deep (note.Cut k bytes) = (tt, (tt, reached_form _ bytes))
note_form deep (note.Reap k reaped) = (tt, (tt, word_form _ _ _))
note_form deep (note.Crash k down) = (tt, (tt, word_form _ down _))
note_form deep (note.Up incarnation) = (tt, (opened_form _ incarnation, tt))
note_form deep (note.UpCrash made) = (tt, word_form _ _ _)
note_form deep note.Tick = (tt, tt)
note_form deep (note.Outside ran) = outside_form deep ran
note_form deep (note.Ask x result) = (tt, (identifier_form (levels 6 deep) x, asked_form _ result))
note_form deep (note.Drain closed) = (tt, (tt, tt))

item_form : (deep event : ℕ) (s : SessionId) (x : Item) → IsForm (levels 6 deep) (item_value (whole event) (session_value s) x)
unfolding item_value
item_form deep event s item.Connect = (tt, (tt, (session_form (levels 4 deep) s, tt)))
item_form deep event s (item.Begin settings) = (tt, (tt, (session_form (levels 4 deep) s, (settings_form (levels 2 deep) settings, tt))))
item_form deep event s (item.Call replay call answers draws) = (tt, (tt, (session_form (levels 4 deep) s, (tt, (call_form (suc deep) call, (answers_form deep answers, (draws_form (levels 3 deep) draws, tt)))))))
item_form deep event s (item.Blocked call) = (tt, (tt, (session_form (levels 4 deep) s, (call_form (suc deep) call, tt))))
item_form deep event s (item.Outcome x result) = (tt, (tt, (session_form (levels 4 deep) s, (identifier_form (levels 4 deep) x, told_form _ result))))
item_form deep event s item.End = (tt, (tt, (session_form (levels 4 deep) s, tt)))
item_form deep event s item.Close = (tt, (tt, (session_form (levels 4 deep) s, tt)))
item_form deep event s (item.Refused cause) = (tt, (tt, (session_form (levels 4 deep) s, (tt, tt))))
item_form deep event s (item.CrashedCall replay call) = (tt, (tt, (session_form (levels 4 deep) s, (tt, (call_form (suc deep) call, tt)))))
item_form deep event s (item.CrashedOutcome x) = (tt, (tt, (session_form (levels 4 deep) s, (identifier_form (levels 4 deep) x, tt))))

served_form : (deep : ℕ) (x : Served) → IsForm (levels 6 deep) (served_value x)
served_form deep x = item_form deep x.event x.session x.item

table_form : (deep : ℕ) (x : ReportTable) → IsForm (levels 4 deep) (table_value x)
unfolding table_value
table_form deep x = (tt, (items_form (levels 2 deep) row_value (row_form deep) x.rows, tt))

-- the whole, with and without the members that are not always there
whole_form : (deep : ℕ) (alerts blocked clients entries : Data) (horizon : ℕ) (image : Option (List ℕ)) (notes served tables : Data)
    → IsForm deep alerts × IsForm deep blocked × IsForm deep clients × IsForm deep entries → IsForm deep notes × IsForm deep served × IsForm deep tables
    → IsForm (suc deep) (whole_of alerts blocked clients entries horizon image notes served tables)
whole_form deep alerts blocked clients entries zero None notes served tables before behind =
    (refl, (before.0, (before.1, (before.2, (before.3, (behind.0, (behind.1, (behind.2, tt))))))))
whole_form deep alerts blocked clients entries zero (Some bytes) notes served tables before behind =
    (refl, (before.0, (before.1, (before.2, (before.3, (tt, (behind.0, (behind.1, (behind.2, tt)))))))))
whole_form deep alerts blocked clients entries (suc n) None notes served tables before behind =
    rw (not_zero n) (refl, (before.0, (before.1, (before.2, (before.3, (tt, (behind.0, (behind.1, (behind.2, tt)))))))))
whole_form deep alerts blocked clients entries (suc n) (Some bytes) notes served tables before behind =
    rw (not_zero n) (refl, (before.0, (before.1, (before.2, (before.3, (tt, (tt, (behind.0, (behind.1, (behind.2, tt))))))))))

pub report_form : (r : Report) → IsForm max_depth (report_value r)
unfolding report_value
report_form r =
    whole_form 126 (list_by text r.alerts) (list_by identifier_value r.blocked) (list_by (list_by request_value) r.clients) (list_by entry_value r.entries) r.forgotten r.image (list_by note_value r.notes) (list_by served_value r.served) (list_by table_value r.tables)
    (items_form 125 text (λ line. tt) r.alerts, identifiers_form 124 r.blocked, items_form 125 (list_by request_value) (requests_form 116) r.clients, items_form 125 entry_value (entry_form 117) r.entries)
    (items_form 125 note_value (note_form 117) r.notes, items_form 125 served_value (served_form 119) r.served, items_form 125 table_value (table_form 121) r.tables)
