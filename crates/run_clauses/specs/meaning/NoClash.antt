-- No two answers that a run compares have one digest by chance.
use Rattle.std.specs.Prelude.{ℕ, ◌&&◌, ◌||◌, Bool, true, not, List, [], ◌∷◌, filter, flat_map}
use Rattle.std.specs.List.{list_all, list_any}
use Rattle.std.specs.Str.{bytes_eq}
use Rattle.sha2.specs.Sha256.{sha256}
use Rattle.svc_values.specs.declared.answer.Answer.{Answer}
use Rattle.svc_values.specs.declared.call.Call.{Call}
use Rattle.canon_bytes.specs.meaning.AnswerBytes.{spell_answers}
use Rattle.svc_values.specs.meaning.Same.{same_answers, same_call}
use Rattle.outage_schedule.specs.declared.document.Document.{Document}
use Rattle.outage_schedule.specs.declared.document.Request.{Request}
use Rattle.svc_values.specs.declared.entry.SessionId.{SessionId}
use Rattle.outage_schedule.specs.declared.item.Item.{Item}
use Rattle.outage_schedule.specs.declared.item.Item.TheVariants as item
use Rattle.outage_schedule.specs.declared.item.Served.{Served}
use Rattle.outage_schedule.specs.declared.request.ShownCall.{ShownCall}
use Rattle.outage_schedule.specs.declared.request.RequestReport.{RequestReport}
use Rattle.outage_schedule.specs.declared.report.Report.{Report}
use Rattle.svc_values.specs.meaning.Identifiers.{same_session}
use Rattle.run_clauses.specs.meaning.Copies.{Copies, each_copies}

-- the digest of answers, as a driver compares it
abbrev pub digest : List Answer → List ℕ
digest answers = sha256 (spell_answers answers)

-- equal digests imply equal answers
abbrev pub do_not_clash : List Answer → List Answer → Bool
do_not_clash seen now = not (bytes_eq (digest seen) (digest now)) || same_answers seen now

-- a call that was served with the replay mark, its session and its answers
pub record Replayed : Type 0 where
  pub session : SessionId
  pub call : Call
  pub answers : List Answer

abbrev pub replayed_by : SessionId → Item → List Replayed
replayed_by session (item.Call true call answers draws) = record {
  session = session;
  call = call;
  answers = answers;
} ∷ []
replayed_by session _ = []

abbrev pub replayed_in : List Served → List Replayed
replayed_in items = flat_map (λ one. replayed_by one.session one.item) items

-- those that these sessions served
abbrev pub served_by : List SessionId → List Replayed → List Replayed
served_by sessions replayed = filter (λ one. list_any (same_session one.session) sessions) replayed

-- of each one that is this call
abbrev pub answers_do_not_clash : List Replayed → Call → List Answer → Bool
answers_do_not_clash replayed call seen =
    list_all (λ one. not (same_call one.call call) || do_not_clash seen one.answers) replayed

-- the calls of a request, each with what it was shown with
abbrev pub calls_do_not_clash : List Replayed → List Call → List ShownCall → Bool
calls_do_not_clash replayed [] shown = true
calls_do_not_clash replayed (call ∷ calls) [] = true
calls_do_not_clash replayed (call ∷ calls) (first ∷ shown) =
    answers_do_not_clash replayed call first.answers && calls_do_not_clash replayed calls shown

abbrev pub request_does_not_clash : List Replayed → Request → RequestReport → Bool
request_does_not_clash replayed request copy =
    calls_do_not_clash (served_by copy.sessions replayed) request.calls copy.calls

abbrev pub copies_do_not_clash : List Replayed → Copies → Bool
copies_do_not_clash replayed copies = list_all (request_does_not_clash replayed copies.request)
    copies.reports

-- `NoClash`: for each call that was shown, and each reply to this call with the replay mark by a
-- session of its request, equal digests imply equal answers.
abbrev pub no_clash : Document → Report → Bool
no_clash document report = each_copies (copies_do_not_clash (replayed_in report.served)) document
    report
