-- How many entries a session had stored by an event of a run: as many as it had answered Committed,
-- where it answered a frame in that event.
use Rattle.std.specs.Prelude.{ℕ, ◌==◌, ◌&&◌, Bool, true, IsTrue, List, [], ◌∷◌, ◌++◌, is_some}
use Rattle.std.specs.List.{list_all}
use Rattle.svc_values.specs.declared.entry.SessionId.{SessionId}
use Rattle.outage_schedule.specs.declared.document.Document.{Document}
use Rattle.outage_schedule.specs.declared.event.Event.{Event}
use Rattle.outage_schedule.specs.declared.item.Served.{Served}
use Rattle.outage_schedule.specs.declared.note.Note.{Note}
use Rattle.outage_schedule.specs.declared.report.Report.{Report}
use Rattle.run_clauses.specs.meaning.Before.{journal_before}
use Rattle.run_clauses.specs.meaning.EntryEvents.{stored_entries, stored_up_to}
use Rattle.server_model.specs.Runs.{Server}
use Rattle.server_model.specs.Seen.{Seen}
use Rattle.world_model.specs.meaning.Finishing.{Place}
use Rattle.world_model.specs.meaning.Frames.{Handled}
use Rattle.world_model.specs.OneEvent.{OneEvent}
use Rattle.world_model.specs.Parts.{implies}
use Rattle.world_model.specs.Reached.{Reached, IsFinishing}
use Rattle.world_model.specs.records.Ready.{all_requests_right}
use Rattle.world_model.specs.Reported.{IsReported}
use Rattle.world_model.specs.Traced.{Traced}
use Rattle.world_model.specs.records.Wire.{counted_with}

-- From where a run had come to it goes on, event by event, to where it comes at last.
pub data RunsOn (all : List Note) (whole : List Served) (last : Seen) (end : Traced) : List Note
    → List Served → Seen → Traced → Type 0 where
  IsThere : RunsOn all whole last end all whole last end
  OneMore : (notes : List Note) (items more : List Served) (before after : Seen) (old new : Traced)
      (event : Event) (note : Note) → OneEvent before old event note more [] after new
      → RunsOn all whole last end (notes ++ note ∷ []) (items ++ more) after new
      → RunsOn all whole last end notes items before old

-- as the report tells it: how many entries of a session were stored up to an event
abbrev pub stored_by : Document → Report → SessionId → ℕ → ℕ
stored_by document report session event =
    stored_up_to (journal_before document).entries (stored_entries report) session event

-- behind a frame that was answered there are as many as the session has answered Committed with it
abbrev pub is_counted_by : (SessionId → ℕ → ℕ) → ℕ → Handled → Bool
is_counted_by count commits one = implies (is_some one.reply)
    (count one.served.session one.served.event == commits)

abbrev pub are_counted_from : (SessionId → ℕ → ℕ) → ℕ → List Handled → Bool
are_counted_from count commits [] = true
are_counted_from count commits (one ∷ others) =
    is_counted_by count (counted_with commits one.served.item) one
    && are_counted_from count (counted_with commits one.served.item) others

abbrev pub are_counted : (SessionId → ℕ → ℕ) → Traced → Bool
are_counted count t = list_all (λ link. are_counted_from count 0 link.served) t.machine.links

-- wherever the run had come to that the report tells
abbrev pub RunsCountEntries : Type 0
RunsCountEntries =
    (document : Document) (report : Report) (seen : Seen) (t : Traced) (server : Server)
    (events : List Event) (notes : List Note) (items : List Served) (before : Seen)
    (old : Traced)
    → IsTrue (all_requests_right document) → IsReported document report seen t server
    → Reached document events notes items before old
    → RunsOn report.notes report.served seen t notes items before old
    → IsTrue (are_counted (stored_by document report) old)

abbrev pub FinishesCountEntries : Type 0
FinishesCountEntries =
    (document : Document) (report : Report) (seen : Seen) (t : Traced) (server : Server)
    (place : Place) (notes : List Note) (items : List Served) (before : Seen) (old : Traced)
    → IsTrue (all_requests_right document) → IsReported document report seen t server
    → IsFinishing document place notes items before old
    → RunsOn report.notes report.served seen t notes items before old
    → IsTrue (are_counted (stored_by document report) old)
