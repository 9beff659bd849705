-- What holds of a whole run.
use Rattle.std.specs.Prelude.{◌≡◌, IsTrue, List}
use Rattle.outage_schedule.specs.declared.document.Document.{Document}
use Rattle.outage_schedule.specs.declared.event.Event.{Event}
use Rattle.outage_schedule.specs.declared.item.Served.{Served}
use Rattle.outage_schedule.specs.declared.note.Note.{Note}
use Rattle.outage_schedule.specs.declared.report.Report.{Report}
use Rattle.server_model.specs.Seen.{Seen}
use Rattle.world_model.specs.meaning.Followed.{transcripts_of, followed}
use Rattle.world_model.specs.Orderly.{Orderly}
use Rattle.world_model.specs.Reached.{Reached, IsRun}
use Rattle.world_model.specs.records.Ready.{all_requests_right}
use Rattle.world_model.specs.Traced.{Traced}

-- A report that has the notes and items of a whole run, and whose clients were shown what the run's
-- were, is one that its events lead to.
abbrev pub RunsAreFollowed : Type 0
RunsAreFollowed =
    (document : Document) (report : Report) (seen : Seen) (t : Traced)
    → IsRun document report.notes report.served seen t
    → report.clients ≡ transcripts_of t.machine → IsTrue (followed document report)

-- wherever a run has come to, it is orderly
abbrev pub RunsAreOrderly : Type 0
RunsAreOrderly =
    (document : Document) (events : List Event) (notes : List Note) (items : List Served)
    (seen : Seen) (t : Traced)
    → IsTrue (all_requests_right document) → Reached document events notes items seen t → Orderly t
