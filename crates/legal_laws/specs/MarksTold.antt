-- What the report of a run tells of the values that were kept for the calls with the mark.
use Rattle.std.specs.Prelude.{◌≡◌, ◌+◌, ℕ, true, IsTrue, List, [], ◌∷◌, Some}
use Rattle.svc_values.specs.declared.call.Call.{Call}
use Rattle.svc_values.specs.declared.draw.Draw.{Draw}
use Rattle.svc_values.specs.declared.frame.Up.TheVariants as up
use Rattle.outage_schedule.specs.declared.document.Document.{Document}
use Rattle.outage_schedule.specs.declared.event.Event.{Event}
use Rattle.outage_schedule.specs.declared.item.Served.{Served}
use Rattle.outage_schedule.specs.declared.note.Note.{Note}
use Rattle.outage_schedule.specs.declared.report.Report.{Report}
use Rattle.server_model.specs.Runs.{Server}
use Rattle.server_model.specs.Seen.{Seen}
use Rattle.shown_clauses.specs.meaning.KeptDraws.{parts, is_marked_item, kept_at}
use Rattle.shown_clauses.specs.meaning.Parts.{Part}
use Rattle.world_model.specs.OneEvent.{OneEvent}
use Rattle.world_model.specs.records.Ready.{all_requests_right}
use Rattle.world_model.specs.Reported.{IsReported}
use Rattle.world_model.specs.meaning.Serving.{Front, front_at, is_ordinary}
use Rattle.world_model.specs.Traced.{Traced}
use Rattle.shown_laws.specs.Telling.{seen_told}
use Rattle.legal_laws.specs.Points.{Point, IsPoint, next_point, LeadsTo}

-- A call with the mark is served at an event behind this point, on the way to the last one.
pub record ServesMarked (document : Document) (last p : Point) (served : Served)
    (kept : List Draw) : Type 0 where
  pub event : Event
  pub note : Note
  pub after : Seen
  pub new : Traced
  pub happens : OneEvent p.seen p.t event note (served ∷ []) [] after new
  pub point : IsPoint document (next_point p event note (served ∷ []) after new)
  pub leads : LeadsTo document last (next_point p event note (served ∷ []) after new)
  pub number : ℕ
  pub front : Front
  pub there : front_at p.t.machine.links number ≡ Some front
  pub call : Call
  pub brings : front.first.frame ≡ up.Call true kept call
  pub ordinary : IsTrue (is_ordinary (record p.t.machine { event = p.t.machine.event + 1 }) front
      served)
  pub marked : IsTrue (is_marked_item served.item)

-- What its frame brought is what is told of it, by these submissions with their steps.
abbrev pub TellsMarked : Document → Point → List Part → Type 0
TellsMarked document last parts =
    (p : Point) (served : Served) (kept : List Draw) → IsPoint document p
    → ServesMarked document last p served kept
    → kept_at parts (seen_told p.notes p.items) served.session ≡ kept

-- the point at which the run of a report ends
abbrev pub end_of : List Event → Report → Seen → Traced → Point
end_of events report seen t = record {
  events = events;
  notes = report.notes;
  items = report.served;
  seen = seen;
  t = t;
}

-- so it is in the report of every whole run
abbrev pub ReportsTellMarked : Type 0
ReportsTellMarked =
    (document : Document) (report : Report) (seen : Seen) (t : Traced) (server : Server)
    (events : List Event)
    → IsTrue (all_requests_right document) → IsReported document report seen t server
    → TellsMarked document (end_of events report seen t) (parts document report)
