-- A schedule without runs outside of the clients.
use Rattle.std.specs.Prelude.{◌≡◌, Bool, true, false, not, IsTrue, List, []}
use Rattle.std.specs.List.{list_all}
use Rattle.outage_schedule.specs.declared.document.Document.{Document}
use Rattle.outage_schedule.specs.declared.event.Event.{Event}
use Rattle.outage_schedule.specs.declared.event.Event.TheVariants as event
use Rattle.outage_schedule.specs.declared.report.Report.{Report}
use Rattle.run_clauses.specs.meaning.Sessions.{outside_sessions}
use Rattle.world_model.specs.meaning.Followed.{followed}

abbrev pub is_outside : Event → Bool
is_outside (event.Outside calls) = true
is_outside _ = false

abbrev pub none_outside : List Event → Bool
none_outside events = list_all (λ one. not (is_outside one)) events

-- Where a schedule has no `outside`, no note of its run tells a session of one.
abbrev pub InsidesTellNone : Type 0
InsidesTellNone = (document : Document) (report : Report) → IsTrue (none_outside document.schedule)
    → IsTrue (followed document report) → outside_sessions report.notes ≡ []
