-- An event beside its note.
use Rattle.std.specs.Prelude.{ℕ, ◌==◌, Bool, Option, Some, None}
use Rattle.svc_values.specs.declared.entry.Ltxid.{Ltxid}
use Rattle.svc_values.specs.meaning.Identifiers.{same_ltxid}
use Rattle.outage_schedule.specs.declared.event.Event.{Event}
use Rattle.outage_schedule.specs.declared.event.Event.TheVariants as event
use Rattle.outage_schedule.specs.declared.note.Note.{Note}
use Rattle.outage_schedule.specs.declared.note.Note.TheVariants as note
use Rattle.outage_schedule.specs.declared.note.GoNote.{GoNote}
use Rattle.outage_schedule.specs.declared.note.FrameName.{FrameName}
use Rattle.outage_schedule.specs.declared.note.Reached.{Reached}
use Rattle.outage_schedule.specs.declared.note.AskResult.{AskResult}
use Rattle.outage_schedule.specs.declared.note.OutsideNote.{OutsideNote}
use Rattle.server_model.specs.meaning.ServiceCalls.{is_failover}
use Rattle.world_model.specs.meaning.Noting.{only_if}

-- what happened: the event, with what its note says
pub data Noted : Type 0 where
  Went : (client : ℕ) → (did : GoNote) → Noted
  ServedOn : (connection : ℕ) → (frame : Option FrameName) → Noted
  CutOff : (connection up down : ℕ) → (reached : Option Reached) → Noted
  Reaped : (connection : ℕ) → (reaped : Bool) → Noted
  Crashed : (connection after : ℕ) → (failover down : Bool) → Noted
  Opened : (incarnation : Option ℕ) → Noted
  OpeningStopped : (made : Bool) → Noted
  Ticked : Noted
  RanOutside : (ran : Option OutsideNote) → Noted
  Asked : (ltxid : Ltxid) → (told : Option AskResult) → Noted
  Drained : (closed : ℕ) → Noted

-- The note is one of this event: it is of its kind, and names what the event names.
abbrev pub matched : Event → Note → Option Noted
matched (event.Go client) (note.Go named did) = only_if (named == client) (Went client did)
matched (event.Serve connection) (note.Serve named frame) =
    only_if (named == connection) (ServedOn connection frame)
matched (event.Cut connection up down) (note.Cut named reached) =
    only_if (named == connection) (CutOff connection up down reached)
matched (event.Reap connection) (note.Reap named reaped) =
    only_if (named == connection) (Reaped connection reaped)
matched (event.Crash connection after pick) (note.Crash named down) =
    only_if (named == connection) (Crashed connection after (is_failover pick) down)
matched event.Up (note.Up incarnation) = Some (Opened incarnation)
matched (event.UpCrash after pick) (note.UpCrash made) = Some (OpeningStopped made)
matched event.Tick note.Tick = Some Ticked
matched (event.Outside calls) (note.Outside ran) = Some (RanOutside ran)
matched (event.Ask ltxid) (note.Ask named told) =
    only_if (same_ltxid named ltxid) (Asked ltxid told)
matched event.Drain (note.Drain closed) = Some (Drained closed)
matched _ _ = None
