-- What no clause on showings looks at is left out: the event that ended a connection, the tick of a
-- step, and the connection that it lost.
use Rattle.std.specs.Prelude.{ℕ, Bool, true, false, List, [], ◌∷◌, ◌++◌, map, None}
use Rattle.outage_schedule.specs.declared.item.Served.{Served}
use Rattle.outage_schedule.specs.declared.note.GoNote.{GoNote}
use Rattle.outage_schedule.specs.declared.note.GoNote.TheVariants as go
use Rattle.outage_schedule.specs.declared.note.Note.{Note}
use Rattle.outage_schedule.specs.declared.note.Note.TheVariants as note
use Rattle.shown_clauses.specs.meaning.Links.{Link, Seen, linked, in_turn, over_by, after_go}
use Rattle.shown_clauses.specs.meaning.Steps.{Step, reply_at, session_at}

abbrev pub plain_link : Link → Link
plain_link link = record link { ended = 0 }

abbrev pub plain_seen : Seen → Seen
plain_seen seen = record seen { links = map plain_link seen.links }

abbrev pub plain_step : Step → Step
plain_step step = record step { tick = 0; lost = None }

-- ---- what an event does, without that

abbrev pub plain_item : Note → Seen → Served → Seen
plain_item noted seen one =
    let links : List Link = linked noted seen.links one in
    record {
      links = in_turn one.session one.item links;
      over = over_by one.session one.item links ++ seen.over;
    }

abbrev pub plain_note : ℕ → Note → List Link → List Link
plain_note event (note.Go client did) links = after_go client event did links
plain_note event _ links = links

-- the step of a note, by the connections before it
abbrev pub step_by : List Link → ℕ → ℕ → GoNote → Step
step_by links event client did =
    record {
      event = event;
      tick = 0;
      client = client;
      did = did;
      taken = reply_at links did;
      session = session_at links did (reply_at links did);
      lost = None;
    }

-- a client that is finished makes no step
abbrev pub is_idle : GoNote → Bool
is_idle go.Idle = true
is_idle _ = false

abbrev pub steps_if : Bool → List Link → ℕ → ℕ → GoNote → List Step
steps_if true links event client did = []
steps_if false links event client did = step_by links event client did ∷ []

abbrev pub steps_by : List Link → ℕ → Note → List Step
steps_by links event (note.Go client did) = steps_if (is_idle did) links event client did
steps_by links event _ = []
