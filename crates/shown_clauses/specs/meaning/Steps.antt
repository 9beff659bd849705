-- The steps of the clients: each `go` note with what the step took, by the notes and the served
-- items alone. Nothing is tested here.
use Rattle.std.specs.Prelude.{ℕ, ◌==◌, Bool, true, false, List, [], ◌∷◌, ◌++◌, filter, fold, flat_map, Option, Some, None, option_map, option_and_then}
use Rattle.svc_values.specs.declared.entry.Ltxid.{Ltxid}
use Rattle.svc_values.specs.declared.entry.SessionId.{SessionId}
use Rattle.outage_schedule.specs.declared.item.Item.{Item}
use Rattle.outage_schedule.specs.declared.item.Item.TheVariants as item
use Rattle.outage_schedule.specs.declared.item.Served.{Served}
use Rattle.outage_schedule.specs.declared.note.GoNote.{GoNote}
use Rattle.outage_schedule.specs.declared.note.GoNote.TheVariants as go
use Rattle.outage_schedule.specs.declared.note.Note.{Note}
use Rattle.outage_schedule.specs.declared.note.Note.TheVariants as note
use Rattle.outage_schedule.specs.declared.report.Report.{Report}
use Rattle.svc_values.specs.meaning.Identifiers.{session_of}
use Rattle.shown_clauses.specs.meaning.Fronts.{first_item}
use Rattle.shown_clauses.specs.meaning.Happenings.{Happening, happenings}
use Rattle.shown_clauses.specs.meaning.Links.{Link, Seen, Turn, nothing_seen, link_of, link_of_session, is_hello, turn_of, after_happening}

-- A step of a client: its event and tick, its note, the reply that it took, the session that it
-- acquired. Where it took an outcome, `lost` is the connection of the session of that identifier.
pub record Step : Type 0 where
  pub event : ℕ
  pub tick : ℕ
  pub client : ℕ
  pub did : GoNote
  pub taken : Option Served
  pub session : Option SessionId
  pub lost : Option Link

-- the reply that a step takes
abbrev pub reply_at : List Link → GoNote → Option Served
reply_at links (go.Took connection sent) =
    option_and_then (λ link. first_item link.replies) (link_of connection links)
reply_at links _ = None

-- the session of a Hello
abbrev pub greeted : Bool → Option Served → Option SessionId
greeted true reply = option_map (λ one. one.session) reply
greeted false reply = None

-- the session that it acquires: that of the connection which it was lent, or whose Hello it took
abbrev pub session_at : List Link → GoNote → Option Served → Option SessionId
session_at links (go.Lent connection) reply =
    option_map (λ link. link.session) (link_of connection links)
session_at links _ reply = greeted (is_hello reply) reply

abbrev pub asked_of : Item → Option Ltxid
asked_of (item.Outcome x result) = Some x
asked_of _ = None

-- the connection of the session of the identifier whose outcome it takes
abbrev pub lost_at : List Link → Option Served → Option Link
lost_at links reply = option_and_then (λ x. link_of_session (session_of x) links)
    (option_and_then (λ one. asked_of one.item) reply)

abbrev pub step_at : List Link → Happening → ℕ → GoNote → Step
step_at links happening client did =
    let reply : Option Served = reply_at links did in
    record {
      event = happening.event;
      tick = happening.tick;
      client = client;
      did = did;
      taken = reply;
      session = session_at links did reply;
      lost = lost_at links reply;
    }

-- A client that is finished makes no step.
abbrev pub steps_at : Seen → Happening → Note → List Step
steps_at seen happening (note.Go client go.Idle) = []
steps_at seen happening (note.Go client did) = step_at seen.links happening client did ∷ []
steps_at seen happening _ = []

abbrev pub steps_from : Seen → List Happening → List Step
steps_from seen [] = []
steps_from seen (happening ∷ happenings) =
    steps_at seen happening happening.noted
    ++ steps_from (after_happening seen happening) happenings

-- the steps of all clients, in order
abbrev pub steps : Report → List Step
steps report = steps_from nothing_seen (happenings report)

-- the steps of one client
abbrev pub steps_of : ℕ → List Step → List Step
steps_of client all = filter (λ step. step.client == client) all

-- the turns of all sessions
abbrev pub turns_seen : Seen → List Turn
turns_seen seen = flat_map turn_of seen.links ++ seen.over

abbrev pub turns : Report → List Turn
turns report = turns_seen (fold after_happening nothing_seen (happenings report))
