-- What a service's history has of an event: the frames that were served then and the identifiers
-- that were asked, in order. Here is what contracts and proofs say of it besides.
use Rattle.std.specs.Prelude.{◌≡◌, ℕ, List, [], ◌∷◌, ◌++◌, Option, Some, if◌then◌else◌}
use Rattle.outage_schedule.specs.declared.event.Event.{Event}
use Rattle.outage_schedule.specs.declared.event.Event.TheVariants as event
use Rattle.outage_schedule.specs.declared.note.Note.{Note}
use Rattle.outage_schedule.specs.declared.note.Note.TheVariants as note
use Rattle.outage_schedule.specs.declared.item.Served.{Served}
use Rattle.server_model.specs.meaning.Outcomes.{Says}
use Rattle.server_model.specs.Runs.{Happened, Served as ServedFrame, Asked}
use Rattle.server_model.specs.ServiceCalls.{RunsAre, begins_outside}
use Rattle.service_calls.specs.Answers.{runs_of}
use Rattle.world_model.specs.meaning.Machines.{Machine, next_session}
use Rattle.world_model.specs.meaning.Serving.{Front, front_at, outcome_frame}
use Rattle.world_model.specs.meaning.ServiceDid.{front_telling}

-- the frame that stands first is served, as the first item says
abbrev pub front_served : ℕ → Option Front → List Served → List Happened
front_served now (Some front) (served ∷ items) =
    ServedFrame served.session now front.first.frame (front_telling front served) ∷ []
front_served now _ _ = []

-- An event that serves a frame has one thing, one that runs calls outside what these did in a
-- session of their own, a question one, and every other event has none. (The machine follows the
-- event, so a frame that is noted stands first.)
abbrev pub ServiceDid : Machine → Event → Note → List Served → List Happened → Type 0
ServiceDid m (event.Serve connection) note items more =
    more ≡ front_served m.tick (front_at m.links connection) items
ServiceDid m (event.Crash connection after pick) note items more =
    more ≡ (if m.server.is_up then front_served m.tick (front_at m.links connection) items else [])
ServiceDid m (event.Outside calls) (note.Outside (Some ran)) items more =
    (runs : List Happened) × ((more ≡ begins_outside (next_session m.server) m.tick ++ runs)
    × RunsAre (next_session m.server) m.tick calls (runs_of ran) runs)
ServiceDid m (event.Ask x) (note.Ask named (Some told)) items more =
    more ≡ Asked x (Says (outcome_frame told)) ∷ []
ServiceDid m _ _ items more = more ≡ []
