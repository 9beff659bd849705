-- Which events a run may have.
use Rattle.std.specs.Prelude.{◌≡◌, ◌≤◌, ◌<◌, ℕ, false}
use Rattle.std.specs.List.{AllByRecursion}
use Rattle.svc_values.specs.Calls.{IsMade}
use Rattle.svc_values.specs.Identifiers.{IsLtxid}
use Rattle.outage_schedule.specs.declared.event.Event.{Event}
use Rattle.outage_schedule.specs.declared.event.Event.TheVariants as event
use Rattle.server_model.specs.meaning.ServiceCalls.{is_failover}

-- One of a document with so many clients. Only a crash of a server that is up may take a store
-- away.
abbrev pub IsAllowed : ℕ → Event → Type 0
IsAllowed clients (event.Go client) = (0 < client) × (client ≤ clients)
IsAllowed clients (event.UpCrash after pick) = is_failover pick ≡ false
IsAllowed clients (event.Outside calls) = AllByRecursion IsMade calls
IsAllowed clients (event.Ask ltxid) = IsLtxid ltxid
IsAllowed clients _ = Unit {0}
