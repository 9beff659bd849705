-- What the parts of a document that were read keep to.
use Rattle.std.specs.Prelude.{ℕ, pos, ◌==◌, Bool, true, ◌&&◌, ◌||◌, nat_le, int_le, length}
use Rattle.std.specs.List.{list_all}
use Rattle.std.specs.Str.{bytes_eq}
use Rattle.json_form.specs.Arrays.{have_distinct_keys}
use Rattle.svc_values.specs.declared.schema.Schema.{Schema}
use Rattle.svc_values.specs.meaning.Kinds.{row_fits, has_column}
use Rattle.svc_values.specs.meaning.Same.{same_value}
use Rattle.svc_values.specs.meaning.Schemas.{is_declared, key_of}
use Rattle.svc_values.specs.meaning.Calls.{is_made}
use Rattle.outage_schedule.specs.declared.document.ServiceOf.{ServiceOf}
use Rattle.outage_schedule.specs.declared.document.DocTable.{DocTable}
use Rattle.outage_schedule.specs.declared.document.DocSequence.{DocSequence}
use Rattle.outage_schedule.specs.declared.document.Request.{Request}
use Rattle.outage_schedule.specs.declared.document.Client.{Client}
use Rattle.outage_schedule.specs.declared.event.Event.{Event}
use Rattle.outage_schedule.specs.declared.event.Event.TheVariants as event
use Rattle.document_forms.specs.meaning.Numbers.{is_count, is_small_ltxid}
use Rattle.document_forms.specs.Numbers.{is_between}
use Rattle.document_forms.specs.meaning.Scripts.{is_one_transaction}

-- the limits of the service's members
unfoldable pub is_service : ServiceOf → Bool
is_service service =
    is_between 1 1000 service.retries && (is_between 0 1000 service.delay
    && (is_between 0 1000000 service.timeout
    && (is_between 0 4 service.replays && (is_between 1 256 service.record_limit
    && (is_between 1 64 service.pool.max
    && (is_between 1 1000000 service.pool.wait && is_between 0 1000000 service.retention))))))

abbrev pub schema_in : DocTable → Schema
schema_in table = record { name = table.name; columns = table.columns }

-- declared with columns of different names; each row fits them and has a key of its own; it is
-- indexed by different columns
unfoldable pub is_table : DocTable → Bool
is_table table =
    is_declared (schema_in table) && (list_all (row_fits table.columns) table.rows
    && (have_distinct_keys same_value key_of table.rows && (nat_le (length table.rows) 10000
    && (list_all (has_column table.columns) table.index
    && have_distinct_keys bytes_eq (λ name. name) table.index))))

abbrev pub is_sequence : DocSequence → Bool
is_sequence sequence = int_le (pos 0) sequence.start && int_le sequence.start (pos 1000000000)

-- 1 to 1,024 calls that can be made; only one transaction is submitted again
unfoldable pub is_request : Request → Bool
is_request request =
    list_all is_made request.calls && (is_between 1 1024 (length request.calls)
    && (is_between 0 4 request.again
    && ((request.again == 0) || is_one_transaction request.calls)))

unfoldable pub is_client : Client → Bool
is_client client = list_all is_request client.requests

-- an image of 0 to 3; with a second store also 4 more, for a crash that leaves it alone
abbrev pub is_pick : Bool → ℕ → Bool
is_pick standby pick = nat_le pick 3 || (standby && nat_le pick 7)

-- its client is among so many, and the first store is lost for good behind it only where there is a
-- second one
abbrev pub fits : ℕ → Bool → Event → Bool
fits clients standby (event.Go client) = nat_le client clients
fits clients standby (event.Crash connection after pick) = standby || nat_le pick 3
fits clients standby _ = true

-- an event of a document with so many clients, and with a second store or not
unfoldable pub is_event : ℕ → Bool → Event → Bool
is_event clients standby (event.Go client) = is_between 1 clients client
is_event clients standby (event.Serve connection) = is_count connection
is_event clients standby (event.Cut connection up down) =
    is_count connection && (is_count up && is_count down)
is_event clients standby (event.Reap connection) = is_count connection
is_event clients standby (event.Crash connection after pick) =
    is_count connection && (is_count after && is_pick standby pick)
is_event clients standby event.Up = true
is_event clients standby (event.UpCrash after pick) = is_count after && nat_le pick 3
is_event clients standby event.Tick = true
is_event clients standby (event.Outside calls) =
    list_all is_made calls && is_between 1 1024 (length calls)
is_event clients standby (event.Ask ltxid) = is_small_ltxid ltxid
is_event clients standby event.Drain = true
