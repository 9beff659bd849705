-- The scripts of clients each of whose calls is one that there is.
use Rattle.std.specs.Prelude.{Bool}
use Rattle.std.specs.List.{list_all}
use Rattle.svc_values.specs.meaning.Calls.{is_made}
use Rattle.outage_schedule.specs.declared.document.Request.{Request}
use Rattle.outage_schedule.specs.declared.document.Client.{Client}

unfoldable pub has_made_calls : Request → Bool
has_made_calls request = list_all is_made request.calls

unfoldable pub has_made_requests : Client → Bool
has_made_requests client = list_all has_made_calls client.requests
