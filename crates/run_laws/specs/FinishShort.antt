-- The finish of a run is short.
use Rattle.std.specs.Prelude.{◌≤◌, ◌^◌, IsTrue, Bool, nat_le, List, length, flat_map}
use Rattle.std.specs.List.{list_all}
use Rattle.svc_values.specs.declared.call.Call.{Call}
use Rattle.outage_schedule.specs.declared.document.Request.{Request}
use Rattle.outage_schedule.specs.declared.document.Client.{Client}
use Rattle.outage_schedule.specs.declared.document.Document.{Document}
use Rattle.outage_schedule.specs.declared.event.Event.{Event}
use Rattle.outage_schedule.specs.declared.note.Note.{Note}
use Rattle.outage_schedule.specs.declared.item.Served.{Served}
use Rattle.server_model.specs.Seen.{Seen}
use Rattle.world_model.specs.meaning.Finishing.{AtServer}
use Rattle.world_model.specs.Reached.{Reached}
use Rattle.world_model.specs.records.Ready.{all_requests_right}
use Rattle.world_model.specs.Remaining.{remaining}
use Rattle.world_model.specs.Traced.{Traced}

-- all calls of the scripts of these clients
abbrev pub calls_of_scripts : List Client → List Call
calls_of_scripts clients = flat_map (λ client. flat_map (λ request. request.calls) client.requests)
    clients

-- a request is submitted again four times at most
abbrev pub is_repeated_little : Request → Bool
is_repeated_little request = nat_le request.again 4

abbrev pub are_repeated_little : Document → Bool
are_repeated_little document = list_all (λ client. list_all is_repeated_little client.requests)
    document.clients

-- The limits of a document, of what makes its finish long.
pub record AreLimits (document : Document) : Type 0 where
  pub delay : document.service.delay ≤ 1000
  pub wait : document.service.pool.wait ≤ 1000000
  pub replays : document.service.replays ≤ 4
  pub recorded : document.service.record_limit ≤ 256
  pub clients : length document.clients ≤ 64
  pub calls : length (calls_of_scripts document.clients) ≤ 2048
  pub have_calls : IsTrue (all_requests_right document)
  pub again : IsTrue (are_repeated_little document)

-- Wherever a run of at most 100,000 events has come to, so much at most is left of the finish that
-- begins there.
abbrev pub FinishIsShort : Type 0
FinishIsShort =
    (document : Document) (events : List Event) (notes : List Note) (items : List Served)
    (seen : Seen) (t : Traced)
    → AreLimits document → Reached document events notes items seen t → length events ≤ 100000
    → remaining t.setting t.machine AtServer ≤ 2 ^ 44
